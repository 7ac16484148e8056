-- What the two signatures of the literature count.
use Rattle.std.proofs.Common.{◌≡◌, ℕ, zero, suc, ◌+◌, ◌-◌, ◌^◌, ◌≤◌, Bool, cond, ◌&&◌, eqb, List, map, get_or, sum, count_by, sym, refl, ap, ◌∙◌, ⊎_elim, add-one, arith, pow_mono}
use lib.Count.{ones, ones-le}
use lib.ListN.{get_or-map}
use Rattle.std.proofs.lemmas.List.FromFn.{sum_by-map-range_with_len_more}
use Rattle.std.proofs.lemmas.List.Sums.{sum-map}
use Rattle.std.proofs.lemmas.Bool.{cases_eq}
use Rattle.std.proofs.lemmas.Bool.Decides.{nat_tests}
use Rattle.std.specs.List.{range_with_len}
use Rattle.rows.specs.Kinds.{on_off_weight}
use Rattle.rows.specs.declared.on_off.OnOff.{OnOff}
use Rattle.rows.specs.declared.on_off.OnOff.TheVariants.{Off, On}
use Rattle.tables.specs.Agreement.{bit}
use Rattle.tables.specs.Sums.{sum_to}
use Rattle.tables.proofs.Sums.{sum_ext, sum_swap, sum_zero, sum_single, at}
use Rattle.signatures.specs.Literature.{is_on, on_with, CofactorCounts, BreakupCounts, BreakupSums}
use Rattle.signatures.specs.Values.{where_on, weight_at}
use Rattle.signatures.proofs.Ones.{ones_some}
use Rattle.signatures.proofs.Turns.{on_yes, on_no}

sum_counting : (f : ℕ → ℕ) (n : ℕ) → sum_to n f ≡ sum (map f (range_with_len 0 n))
sum_counting f zero = refl
sum_counting f (suc n) = ap (λ x. x + f n) (sum_counting f n) ∙ sym (sum_by-map-range_with_len_more (λ x. x) f 0 n n (omega arith)) ∙ ap (λ m. sum (map f (range_with_len 0 m))) (add-one n)

pub sum_counts : (test : ℕ → Bool) (n : ℕ) → sum_to n (λ r. cond (test r) 1 0) ≡ count_by test (range_with_len 0 n)
sum_counts test n = sum_counting (λ r. cond (test r) 1 0) n ∙ sum-map (λ r. cond (test r) 1 0) (range_with_len 0 n)

-- an on/off row weighs 1 where it is on
weighs_on : (x : OnOff) → on_off_weight x ≡ cond (is_on x) 1 0
weighs_on Off = refl
weighs_on On = refl

weight_on_lem : (rows : List OnOff) (r : ℕ) → weight_at on_off_weight rows r ≡ cond (is_on (get_or rows r Off)) 1 0
weight_on_lem rows r = get_or-map on_off_weight rows r Off ∙ weighs_on (get_or rows r Off)

nest : (a b : Bool) → ◌≡◌ {A = ℕ} (cond b (cond a 1 0) 0) (cond (a && b) 1 0)
nest a b = grind arith

pub cofactor_counts : CofactorCounts
cofactor_counts n rows i p =
    sum_ext (2 ^ n) _ (λ r. cond (on_with rows i r) 1 0) (λ r _. ap (λ x. where_on i r x) (weight_on_lem rows r) ∙ nest (is_on (get_or rows r Off)) (eqb (bit i r) 1))
    ∙ sum_counts (on_with rows i) (2 ^ n)

nest_three : (a b c : Bool) → ◌≡◌ {A = ℕ} (cond b (cond c (cond a 1 0) 0) 0) (cond ((a && b) && c) 1 0)
nest_three a b c = grind arith

pub breakup_counts : BreakupCounts
breakup_counts n rows i p =
    sum_ext (2 ^ n) _ (λ r. cond (on_with rows i r && eqb (ones r) (p + 1)) 1 0) (λ r _. ap (λ x. where_on i r (cond (eqb (ones r) (p + 1)) x 0)) (weight_on_lem rows r) ∙ nest_three (is_on (get_or rows r Off)) (eqb (bit i r) 1) (eqb (ones r) (p + 1)))
    ∙ sum_counts (λ r. on_with rows i r && eqb (ones r) (p + 1)) (2 ^ n)

-- each row with the input on counts at one place of the ten
pub breakup_sums : {R : Type 0} (weight : R → ℕ) → BreakupSums weight
breakup_sums weight n rows i few li =
    let term : ℕ → ℕ → ℕ = λ p r. where_on i r (cond (eqb (ones r) (p + 1)) (weight_at weight rows r) 0) in
    sum_swap 10 (2 ^ n) term
    ∙ sum_ext (2 ^ n) _ _ (λ r lr.
    ⊎_elim
    (λ on.
    let top : 2 ^ n ≤ 2 ^ 10 = pow_mono few in
    let some = ones_some n i r lr li on in
    let most = ones-le 10 r (omega arith) in
    sum_ext 10 (λ p. term p r) (at (ones r - 1) (weight_at weight rows r)) (λ p _. grind (arith, nat_tests))
    ∙ sum_single 10 (ones r - 1) (weight_at weight rows r) (omega arith) ∙ sym (on_yes i r _ on))
    (λ off. sum_ext 10 (λ p. term p r) (λ _. 0) (λ p _. on_no i r (cond (eqb (ones r) (p + 1)) (weight_at weight rows r) 0) off) ∙ sum_zero 10 ∙ sym (on_no i r _ off))
    (cases_eq (bit i r) 1))
