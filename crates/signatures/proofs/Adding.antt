-- What a row adds to the answers of breakup.
use Rattle.std.proofs.Common.{◌≡◌, ℕ, ◌+◌, ◌-◌, ◌^◌, ◌<◌, ◌≤◌, cond, eqb, List, sym, ap, ◌∙◌, ⊎_elim, arith, pow_mono}
use lib.Dec.{leb}
use lib.Count.{ones, ones-le}
use Rattle.std.proofs.lemmas.Bool.{le-leb, lt-leb, cases_lt}
use Rattle.std.proofs.lemmas.Bool.Decides.{nat_tests}
use Rattle.tables.specs.Agreement.{bit}
use Rattle.tables.specs.Sums.{sum_to}
use Rattle.tables.proofs.Sums.{sum_ext, sum_zero}
use Rattle.signatures.specs.Law.{given}
use Rattle.signatures.specs.Values.{where_on, weight_at, adds, breakup}
use Rattle.signatures.proofs.Asking.{given_yes, given_no_place}
use Rattle.signatures.proofs.Turns.{cond_most, weight_small}

pub adds_here : (from weight i r p : ℕ) → bit i r ≡ 1 → 1 ≤ ones r → p ≡ from + ones r - 1 → adds from weight i r p ≡ weight
adds_here from weight i r p on some e = grind (arith, nat_tests)

pub adds_other : (from weight i r p : ℕ) → 1 ≤ ones r → (p ≡ from + ones r - 1 → ⊥) → adds from weight i r p ≡ 0
adds_other from weight i r p some ne = grind (arith, nat_tests)

pub adds_off : (from weight i r p : ℕ) → (bit i r ≡ 1 → ⊥) → adds from weight i r p ≡ 0
adds_off from weight i r p off = grind (arith, nat_tests)

pub adds_none : (from i r p : ℕ) → adds from 0 i r p ≡ 0
adds_none from i r p = grind (arith, nat_tests)

module _ {R : Type 0} (weight : R → ℕ) (rows : List R) (from i p : ℕ) where
  -- what row r adds at place p of a list where the answers begin at from
  abbrev pub term : ℕ → ℕ
  term r = adds from (weight_at weight rows r) i r p

  pub term_small : ((x : R) → weight x < 256) → (r : ℕ) → term r ≤ 255
  term_small light r = cond_most (leb from p) _ 255 (cond_most (eqb (bit i r) 1) _ 255 (cond_most (eqb (ones r) (p - from + 1)) _ 255 (weight_small weight light rows r)))

  pub terms_before : (k : ℕ) → p < from → sum_to k term ≡ 0
  terms_before k lt = sum_ext k term (λ _. 0) (λ r _. let off = lt-leb from p lt in grind (arith, nat_tests)) ∙ sum_zero k

  -- no row has more than ten inputs on
  none_past : (n : ℕ) → n ≤ 10 → (q : ℕ) → 10 ≤ q → breakup weight n rows i q ≡ 0
  none_past n few q past =
      let top : 2 ^ n ≤ 2 ^ 10 = pow_mono few in
      sum_ext (2 ^ n) (λ r. where_on i r (cond (eqb (ones r) (q + 1)) (weight_at weight rows r) 0)) (λ _. 0)
      (λ r lr. let most = ones-le 10 r (omega arith) in grind (arith, nat_tests)) ∙ sum_zero (2 ^ n)

  pub terms_after : (n : ℕ) → n ≤ 10 → i < n → from ≤ p → sum_to (2 ^ n) term ≡ given 10 (breakup weight) n rows i (p - from)
  terms_after n few li le =
      sum_ext (2 ^ n) term (λ r. where_on i r (cond (eqb (ones r) (p - from + 1)) (weight_at weight rows r) 0)) (λ r _. ap (λ b. cond b (where_on i r (cond (eqb (ones r) (p - from + 1)) (weight_at weight rows r) 0)) 0) (le-leb from p le))
      ∙ ⊎_elim
      (λ lq. sym (given_yes 10 (breakup weight) n rows i (p - from) li lq))
      (λ past. none_past n few (p - from) past ∙ sym (given_no_place 10 (breakup weight) n rows i (p - from) past))
      (cases_lt (p - from) 10)
