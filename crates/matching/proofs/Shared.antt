-- Under an agreeing wiring an input shares with the others what its pin shares with theirs.
use Rattle.std.proofs.Common.{◌≡◌, ℕ, suc, ◌+◌, ◌^◌, ◌<◌, cond, eqb, Bool, true, List, map, get_or, sym, ap, ◌∙◌, subst, ⊎_elim, add_comm, arith, pow_pos, eq-eqb}
use lib.Pow.{pow-lt}
use Rattle.std.proofs.lemmas.Bool.{cases_eq, cases_lt, cond-true}
use Rattle.std.proofs.lemmas.Bool.Decides.{nat_tests}
use Rattle.tables.specs.Agreement.{Agree, Carried}
use Rattle.tables.specs.Carry.{carry}
use Rattle.tables.specs.Above.{SumsAbove, sum_above}
use Rattle.tables.specs.declared.table.Table.{Table}
use Rattle.tables.proofs.Onto.{apart, back, back_into, there_back, back_there}
use Rattle.tables.proofs.Sums.{sum_reindex}
use Rattle.tables.proofs.Carries.{carry_up, carry_high, carry_lt, carry_carried}
use Rattle.tables.proofs.Pairs.{two_in}
use Rattle.tables.proofs.SumsAbove.{sum_there}
use Rattle.matching.specs.Sharing.{share, shared}

-- a row in which one input is on, and one in which two are
carry_none : (n : ℕ) (w : ℕ → ℕ) → carry n w 0 ≡ 0
carry_none n w = carry_up 0 n w 0 (omega arith) (omega arith)

carry_one : (n : ℕ) (w : ℕ → ℕ) (k : ℕ) → k < n → carry n w (2 ^ k) ≡ 2 ^ w k
carry_one n w k lk =
    let up : 2 ^ k < 2 ^ suc k = pow-lt (omega arith) in
    let e : 2 ^ k ≡ 2 ^ k + 0 = omega arith in
    let step = carry_up (suc k) n w (2 ^ k) (omega arith) up in
    let high = carry_high k w 0 (pow_pos k) in
    omega (arith, step, ap (λ r. carry (suc k) w r) e, high, carry_none k w)

carry_two_up : (n : ℕ) (w : ℕ → ℕ) (i k : ℕ) → i < k → k < n → carry n w (2 ^ k + 2 ^ i) ≡ 2 ^ w k + 2 ^ w i
carry_two_up n w i k li lk =
    let low : 2 ^ i < 2 ^ k = pow-lt li in
    let in_row : 2 ^ k + 2 ^ i < 2 ^ suc k = two_in (suc k) k i (omega arith) (omega arith) (λ e. omega arith) in
    omega (arith, carry_up (suc k) n w (2 ^ k + 2 ^ i) (omega arith) in_row, carry_high k w (2 ^ i) low, carry_one k w i li)

carry_two : (n : ℕ) (w : ℕ → ℕ) (i k : ℕ) → i < n → k < n → (k ≡ i → ⊥) → carry n w (2 ^ i + 2 ^ k) ≡ 2 ^ w i + 2 ^ w k
carry_two n w i k li lk ne =
    ⊎_elim
    (λ l. ap (λ r. carry n w r) (add_comm (2 ^ i) (2 ^ k)) ∙ carry_two_up n w i k l lk ∙ add_comm (2 ^ w k) (2 ^ w i))
    (λ ge. carry_two_up n w k i (omega arith) li)
    (cases_lt i k)

module _ {R : Type 0} (same : R → R → Bool) (weight : R → ℕ) (alike : (x y : R) → same x y ≡ true → weight x ≡ weight y) (card part : Table R) (inputs : card.inputs ≡ part.inputs)
    (card_sums part_sums : List ℕ) (in_card : SumsAbove weight card card_sums) (in_part : SumsAbove weight part part_sums) (w : ℕ → ℕ) (a : Agree same card.inputs w card.rows.now part.rows.now) where
  abbrev n : ℕ
  n = card.inputs

  -- the sums above a row and above the row that it is carried to
  pub sums_there : (r q : ℕ) → r < 2 ^ n → carry n w r ≡ q → get_or card_sums r 0 ≡ get_or part_sums q 0
  sums_there r q lr e =
      let lq : q < 2 ^ n = let l = carry_lt n n w r a.wires in omega arith in
      let c : Carried n w r q = subst (λ y. Carried n w r y) e (carry_carried n w a.wires r) in
      in_card r lr ∙ sum_there same weight alike n card.rows.now part.rows.now w a r q c ∙ ap (λ m. sum_above (map weight part.rows.now) m q) inputs ∙ sym (in_part q (subst (λ m. q < 2 ^ m) inputs lq))

  pub shared_there : (i : ℕ) → i < n → shared card_sums n i ≡ shared part_sums n (w i)
  shared_there i li =
      let f : ℕ → ℕ = λ k. cond (eqb k i) 0 (share (get_or card_sums (2 ^ i + 2 ^ k) 0) (get_or card_sums (2 ^ k) 0)) in
      let g : ℕ → ℕ = λ j. cond (eqb j (w i)) 0 (share (get_or part_sums (2 ^ w i + 2 ^ j) 0) (get_or part_sums (2 ^ j) 0)) in
      sum_reindex n w (back n w a.wires) f g a.wires.0 (back_into n w a.wires) (back_there n w a.wires) (there_back n w a.wires)
      (λ k lk. ⊎_elim
      (λ own. cond-true (eqb k i) 0 (share (get_or card_sums (2 ^ i + 2 ^ k) 0) (get_or card_sums (2 ^ k) 0)) (eq-eqb k i own)
      ∙ sym (cond-true (eqb (w k) (w i)) 0 (share (get_or part_sums (2 ^ w i + 2 ^ w k) 0) (get_or part_sums (2 ^ w k) 0)) (eq-eqb (w k) (w i) (ap w own))))
      (λ other.
      let others : w k ≡ w i → ⊥ = λ e. other (apart n w a.wires k i lk li e) in
      let both = sums_there (2 ^ i + 2 ^ k) (2 ^ w i + 2 ^ w k) (two_in n i k li lk other) (carry_two n w i k li lk other) in
      let single = sums_there (2 ^ k) (2 ^ w k) (pow-lt lk) (carry_one n w k lk) in
      grind (arith, nat_tests))
      (cases_eq k i))
