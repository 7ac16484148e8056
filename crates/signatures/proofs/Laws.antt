-- The law of each signature: a sum over the rows of a card is the sum over the rows that they are carried to.
use Rattle.std.proofs.Common.{arith, ◌≡◌, ℕ, ◌+◌, ◌*◌, ◌%◌, ◌^◌, ◌<◌, Bool, true, cond, eqb, List, sym, ap, ◌∙◌}
use lib.Count.{ones}
use Rattle.std.proofs.lemmas.Bool.Decides.{nat_tests}
use Rattle.tables.specs.Agreement.{bit, Agree}
use Rattle.tables.proofs.Sums.{sum_reindex}
use Rattle.tables.proofs.Onto.{back, back_into, there_back, back_there}
use Rattle.tables.proofs.Reindex.{carried, sum_rows, there, weight_there}
use Rattle.signatures.specs.Law.{Lawful}
use Rattle.signatures.specs.Values.{where_on, weight_at, cofactor, breakup, paired, refined}
use Rattle.signatures.proofs.Ones.{ones_there}

module _ {R : Type 0} (same : R → R → Bool) (weight : R → ℕ) (alike : (x y : R) → same x y ≡ true → weight x ≡ weight y) where
  module _ (n : ℕ) (card part : List R) (w : ℕ → ℕ) (a : Agree same n w card part) where
    abbrev to : ℕ → ℕ
    to = there same weight alike n card part w a

    -- input i is on in a row where pin w(i) is on in the row that it is carried to
    pub where_there : (i r x y : ℕ) → i < n → x ≡ y → where_on i r x ≡ where_on (w i) (to r) y
    where_there i r x y li e = ap (λ b. cond (eqb b 1) x 0) (sym (carried n w a.wires r i li)) ∙ ap (λ z. cond (eqb (bit (w i) (to r)) 1) z 0) e

    pub weighs_there : (r : ℕ) → r < 2 ^ n → weight_at weight card r ≡ weight_at weight part (to r)
    weighs_there r lr = weight_there same weight alike n card part w a r lr

    pub paired_there : (i k : ℕ) → i < n → k < n → paired weight n card i k ≡ paired weight n part (w i) (w k)
    paired_there i k li lk = sum_rows n w a.wires _ _ (λ r lr. where_there i r _ _ li (where_there k r _ _ lk (weighs_there r lr)))

  pub cofactor_lawful : Lawful 1 (cofactor weight) same
  cofactor_lawful n card part w a i p li lp = sum_rows n w a.wires _ _ (λ r lr. where_there n card part w a i r _ _ li (weighs_there n card part w a r lr))

  pub breakup_lawful : Lawful 10 (breakup weight) same
  breakup_lawful n card part w a i p li lp = sum_rows n w a.wires _ _ (λ r lr.
      let to = to n card part w a in
      where_there n card part w a i r _ _ li
      (ap (λ m. cond (eqb m (p + 1)) (weight_at weight card r) 0) (ones_there n w a.wires r lr)
      ∙ ap (λ x. cond (eqb (ones (to r)) (p + 1)) x 0) (weighs_there n card part w a r lr)))

  pub refined_lawful : (count : ℕ) (below : ℕ → List R → ℕ → ℕ → ℕ) → Lawful count below same → Lawful count (refined weight below) same
  refined_lawful count below law n card part w a i p li lp =
      sum_reindex n w (back n w a.wires) _ _ a.wires.0 (back_into n w a.wires) (back_there n w a.wires) (there_back n w a.wires) (λ k lk.
      let own : eqb k i ≡ eqb (w k) (w i) = (let to : k ≡ i → w k ≡ w i = ap w in let back = a.wires.1 k i in grind (arith, nat_tests)) in
      ap (λ b. cond b 0 (paired weight n card i k * (1 + below n card k p % 4096))) own
      ∙ ap (λ x. cond (eqb (w k) (w i)) 0 (x * (1 + below n card k p % 4096))) (paired_there n card part w a i k li lk)
      ∙ ap (λ x. cond (eqb (w k) (w i)) 0 (paired weight n part (w i) (w k) * (1 + x % 4096))) (law n card part w a k p lk lp))
