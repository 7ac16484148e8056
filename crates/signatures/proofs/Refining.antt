-- What a signature is refined to, from the lists below it.
use Rattle.std.proofs.Common.{◌≡◌, ℕ, ◌+◌, ◌-◌, ◌*◌, ◌%◌, ◌^◌, ◌<◌, ◌≤◌, cond, eqb, List, [], map, get_or, sym, ap, ◌∙◌, ⊎_elim, arith, pow_mono}
use Rattle.std.proofs.lemmas.Bool.{cases_eq, cases_lt, cond-true, eq-eqb}
use Rattle.tables.specs.declared.table.Table.{Table}
use Rattle.tables.specs.Above.{SumsAbove}
use Rattle.tables.proofs.Pairs.{two_in, sum_above_two}
use Rattle.signatures.proofs.Quarter.{paired_small}
use Rattle.std.proofs.lemmas.Bool.Decides.{nat_tests}
use Rattle.tables.proofs.Sums.{sum_ext}
use Rattle.signatures.specs.Law.{given}
use Rattle.signatures.specs.Writing.{Written}
use Rattle.signatures.specs.Values.{paired, refined, refined_from}
use Rattle.signatures.proofs.Asking.{given_yes}

from_zero : (p : ℕ) → p - 0 ≡ p
from_zero p = omega arith

-- what an input is paired with itself does not count
unpaired : (k i x y a b : ℕ) → ((k ≡ i → ⊥) → x ≡ y) → a ≡ b → cond (eqb k i) 0 (x * (1 + a % 4096)) ≡ cond (eqb k i) 0 (y * (1 + b % 4096))
unpaired k i x y a b pair e =
    ⊎_elim
    (λ own. cond-true (eqb k i) 0 (x * (1 + a % 4096)) (eq-eqb k i own) ∙ sym (cond-true (eqb k i) 0 (y * (1 + b % 4096)) (eq-eqb k i own)))
    (λ other. ap (λ z. cond (eqb k i) 0 (z * (1 + a % 4096))) (pair other) ∙ ap (λ z. cond (eqb k i) 0 (y * (1 + z % 4096))) e)
    (cases_eq k i)

module _ {R : Type 0} (weight : R → ℕ) (table : Table R) (sums : List ℕ) (summed : SumsAbove weight table sums) where
  -- what two inputs share is the sum above both
  pub shared_paired : (i k : ℕ) → i < table.inputs → k < table.inputs → (k ≡ i → ⊥) → get_or sums (2 ^ i + 2 ^ k) 0 ≡ paired weight table.inputs table.rows.now i k
  shared_paired i k li lk ne = summed (2 ^ i + 2 ^ k) (two_in table.inputs i k li lk ne) ∙ sum_above_two (map weight table.rows.now) table.inputs i k li lk ne

  -- and small, also past the table, where nothing stands
  pub shared_small : ((x : R) → weight x < 256) → ((s : ℕ) → 2 ^ table.inputs ≤ s → get_or sums s 0 ≡ 0) → (i k : ℕ) → i < 10 → k < 10 → (k ≡ i → ⊥) → get_or sums (2 ^ i + 2 ^ k) 0 ≤ 65280
  shared_small light rest i k _ _ ne =
      let n = table.inputs in
      let past : 2 ^ n ≤ 2 ^ i + 2 ^ k → get_or sums (2 ^ i + 2 ^ k) 0 ≤ 65280 = λ le. omega (arith, rest (2 ^ i + 2 ^ k) le) in
      ⊎_elim
      (λ li. ⊎_elim
      (λ lk. omega (arith, shared_paired i k li lk ne, paired_small weight light n table.rows.now i k table.few li lk ne))
      (λ ge. let up : 2 ^ n ≤ 2 ^ k = pow_mono ge in past (omega arith))
      (cases_lt k n))
      (λ ge. let up : 2 ^ n ≤ 2 ^ i = pow_mono ge in past (omega arith))
      (cases_lt i n)

  module _ (count : ℕ) (value : ℕ → List R → ℕ → ℕ → ℕ) (places : ℕ) (are : places ≡ count) (few : places ≤ 64)
      (old below : List (List ℕ)) (h : Written table.inputs 0 (given count value table.inputs table.rows.now) old below) where
    pub refined_from_written : (i p : ℕ) → given places (λ n _ i p. refined_from sums below n i p) table.inputs table.rows.now i p ≡ given count (refined weight value) table.inputs table.rows.now i p
    refined_from_written i p =
        let n = table.inputs in
        let rows = table.rows.now in
        let same : i < n → p < count → refined_from sums below n i p ≡ refined weight value n rows i p = λ li lp.
        sum_ext n _ _ (λ k lk.
        unpaired k i (get_or sums (2 ^ i + 2 ^ k) 0) (paired weight n rows i k) (get_or (get_or below k []) p 0) (value n rows k p) (shared_paired i k li lk)
        ((h k lk).after p (omega arith) (omega (arith, lp, are, few)) ∙ ap (given count value n rows k) (from_zero p) ∙ given_yes count value n rows k p lk lp)) in
        grind (arith, nat_tests)
