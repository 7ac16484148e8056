-- A worked example of the classes of a table's inputs.
use Rattle.std.proofs.Common.{◌≡◌, ℕ, ◌^◌, Bool, true, not, ◌&&◌, ◌||◌, eqb, leb, List, length, get_or, ap, ◌∙◌, ⊎_elim, arith}
use Rattle.std.proofs.lemmas.List.{get_or_default}
use Rattle.std.proofs.lemmas.Bool.{eqb-true, leb-true, and_parts, or_cases, not-true, both_ways}
use Rattle.rows.specs.declared.on_off.OnOff.{OnOff}
use Rattle.rows.specs.declared.on_off.OnOff.TheVariants.{Off}
use Rattle.rows.specs.Kinds.{on_off_same}
use Rattle.symmetry.specs.Symmetry.{exchanged, Symmetric, Class}
use Rattle.symmetry.proofs.Exchanges.{exchanged_lt}
use Rattle.worked_facts.specs.Cases.{Holds, classing}
use Rattle.worked_facts.proofs.Tests.{all_below, all_below_at, all_below_from}

module _ (n : ℕ) (rows : List OnOff) where
  -- row r is the same as the row with the values of i and k exchanged
  abbrev row_test : ℕ → ℕ → ℕ → Bool
  row_test i k r = on_off_same (get_or rows r Off) (get_or rows (exchanged n i k r) Off)

  abbrev symmetric_test : ℕ → ℕ → Bool
  symmetric_test i k = all_below (2 ^ n) (row_test i k)

  test_symmetric : (i k : ℕ) → length rows ≡ 2 ^ n → symmetric_test i k ≡ true → Symmetric on_off_same n rows i k
  test_symmetric i k size t r d lr =
      ap (λ x. on_off_same x (get_or rows (exchanged n i k r) d)) (get_or_default rows r d Off (omega (arith, size, lr)))
      ∙ ap (λ x. on_off_same (get_or rows r Off) x) (get_or_default rows (exchanged n i k r) d Off (omega (arith, size, exchanged_lt n i k r)))
      ∙ all_below_at (2 ^ n) (row_test i k) t r lr

  symmetric_tests : (i k : ℕ) → Symmetric on_off_same n rows i k → symmetric_test i k ≡ true
  symmetric_tests i k s = all_below_from (2 ^ n) (row_test i k) (λ r lr. s r Off lr)

  -- input j is not below c, if it is symmetric with i
  abbrev lowest_test : ℕ → ℕ → ℕ → Bool
  lowest_test i c j = not (symmetric_test i j) || leb c j

  abbrev class_test : ℕ → ℕ → Bool
  class_test i c = (symmetric_test i c && leb c i) && all_below n (lowest_test i c)

  test_class : (i c : ℕ) → length rows ≡ 2 ^ n → class_test i c ≡ true → Class on_off_same n rows i c
  test_class i c size t =
      let both = and_parts (symmetric_test i c && leb c i) (all_below n (lowest_test i c)) t in
      let own = and_parts (symmetric_test i c) (leb c i) both.0 in record {
        symmetric = test_symmetric i c size own.0;
        counted = leb-true c i own.1;
        lowest = λ j lj s. ⊎_elim
            (λ fails. absurd (both_ways (symmetric_test i j) (not-true (symmetric_test i j) fails) (symmetric_tests i j s)))
            (λ low. leb-true c j low)
            (or_cases (not (symmetric_test i j)) (leb c j) (all_below_at n (lowest_test i c) both.1 j lj));
      }

  abbrev pub classes_test : List ℕ → Bool
  classes_test classes = (eqb (length rows) (2 ^ n) && eqb (length classes) n) && all_below n (λ i. class_test i (get_or classes i 0))

  pub classes_hold : (classes : List ℕ) → classes_test classes ≡ true → Holds (classing n rows classes)
  classes_hold classes t =
      let each : ℕ → Bool = λ i. class_test i (get_or classes i 0) in
      let both = and_parts (eqb (length rows) (2 ^ n) && eqb (length classes) n) (all_below n each) t in
      let sized = and_parts (eqb (length rows) (2 ^ n)) (eqb (length classes) n) both.0 in (
        eqb-true (length classes) n sized.1,
        (λ i li. test_class i (get_or classes i 0) (eqb-true (length rows) (2 ^ n) sized.0) (all_below_at n each both.1 i li)),
      )
