-- Symmetry as it is published, over Boolean vectors.
use Rattle.std.proofs.Common.{◌≡◌, ℕ, ◌*◌, ◌^◌, ◌<◌, ◌≢◌, Bool, true, false, cond, List, length, get_or, sym, ap, ◌∙◌, arith}
use Rattle.std.proofs.lemmas.Bool.Decides.{nat_tests}
use Rattle.rows.specs.Laws.{RowKindLaws}
use Rattle.tables.specs.Wirings.{Wires}
use Rattle.tables.specs.Agreement.{bit, Agree}
use Rattle.tables.specs.Carry.{carry}
use Rattle.tables.specs.Equivalence.{named, Equivalent}
use Rattle.tables.proofs.Sums.{sum_ext}
use Rattle.tables.proofs.Carries.{agree_row, rows_agree, carried_only}
use Rattle.tables.proofs.Published.{named_lt, bit_named, vector, named_vector}
use Rattle.symmetry.specs.Symmetry.{swap, exchanged, Symmetric}
use Rattle.symmetry.specs.Published.{put, MixedCofactors}
use Rattle.symmetry.proofs.Exchanges.{swap_in, swap_back, exchanged_lt, bit_exchanged, exchanged_is}
use Rattle.symmetry.proofs.Symmetries.{of_moved}

pub named_ext : (n : ℕ) (x y : ℕ → Bool) → ((j : ℕ) → j < n → x j ≡ y j) → named n x ≡ named n y
named_ext n x y e = sum_ext n _ _ (λ j lj. ap (λ b. cond b 1 0 * 2 ^ j) (e j lj))

module _ (n i k : ℕ) (li : i < n) (lk : k < n) where
  -- exchanging two inputs of a row is exchanging two variables of its vector
  pub exchanged_named : (x : ℕ → Bool) → exchanged n i k (named n x) ≡ named n (λ j. x (swap i k j))
  exchanged_named x = exchanged_is n i k (named n x) (named n (λ j. x (swap i k j))) (named_lt n (λ j. x (swap i k j))) (λ j lj.
      bit_named n (λ j. x (swap i k j)) j lj ∙ sym (bit_named n x (swap i k j) (swap_in i k n j li lk lj)))

  pub swap_wires : Wires n (swap i k)
  swap_wires = (
    (λ j lj. swap_in i k n j li lk lj),
    (λ j l t. sym (swap_back i k j) ∙ ap (swap i k) t.2 ∙ swap_back i k l),
  )

  pub exchanged_carry : (r : ℕ) → exchanged n i k r ≡ carry n (swap i k) r
  exchanged_carry r = carried_only n (swap i k) swap_wires r (exchanged n i k r) (exchanged_lt n i k r) (λ j lj.
      bit_exchanged n i k r (swap i k j) (swap_in i k n j li lk lj) ∙ ap (λ x. bit x r) (swap_back i k j))

  module _ {R : Type 0} (same : R → R → Bool) (rows : List R) where
    pub to_equivalent : Symmetric same n rows i k → Equivalent same n (swap i k) rows rows
    to_equivalent s x d = ap (λ q. same (get_or rows (named n x) d) (get_or rows q d)) (sym (exchanged_named x)) ∙ s (named n x) d (named_lt n x)

    pub of_equivalent : Equivalent same n (swap i k) rows rows → Symmetric same n rows i k
    of_equivalent s r d lr =
        let x = vector r in
        let e = named_vector n r lr in
        ap (λ q. same (get_or rows q d) (get_or rows (exchanged n i k q) d)) (sym e)
        ∙ ap (λ q. same (get_or rows (named n x) d) (get_or rows q d)) (exchanged_named x) ∙ s x d

    pub to_agree : length rows ≡ 2 ^ n → Symmetric same n rows i k → Agree same n (swap i k) rows rows
    to_agree whole s = rows_agree same n rows rows (swap i k) swap_wires whole whole (λ r d lr.
        ap (λ q. same (get_or rows r d) (get_or rows q d)) (sym (exchanged_carry r)) ∙ s r d lr)

    pub of_agree : Agree same n (swap i k) rows rows → Symmetric same n rows i k
    of_agree a r d lr = ap (λ q. same (get_or rows r d) (get_or rows q d)) (exchanged_carry r) ∙ agree_row same n rows rows (swap i k) a r d lr

    module _ (ne : i ≢ k) where
      -- the vectors of the two cofactors
      abbrev pub on_off : (ℕ → Bool) → ℕ → Bool
      on_off x = put (put x i true) k false

      abbrev pub off_on : (ℕ → Bool) → ℕ → Bool
      off_on x = put (put x i false) k true

      turned : (x : ℕ → Bool) (j : ℕ) → on_off x (swap i k j) ≡ off_on x j
      turned x j = grind (arith, nat_tests)

      exchanged_cofactor : (x : ℕ → Bool) → exchanged n i k (named n (on_off x)) ≡ named n (off_on x)
      exchanged_cofactor x = exchanged_named (on_off x) ∙ named_ext n (λ j. on_off x (swap i k j)) (off_on x) (λ j lj. turned x j)

      pub to_cofactors : Symmetric same n rows i k → MixedCofactors same n rows i k
      to_cofactors s x d = ap (λ q. same (get_or rows (named n (on_off x)) d) (get_or rows q d)) (sym (exchanged_cofactor x)) ∙ s (named n (on_off x)) d (named_lt n (on_off x))

      named_on_off : (r : ℕ) → r < 2 ^ n → bit i r ≡ 1 → bit k r ≡ 0 → named n (on_off (vector r)) ≡ r
      named_on_off r lr on off = named_ext n (on_off (vector r)) (vector r) (λ j lj. grind (arith, nat_tests)) ∙ named_vector n r lr

      pub of_cofactors : (weight : R → ℕ) → RowKindLaws same weight → MixedCofactors same n rows i k → Symmetric same n rows i k
      of_cofactors weight laws s = of_moved same weight laws n rows i k li lk (λ r d lr on off.
          let e = named_on_off r lr on off in
          ap (λ q. same (get_or rows q d) (get_or rows (exchanged n i k q) d)) (sym e)
          ∙ ap (λ q. same (get_or rows (named n (on_off (vector r))) d) (get_or rows q d)) (exchanged_cofactor (vector r)) ∙ s (vector r) d)
