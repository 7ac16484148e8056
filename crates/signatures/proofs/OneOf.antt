-- What holds of the one of two that it is, holds of either.
use Rattle.std.proofs.Common.{◌≡◌, ℕ, List, sym, subst}
use Rattle.signatures.specs.Eithers.{either_count, either_value}
use Rattle.signatures.specs.declared.either.Either.{Either}
use Rattle.signatures.specs.declared.either.Either.TheVariants.{First, Second}

module _ {A B R : Type 0} (count_a : A → ℕ) (count_b : B → ℕ) (value_a : A → ℕ → List R → ℕ → ℕ → ℕ) (value_b : B → ℕ → List R → ℕ → ℕ → ℕ)
    (P : ℕ → (ℕ → List R → ℕ → ℕ → ℕ) → Type 0) (s : Either A B) where
  abbrev Holds : Either A B → Type 0
  Holds s = P (either_count count_a count_b s) (either_value value_a value_b s)

  pub by_first : (x : A) → s ≡ First x → P (count_a x) (value_a x) → Holds s
  by_first x e h = subst Holds (sym e) h

  pub by_second : (y : B) → s ≡ Second y → P (count_b y) (value_b y) → Holds s
  by_second y e h = subst Holds (sym e) h
