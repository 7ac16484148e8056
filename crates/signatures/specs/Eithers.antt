use Rattle.std.specs.Prelude.{ℕ, List}
use Rattle.signatures.specs.declared.either.Either.{Either}
use Rattle.signatures.specs.declared.either.Either.TheVariants.{First, Second}

-- what the one of two that it is has and answers
abbrev pub either_count : {A B : Type 0} → (A → ℕ) → (B → ℕ) → Either A B → ℕ
either_count a b (First x) = a x
either_count a b (Second y) = b y

abbrev pub either_value : {A B R : Type 0} → (A → ℕ → List R → ℕ → ℕ → ℕ) → (B → ℕ → List R → ℕ → ℕ → ℕ) → Either A B → ℕ → List R → ℕ → ℕ → ℕ
either_value a b (First x) = a x
either_value a b (Second y) = b y
