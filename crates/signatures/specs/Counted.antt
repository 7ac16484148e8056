use Rattle.std.specs.Prelude.{◌≡◌, ℕ, ◌<◌, Bool, false, Some, None, Option, ◌==◌}
use Rattle.signatures.specs.Values.{compared}

-- the one place of neighbour at which a pair counts, if any
abbrev pub Counted : {R : Type 0} → (R → R → Bool) → (R → ℕ) → R → R → Option ℕ → Type 0
Counted same weight off on (Some q) = (q < 3) × ((p : ℕ) → p < 3 → compared same weight p off on ≡ (p == q))
Counted same weight off on None = (p : ℕ) → p < 3 → compared same weight p off on ≡ false
