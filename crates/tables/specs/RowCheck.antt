use Rattle.std.specs.Prelude.{◌≡◌, ℕ, ◌^◌, Bool, List, length, Decides}
use Rattle.tables.specs.Wirings.{Inverse}
use Rattle.tables.specs.Agreement.{Agree}
use Rattle.tables.specs.Equivalence.{Equivalent}

-- what the row check answers: whether the tables agree, which is whether they are equivalent under the wiring's
-- inverse, and every wiring has one
pub record Checked {R : Type 0} (same : R → R → Bool) (n : ℕ) (w : ℕ → ℕ) (card part : List R) (r : Bool) : Type 0 where
  pub agree : Decides r (Agree same n w card part)
  pub equivalent : (π : ℕ → ℕ) → Inverse n w π → Decides r ((length card ≡ 2 ^ n) × (length part ≡ 2 ^ n) × Equivalent same n π card part)
  pub turned : (π : ℕ → ℕ) × Inverse n w π
