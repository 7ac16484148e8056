use Rattle.std.specs.Prelude.{◌≡◌, ℕ, Bool, List, Some, None, Option}
use Rattle.tables.specs.Wirings.{pin, Other, Before}
use Rattle.tables.specs.Agreement.{Agree}
use Rattle.tables.specs.declared.table.Table.{Table}
use Rattle.tables.specs.declared.wiring.Wiring.{Wiring}
use Rattle.matching.specs.Struck.{Spared}

module _ {R : Type 0} (same : R → R → Bool) (card part : Table R) (strikes : List (List Bool)) where
  -- card and part agree under w, and w uses no struck pair
  pub record Usable (w : ℕ → ℕ) : Type 0 where
    pub agree : Agree same card.inputs w card.rows.now part.rows.now
    pub spared : Spared strikes card.inputs w

  -- w is usable, and every other usable wiring comes later in dictionary order
  pub record First (w : ℕ → ℕ) : Type 0 where
    pub usable : Usable w
    pub first : (v : ℕ → ℕ) → Usable v → Other card.inputs w v → Before card.inputs w v

  -- what the search answers: the first usable wiring, or none where there is none
  abbrev pub Found : Option Wiring → Type 0
  Found (Some w) = (w.inputs ≡ card.inputs) × First (pin w.pins)
  Found None = (w : ℕ → ℕ) → Usable w → ⊥
