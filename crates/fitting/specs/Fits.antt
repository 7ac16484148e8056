use Rattle.std.specs.Prelude.{◌≡◌, ℕ, Bool, Some, None, Option}
use Rattle.tables.specs.Agreement.{Agree}
use Rattle.tables.specs.Wirings.{pin, Other, Before}
use Rattle.tables.specs.declared.table.Table.{Table}
use Rattle.tables.specs.declared.wiring.Wiring.{Wiring}

module _ {R : Type 0} (same : R → R → Bool) (card part : Table R) where
  abbrev pub AgreeUnder : (ℕ → ℕ) → Type 0
  AgreeUnder w = Agree same card.inputs w card.rows.now part.rows.now

  -- card and part agree under w, and every other wiring under which they do comes later in dictionary order
  pub record FirstAgreeing (w : ℕ → ℕ) : Type 0 where
    pub agree : AgreeUnder w
    pub first : (v : ℕ → ℕ) → AgreeUnder v → Other card.inputs w v → Before card.inputs w v

  -- the first wiring under which card and part agree, or none exactly where they agree under none
  abbrev pub Fits : Option Wiring → Type 0
  Fits (Some w) = (w.inputs ≡ card.inputs) × FirstAgreeing (pin w.pins)
  Fits None = (w : ℕ → ℕ) → AgreeUnder w → ⊥
