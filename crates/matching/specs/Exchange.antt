-- Pins of a part that can change places.
use Rattle.std.specs.Prelude.{◌≡◌, ℕ, ◌<◌, Bool, List, length, slice_index}
use Rattle.symmetry.specs.Symmetry.{Symmetric}
use Rattle.tables.specs.Making.{Takes}
use Rattle.tables.specs.declared.partial_wiring.PartialWiring.{PartialWiring}
use Rattle.tables.specs.declared.table.Table.{Table}
use Rattle.matching.specs.Struck.{struck}

module _ {R : Type 0} (same : R → R → Bool) (part : Table R) (strikes : List (List Bool)) where
  -- the part stays the same when pins q and p change places, and they are struck for the same inputs
  pub record Exchangeable (q p : ℕ) : Type 0 where
    pub lower : q < part.inputs
    pub symmetric : Symmetric same part.inputs part.rows.now q p
    pub struck_alike : (i : ℕ) → i < part.inputs → struck strikes i q ≡ struck strikes i p

  -- where a lower pin stands for a pin, the two can change places
  pub record Lower (lowers : List ℕ) : Type 0 where
    pub ten : length lowers ≡ 10
    pub exchange : (p : ℕ) → p < part.inputs → slice_index lowers p < p → Exchangeable (slice_index lowers p) p

  -- a lower pin that can change places with p is still free
  abbrev pub Covered : PartialWiring → ℕ → Type 0
  Covered begun p = (q : ℕ) × (q < p) × Takes begun q × Exchangeable q p
