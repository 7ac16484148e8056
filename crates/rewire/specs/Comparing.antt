use Rattle.std.specs.Prelude.{◌≡◌, ℕ, List, map, length}
use Rattle.rows.specs.Kinds.{on_off_same}
use Rattle.rows.specs.declared.on_off.OnOff.{OnOff}
use Rattle.tables.specs.declared.table.Table.{Table}
use Rattle.lists.specs.Pairs.{struck_pairs}
use Rattle.lists.specs.Spread.{spread}
use Rattle.fitting.specs.Fits.{Fits}
use Rattle.typed_rows.specs.Reading.{digit, SpellsNone}
use Rattle.typed_rows.specs.Sizing.{NoTable}
use Rattle.typed_rows.specs.declared.size.Size.{Size}
use Rattle.rewire.specs.declared.comparison.Comparison.{Comparison}
use Rattle.rewire.specs.declared.failure.Failure.{Failure}
use Rattle.rewire.specs.declared.failure.Failure.TheVariants.{Usage, NotRows, Refused, Memory, Output}
use Rattle.rewire.specs.declared.failure.Side.TheVariants.{Card, Part}

abbrev pub IsSize : Table OnOff → Size → Type 0
IsSize table size = (size.inputs ≡ table.inputs) × (size.rows ≡ length table.rows.now)

-- lists n rows: the lists of all inputs of a table of n inputs
module _ (lists : ℕ → List OnOff → List (List ℕ)) where
  pub record Compares (card part : Table OnOff) (found : Comparison) : Type 0 where
    pub card_size : IsSize card found.card
    pub part_size : IsSize part found.part
    pub pairs : found.struck ≡ struck_pairs (lists card.inputs card.rows.now) (lists part.inputs part.rows.now)
    pub ways : found.spread ≡ spread (lists card.inputs card.rows.now) (lists part.inputs part.rows.now)
    -- the first wiring under which card and part agree, or none where there is none
    pub first : Fits on_off_same card part found.wiring

  -- the same of the tables that two texts spell
  abbrev pub ComparesTyped : List ℕ → List ℕ → Comparison → Type 0
  ComparesTyped card_text part_text found =
      (card : Table OnOff) × (part : Table OnOff) × (card_text ≡ map digit card.rows.now) × (part_text ≡ map digit part.rows.now)
      × Compares card part found

-- one of the texts spells no rows, or is of so many digits that the rows are no table, or there is no memory
abbrev pub CompareError : List ℕ → List ℕ → Failure → Type 0
CompareError card part Usage = ⊥
CompareError card part (NotRows Card) = SpellsNone card
CompareError card part (NotRows Part) = SpellsNone part
CompareError card part (Refused Card refusal) = NoTable (length card) refusal
CompareError card part (Refused Part refusal) = NoTable (length part) refusal
CompareError card part Memory = Unit {0}
CompareError card part Output = ⊥
