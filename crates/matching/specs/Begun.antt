-- What the inner functions of the search promise each other about a wiring that is begun.
use Rattle.std.specs.Prelude.{◌≡◌, ℕ, ◌+◌, ◌^◌, ◌<◌, Bool, true, false, ◌⊎◌, List, Some, None, Option, ◌≢◌, slice_index, slice_index_or}
use Rattle.tables.specs.Wirings.{pin, Alike, Before}
use Rattle.tables.specs.Carry.{carry}
use Rattle.tables.specs.Above.{SumsAbove}
use Rattle.tables.specs.Making.{Extended}
use Rattle.tables.specs.declared.partial_wiring.PartialWiring.{PartialWiring}
use Rattle.tables.specs.declared.table.Table.{Table}
use Rattle.tables.specs.declared.wiring.Wiring.{Wiring}
use Rattle.matching.specs.declared.search.Search.{Search}
use Rattle.matching.specs.Struck.{Spared}
use Rattle.matching.specs.Fitting.{Fits}
use Rattle.matching.specs.Search.{Usable}
use Rattle.matching.specs.Exchange.{Lower}

-- the first m places are as they were
abbrev pub Kept : ℕ → List ℕ → List ℕ → Type 0
Kept m before after = (r : ℕ) → r < m → slice_index after r ≡ slice_index before r

-- the search is for the same tables, strikes and lower pins as before, and the first m rows are carried as they were
pub record SameSearch {R : Type 0} (m : ℕ) (before after : Search R) : Type 0 where
  pub card : after.card.now ≡ before.card.now
  pub part : after.part.now ≡ before.part.now
  pub card_sums : after.card_sums.now ≡ before.card_sums.now
  pub part_sums : after.part_sums.now ≡ before.part_sums.now
  pub strikes : after.strikes.now.struck ≡ before.strikes.now.struck
  pub lowers : after.lowers.now ≡ before.lowers.now
  pub kept : Kept m before.carried after.carried

-- rows h to h + m - 1 are carried so much further than rows 0 to m - 1, and are the same as the part's rows there
pub record Settled {R : Type 0} (same : R → R → Bool) (card part : List R) (h m further : ℕ) (before after : List ℕ) : Type 0 where
  pub carries : (r : ℕ) → r < m → slice_index after (h + r) ≡ slice_index before r + further
  pub alike : (r : ℕ) (d : R) → r < m → same (slice_index_or card (h + r) d) (slice_index_or part (slice_index before r + further) d) ≡ true

-- v begins so
abbrev pub Begins : PartialWiring → (ℕ → ℕ) → Type 0
Begins begun v = Alike begun.len v (pin begun.pins)

module _ {R : Type 0} (same : R → R → Bool) (search : Search R) where
  abbrev card : Table R
  card = search.card.now

  abbrev part : Table R
  part = search.part.now

  abbrev strikes : List (List Bool)
  strikes = search.strikes.now.struck

  -- one of the rows h to 2h - 1 cannot be carried so much further than the row without that bit
  abbrev pub Differs : ℕ → ℕ → Type 0
  Differs h further = (r : ℕ) × (r < h) × Fits same card part search.card_sums.now search.part_sums.now (h + r) (slice_index search.carried r + further) false

  -- what deciding rows h to 2h - 1 answers, where their pin carries them so much further
  abbrev pub Deciding : ℕ → ℕ → Bool → List ℕ → Type 0
  Deciding h further true carried = Settled same card.rows.now part.rows.now h h further search.carried carried
  Deciding h further false carried = Differs h further

  -- no usable wiring that begins so gives the next input pin p
  abbrev pub Barred : PartialWiring → ℕ → Type 0
  Barred begun p = (v : ℕ → ℕ) → Usable same card part strikes v → Begins begun v → v begun.len ≢ p

  -- w is usable and begins so, and is the first in dictionary order
  pub record FirstFrom (begun : PartialWiring) (w : Wiring) : Type 0 where
    pub inputs : w.inputs ≡ card.inputs
    pub usable : Usable same card part strikes (pin w.pins)
    pub begins : Begins begun (pin w.pins)
    pub first : (v : ℕ → ℕ) → Usable same card part strikes v → Begins begun v → Alike card.inputs v (pin w.pins) ⊎ Before card.inputs (pin w.pins) v

  -- what the search answers among the wirings that begin so
  abbrev pub Within : PartialWiring → Option Wiring → Type 0
  Within begun (Some w) = FirstFrom begun w
  Within begun None = (v : ℕ → ℕ) → Usable same card part strikes v → Begins begun v → ⊥

module _ {R : Type 0} (same : R → R → Bool) (weight : R → ℕ) (search : Search R) where
  -- the wiring is begun for these tables with no struck pair, the rows that its pins decide are carried as noted, and
  -- are the same as the part's, the sums are those of the tables, and the lower pins can change places
  pub record Begun (begun : PartialWiring) : Type 0 where
    pub card_inputs : begun.inputs ≡ search.card.now.inputs
    pub card_sums : SumsAbove weight search.card.now search.card_sums.now
    pub part_sums : SumsAbove weight search.part.now search.part_sums.now
    pub lowers : Lower same search.part.now search.strikes.now.struck search.lowers.now
    pub spared : Spared search.strikes.now.struck begun.len (pin begun.pins)
    pub carries : (r : ℕ) → r < 2 ^ begun.len → slice_index search.carried r ≡ carry begun.len (pin begun.pins) r
    pub alike : (r : ℕ) (d : R) → r < 2 ^ begun.len → same (slice_index_or search.card.now.rows.now r d) (slice_index_or search.part.now.rows.now (carry begun.len (pin begun.pins) r) d) ≡ true

-- what giving the next input pin p answers; none where no usable wiring goes on so
abbrev pub Placing : {R : Type 0} → (R → R → Bool) → (R → ℕ) → Search R → PartialWiring → ℕ → Option PartialWiring → Search R → Type 0
Placing same weight before begun p (Some longer) after = Extended begun p (Some longer) × Begun same weight after longer
Placing same weight before begun p None after = Barred same before begun p
