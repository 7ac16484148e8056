-- Whether a row of the card may be carried to a row of the part.
use Rattle.std.specs.Prelude.{◌≡◌, ◌≢◌, ℕ, Bool, true, false, ◌⊎◌, List, slice_index, slice_index_or}
use Rattle.tables.specs.declared.table.Table.{Table}

module _ {R : Type 0} (same : R → R → Bool) (card part : Table R) (card_sums part_sums : List ℕ) (r q : ℕ) where
  -- row r of the card is not the same as row q of the part, or the sums above them differ
  abbrev pub Parted : Type 0
  Parted =
      ((d : R) → same (slice_index_or card.rows.now r d) (slice_index_or part.rows.now q d) ≡ false)
      ⊎ (slice_index card_sums r ≢ slice_index part_sums q)

  -- what comparing the two answers
  abbrev pub Fits : Bool → Type 0
  Fits true =
      ((d : R) → same (slice_index_or card.rows.now r d) (slice_index_or part.rows.now q d) ≡ true)
      × (slice_index card_sums r ≡ slice_index part_sums q)
  Fits false = Parted
