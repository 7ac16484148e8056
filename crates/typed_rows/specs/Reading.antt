use Rattle.std.specs.Prelude.{◌≡◌, ℕ, ◌<◌, ◌⊎◌, List, length, take, drop, map, Some, None, Ok, Err, vec_items, Option, Result, Vec, ◌≢◌}
use Rattle.std.specs.declared.alloc.Global.{Global}
use Rattle.rows.specs.declared.on_off.OnOff.{OnOff}
use Rattle.rows.specs.declared.on_off.OnOff.TheVariants.{Off, On}
use Rattle.typed_rows.specs.declared.rows_error.RowsError.{RowsError}
use Rattle.typed_rows.specs.declared.rows_error.RowsError.TheVariants.{NotDigits, OutOfMemory}

-- the digit of a row
abbrev pub digit : OnOff → ℕ
digit Off = 48
digit On = 49

abbrev pub IsRow : ℕ → Option OnOff → Type 0
IsRow byte (Some row) = digit row ≡ byte
IsRow byte None = (row : OnOff) → digit row ≢ byte

-- the digits of no rows are the text
abbrev pub SpellsNone : List ℕ → Type 0
SpellsNone text = (rows : List OnOff) → text ≢ map digit rows

abbrev pub ReadError : List ℕ → RowsError → Type 0
ReadError text NotDigits = SpellsNone text
ReadError text OutOfMemory = Unit {0}

-- the rows that the text spells; a text that spells none is refused, and any text may find no memory
abbrev pub Read : List ℕ → Result (Vec OnOff Global) RowsError → Type 0
Read text (Ok rows) = text ≡ map digit (vec_items rows)
Read text (Err error) = ReadError text error

-- the rows that the digits spell stand in the front of the room. Digits that spell no rows are refused, and then the front
-- holds what it may; more digits than there is room for are refused, and nothing changes. Room past the digits is as it was
abbrev pub Copies : List ℕ → List OnOff → List OnOff → Option (Unit {0}) → Type 0
Copies digits before after (Some _) =
    (digits ≡ map digit (take (length digits) after)) × (drop (length digits) after ≡ drop (length digits) before)
Copies digits before after None =
    (SpellsNone digits × (drop (length digits) after ≡ drop (length digits) before))
    ⊎ ((length before < length digits) × (after ≡ before))
