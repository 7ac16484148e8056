use Rattle.std.specs.Prelude.{◌≡◌, ℕ, List, map, length, Ok, Err, vec_items, Result, Vec}
use Rattle.std.specs.declared.alloc.Global.{Global}
use Rattle.rows.specs.declared.on_off.OnOff.{OnOff}
use Rattle.tables.specs.declared.table.Table.{Table}
use Rattle.typed_rows.specs.Reading.{digit, SpellsNone}
use Rattle.typed_rows.specs.Sizing.{NoTable}
use Rattle.rewire.specs.declared.failure.Failure.{Failure}
use Rattle.rewire.specs.declared.failure.Side.{Side}
use Rattle.rewire.specs.declared.failure.Failure.TheVariants.{Usage, NotRows, Refused, Memory, Output}

abbrev pub ReadError : Side → List ℕ → Failure → Type 0
ReadError side text Usage = ⊥
ReadError side text (NotRows s) = (s ≡ side) × SpellsNone text
ReadError side text (Refused s r) = ⊥
ReadError side text Memory = Unit {0}
ReadError side text Output = ⊥

-- the rows that the text spells; a text that spells none is refused, and any text may find no memory
abbrev pub Read : Side → List ℕ → Result (Vec OnOff Global) Failure → Type 0
Read side text (Ok rows) = text ≡ map digit (vec_items rows)
Read side text (Err failure) = ReadError side text failure

abbrev pub SizeError : Side → ℕ → Failure → Type 0
SizeError side rows Usage = ⊥
SizeError side rows (NotRows s) = ⊥
SizeError side rows (Refused s refusal) = (s ≡ side) × NoTable rows refusal
SizeError side rows Memory = ⊥
SizeError side rows Output = ⊥

-- the table of these rows; the side is refused where there is none
abbrev pub ReadTable : Side → List OnOff → Result (Table OnOff) Failure → Type 0
ReadTable side rows (Ok table) = table.rows.now ≡ rows
ReadTable side rows (Err failure) = SizeError side (length rows) failure
