-- Rows as tables.
use Rattle.std.specs.Prelude.{◌≡◌, ℕ, List, map, length, Contains, Ok, Err, vec_items, vec_len, Result, Vec}
use Rattle.std.specs.declared.alloc.Global.{Global}
use Rattle.rows.specs.declared.on_off.OnOff.{OnOff}
use Rattle.tables.specs.declared.table.Table.{Table}
use Rattle.typed_rows.specs.Sizing.{NoTable}
use Rattle.rebuild.specs.declared.failure.Failure.{Failure}
use Rattle.rebuild.specs.declared.failure.Side.{Side}
use Rattle.rebuild.specs.declared.failure.Side.TheVariants.{Card, Readings, Part}
use Rattle.rebuild.specs.declared.failure.Failure.TheVariants.{Usage, NotRows, NotAPart, Refused, StockSize, Memory, Output}
use Rattle.rebuild.specs.declared.job.Stocked.{Stocked}
use Rattle.rebuild.specs.declared.typed.TypedPart.{TypedPart}
use Rattle.rebuild.specs.Reading.{part_text, spelled}

abbrev pub SizeError : Side → ℕ → Failure → Type 0
SizeError side rows Usage = ⊥
SizeError side rows (NotRows s) = ⊥
SizeError side rows (NotAPart place) = ⊥
SizeError side rows (Refused s refusal) = (s ≡ side) × NoTable rows refusal
SizeError side rows StockSize = ⊥
SizeError side rows Memory = ⊥
SizeError side rows Output = ⊥

-- the table of these rows; the side is refused where there is none
abbrev pub IsSized : Side → List OnOff → Result (Table OnOff) Failure → Type 0
IsSized side rows (Ok table) = table.rows.now ≡ rows
IsSized side rows (Err failure) = SizeError side (length rows) failure

abbrev pub stocked_text : Stocked OnOff → List ℕ
stocked_text part = part_text part.number part.table.rows.now

abbrev pub PartRefused : List TypedPart → Failure → Type 0
PartRefused parts Usage = ⊥
PartRefused parts (NotRows s) = ⊥
PartRefused parts (NotAPart place) = ⊥
PartRefused parts (Refused Card refusal) = ⊥
PartRefused parts (Refused Readings refusal) = ⊥
PartRefused parts (Refused (Part n) refusal) =
    (part : TypedPart) × Contains parts part × (part.number ≡ n) × NoTable (vec_len part.rows) refusal
PartRefused parts StockSize = ⊥
PartRefused parts Memory = Unit {0}
PartRefused parts Output = ⊥

-- the parts with their numbers and rows; one whose rows are no table is named
abbrev pub AreSized : List TypedPart → Result (Vec (Stocked OnOff) Global) Failure → Type 0
AreSized parts (Ok stock) = map stocked_text (vec_items stock) ≡ map spelled parts
AreSized parts (Err failure) = PartRefused parts failure
