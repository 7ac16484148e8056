-- What the arguments spell.
use Rattle.std.specs.Prelude.{◌≡◌, ◌≢◌, ℕ, ◌<◌, ◌≤◌, ◌-◌, List, [], ◌++◌, map, length, codes, slice_index_or, Ok, Err, vec_items, Result, Vec}
use Rattle.std.specs.Fmt.{decimal}
use Rattle.std.specs.declared.alloc.Global.{Global}
use Rattle.refusals.specs.declared.refusal.Refusal.TheVariants.{WrongTrialCount}
use Rattle.rows.specs.declared.on_off.OnOff.{OnOff}
use Rattle.typed_rows.specs.Reading.{digit, SpellsNone}
use Rattle.rebuild.specs.declared.failure.Failure.{Failure}
use Rattle.rebuild.specs.declared.failure.Side.{Side}
use Rattle.rebuild.specs.declared.failure.Side.TheVariants.{Card, Readings, Part}
use Rattle.rebuild.specs.declared.failure.Failure.TheVariants.{Usage, NotRows, NotAPart, Refused, StockSize, Memory, Output}
use Rattle.rebuild.specs.declared.typed.Typed.{Typed}
use Rattle.rebuild.specs.declared.typed.TypedPart.{TypedPart}

abbrev pub RowsError : Side → List ℕ → Failure → Type 0
RowsError side text Usage = ⊥
RowsError side text (NotRows s) = (s ≡ side) × SpellsNone text
RowsError side text (NotAPart place) = ⊥
RowsError side text (Refused s reason) = ⊥
RowsError side text StockSize = ⊥
RowsError side text Memory = Unit {0}
RowsError side text Output = ⊥

-- the rows that the text spells
abbrev pub ReadRows : Side → List ℕ → Result (Vec OnOff Global) Failure → Type 0
ReadRows side text (Ok rows) = text ≡ map digit (vec_items rows)
ReadRows side text (Err failure) = RowsError side text failure

-- how a part is typed, as in 12=00011011
abbrev pub part_text : ℕ → List OnOff → List ℕ
part_text number rows = decimal number ++ (codes "=" ++ map digit rows)

-- no part with a number of at most five digits is typed so
abbrev pub SpellsNoPart : List ℕ → Type 0
SpellsNoPart text = (number : ℕ) (rows : List OnOff) → number < 100000 → text ≢ part_text number rows

abbrev pub PartError : ℕ → List ℕ → Failure → Type 0
PartError place text Usage = ⊥
PartError place text (NotRows side) = ⊥
PartError place text (NotAPart p) = (p ≡ place) × SpellsNoPart text
PartError place text (Refused side reason) = ⊥
PartError place text StockSize = ⊥
PartError place text Memory = Unit {0}
PartError place text Output = ⊥

abbrev pub spelled : TypedPart → List ℕ
spelled part = part_text part.number (vec_items part.rows)

abbrev pub ReadPart : ℕ → List ℕ → Result TypedPart Failure → Type 0
ReadPart place text (Ok part) = text ≡ spelled part
ReadPart place text (Err failure) = PartError place text failure

abbrev pub PartsError : List (List ℕ) → Failure → Type 0
PartsError texts Usage = ⊥
PartsError texts (NotRows side) = ⊥
PartsError texts (NotAPart place) = (1 ≤ place) × (place ≤ length texts) × SpellsNoPart (slice_index_or texts (place - 1) [])
PartsError texts (Refused side reason) = ⊥
PartsError texts StockSize = ⊥
PartsError texts Memory = Unit {0}
PartsError texts Output = ⊥

-- the parts that the texts spell, one for each
abbrev pub ReadParts : List (List ℕ) → Result (Vec TypedPart Global) Failure → Type 0
ReadParts texts (Ok parts) = map spelled (vec_items parts) ≡ texts
ReadParts texts (Err failure) = PartsError texts failure

-- a text spells no rows or no part, or there are not as many readings as rows of the card, or there is no memory
abbrev pub JobError : List ℕ → List ℕ → List (List ℕ) → Failure → Type 0
JobError card readings stock Usage = ⊥
JobError card readings stock (NotRows Card) = SpellsNone card
JobError card readings stock (NotRows Readings) = SpellsNone readings
JobError card readings stock (NotRows (Part n)) = ⊥
JobError card readings stock (NotAPart place) = PartsError stock (NotAPart place)
JobError card readings stock (Refused Card reason) = ⊥
JobError card readings stock (Refused Readings reason) = (reason ≡ WrongTrialCount) × (length readings ≢ length card)
JobError card readings stock (Refused (Part n) reason) = ⊥
JobError card readings stock StockSize = ⊥
JobError card readings stock Memory = Unit {0}
JobError card readings stock Output = ⊥

-- the card, the readings and the parts that the texts spell
abbrev pub ReadJob : List ℕ → List ℕ → List (List ℕ) → Result Typed Failure → Type 0
ReadJob card readings stock (Ok typed) =
    (map digit (vec_items typed.card) ≡ card) × (map digit (vec_items typed.readings) ≡ readings)
    × (map spelled (vec_items typed.parts) ≡ stock) × (length readings ≡ length card)
ReadJob card readings stock (Err failure) = JobError card readings stock failure
