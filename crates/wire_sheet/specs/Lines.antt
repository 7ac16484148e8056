-- What a wire line says, and how reading it is answered.
use Rattle.std.specs.Prelude.{◌≡◌, ℕ, ◌≤◌, ◌⊎◌, List, length, map, min, take, Result, Ok, Err}
use Rattle.std.specs.List.{All}
use Rattle.refusals.specs.Due.{none, refusal}
use Rattle.refusals.specs.Numbers.{number}
use Rattle.refusals.specs.declared.refusal.Refusal.{Refusal}
use Rattle.refusals.specs.declared.refusal.Refusal.TheVariants.{NotAForm}
use Rattle.tables.specs.Making.{WiringMade}
use Rattle.ledger.specs.Refused.{number_due}
use Rattle.wire_sheet.specs.declared.sheet.Sheet.{Sheet}
use Rattle.wire_sheet.specs.declared.wire_line.WireLine.{WireLine}
use Rattle.tokens.specs.Phrases.{IsShort}
use Rattle.wire_sheet.specs.Sheets.{wire_text}

-- a part's number, a number of inputs and a list of pins, be they a sheet or not
pub record Said : Type 0 where
  pub number : ℕ
  pub inputs : ℕ
  pub pins : List ℕ

-- the line is how this is written, with numbers of at most five digits
pub record Spells (line : List ℕ) (said : Said) : Type 0 where
  pub number : IsShort said.number
  pub inputs : IsShort said.inputs
  pub pins : All IsShort said.pins
  pub text : line ≡ wire_text said.number said.inputs said.pins

-- a line has at most 1,100 bytes
abbrev pub Writes : List ℕ → Said → Type 0
Writes line said = (length line ≤ 1100) × Spells line said

-- the number is looked at first, and then whether the pins make a wiring
abbrev pub Answers : Said → Result Sheet Refusal → Type 0
Answers said (Ok sheet) =
    (number_due said.number ≡ none) × (sheet.number ≡ said.number)
    × WiringMade said.inputs said.pins (Ok sheet.wiring)
Answers said (Err reason) =
    (number_due said.number ≡ refusal (number reason))
    ⊎ ((number_due said.number ≡ none) × WiringMade said.inputs said.pins (Err reason))

-- a line that writes nothing is refused with 1
abbrev pub Reads : List ℕ → Result Sheet Refusal → Type 0
Reads line result =
    ((said : Said) × Writes line said × Answers said result)
    ⊎ (((said : Said) → ¬ (Writes line said)) × (result ≡ Err NotAForm))

-- the pins of a list that are looked at: no wiring has more than ten pins, or a pin of 255
abbrev pub kept : List ℕ → List ℕ
kept pins = take 11 (map (λ pin. min pin 255) pins)

-- what is read of a line, so far as it can make a sheet
abbrev pub Holds : WireLine → Said → Type 0
Holds held said = (held.number ≡ said.number) × (held.inputs ≡ said.inputs) × (held.list ≡ kept said.pins)
