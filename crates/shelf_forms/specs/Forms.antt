-- What a line says, and how it is written.
use Rattle.std.specs.Prelude.{◌≡◌, ◌≢◌, ℕ, ◌<◌, ◌≤◌, List, ◌++◌, length, map, Option, Some, None, codes}
use Rattle.std.specs.Fmt.{decimal}
use Rattle.rows.specs.declared.on_off.OnOff.{OnOff}
use Rattle.typed_rows.specs.Reading.{digit}
use Rattle.tokens.specs.declared.token.Word.{Word}
use Rattle.tokens.specs.declared.token.Word.TheVariants as word
use Rattle.tokens.specs.Phrases.{IsShort, opening_text, inputs_text}
use Rattle.shelf_forms.specs.declared.form.Form.{Form}
use Rattle.shelf_forms.specs.declared.form.Form.TheVariants.{Part, Drop, Card}

pub data Said : Type 0 where
  enter : (number inputs : ℕ) → List OnOff → Said
  remove : (number : ℕ) → Said
  fit : (inputs : ℕ) → List OnOff → Said

-- how the rows are written, with what ends the line
abbrev pub rows_text : List OnOff → List ℕ
rows_text rows = codes " (rows " ++ (map digit rows ++ codes "))\n")

-- the word that a line begins with, and what comes after it
abbrev pub verb : Said → Word
verb (enter number inputs rows) = word.Part
verb (remove number) = word.Drop
verb (fit inputs rows) = word.Card

abbrev pub arguments : Said → List ℕ
arguments (enter number inputs rows) = codes " " ++ (decimal number ++ inputs_text inputs (rows_text rows))
arguments (remove number) = codes " " ++ (decimal number ++ codes ")\n")
arguments (fit inputs rows) = inputs_text inputs (rows_text rows)

abbrev pub text : Said → List ℕ
text said = opening_text (verb said) (arguments said)

-- numbers have at most five digits, and there is at least one row
abbrev pub IsLawful : Said → Type 0
IsLawful (enter number inputs rows) = IsShort number × IsShort inputs × (0 < length rows)
IsLawful (remove number) = IsShort number
IsLawful (fit inputs rows) = IsShort inputs × (0 < length rows)

-- the line is of at most 1,100 bytes, and they are how this is written
abbrev pub Writes : List ℕ → Said → Type 0
Writes line said = (length line ≤ 1100) × IsLawful said × (line ≡ text said)

abbrev pub Says : Form → Said → Type 0
Says (Part number inputs digits) (enter n k rows) = (number ≡ n) × (inputs ≡ k) × (digits.now ≡ map digit rows)
Says (Drop number) (remove n) = number ≡ n
Says (Card inputs digits) (fit k rows) = (inputs ≡ k) × (digits.now ≡ map digit rows)
Says _ _ = ⊥

-- the form says what the line writes; there is none where the line writes nothing
abbrev pub Reads : List ℕ → Option Form → Type 0
Reads line (Some form) = (said : Said) × Writes line said × Says form said
Reads line None = (said : Said) → ¬ (Writes line said)

-- a line writes one thing only
abbrev pub OneForm : Type 0
OneForm = (x y : Said) → IsLawful x → IsLawful y → text x ≡ text y → x ≡ y

-- the same of what comes after a word, form by form
abbrev pub Spells : Word → List ℕ → Form → Type 0
Spells word left form = (said : Said) × (verb said ≡ word) × IsLawful said × (left ≡ arguments said) × Says form said

abbrev pub NoPart : List ℕ → Type 0
NoPart left = (number inputs : ℕ) (rows : List OnOff) → IsLawful (enter number inputs rows) → left ≢ arguments (enter number inputs rows)

abbrev pub NoDrop : List ℕ → Type 0
NoDrop left = (number : ℕ) → IsLawful (remove number) → left ≢ arguments (remove number)

abbrev pub NoCard : List ℕ → Type 0
NoCard left = (inputs : ℕ) (rows : List OnOff) → IsLawful (fit inputs rows) → left ≢ arguments (fit inputs rows)
