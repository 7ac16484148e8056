-- What the line call answers and changes.
use Rattle.std.specs.Prelude.{◌≡◌, ℕ, ◌<◌, ◌≤◌, ◌⊎◌, List, ◌++◌, length, drop, Ok, Err, Result}
use Rattle.refusals.specs.Numbers.{number}
use Rattle.refusals.specs.declared.refusal.Refusal.{Refusal}
use Rattle.rows.specs.declared.on_off.OnOff.{OnOff}
use Rattle.ledger.specs.Ledger.{Call, enter, remove, ask, unread}
use Rattle.ledger.specs.Questions.{Answer, Questions, Question, fit}
use Rattle.inventory.specs.declared.shelf.Shelf.{Shelf}
use Rattle.runs.specs.Calls.{Does}
use Rattle.shelf_forms.specs.Forms.{Said, enter as enters, remove as removes, fit as fits, Writes}
use Rattle.answers.specs.Spelling.{text_of}

-- the calls on an on/off shelf, and what the questions among them owe
abbrev pub OnOffCall : Type 0 → Type 0
OnOffCall P = Call OnOff (Question OnOff P)

abbrev pub OnOffQuestions : Type 0 → Type 1
OnOffQuestions P = Questions OnOff (Question OnOff P)

-- the call that a line asks for, a fit with the pile that is brought
abbrev pub asked : {P : Type 0} → P → Said → OnOffCall P
asked pile (enters number inputs rows) = enter number inputs rows
asked pile (removes number) = remove number
asked pile (fits inputs rows) = ask (fit inputs rows pile)

-- what a line is read as: the call that it writes, or where it writes none a call that is refused with 1
abbrev pub ReadAs : {P : Type 0} → P → List ℕ → OnOffCall P → Type 0
ReadAs pile line call =
    ((said : Said) × Writes line said × (call ≡ asked pile said))
    ⊎ (((said : Said) → ¬ (Writes line said)) × (call ≡ unread 1))

module _ {P : Type 0} (questions : OnOffQuestions P) (pile : P) (line : List ℕ) (shelf : Shelf) (memory : List OnOff) where
  -- the shelf does what the line is read as
  abbrev pub Obeys : Answer → Shelf → List OnOff → Type 0
  Obeys answer shelf' memory' = (call : OnOffCall P) × ReadAs pile line call × Does questions shelf memory call answer shelf' memory'

  -- answer memory of less than 64 bytes is refused with 13, and nothing changes; otherwise the answer's text stands in the
  -- front of it, its length is answered, and what comes after is as it was
  abbrev pub Answers : (room : List ℕ) → Result ℕ Refusal → Shelf → List OnOff → (room' : List ℕ) → Type 0
  Answers room (Ok size) shelf' memory' room' =
      (64 ≤ length room)
      × ((answer : Answer) × Obeys answer shelf' memory' × (size ≡ length (text_of answer)) × (room' ≡ text_of answer ++ drop size room))
  Answers room (Err reason) shelf' memory' room' =
      (length room < 64) × (number reason ≡ 13) × (shelf' ≡ shelf) × (memory' ≡ memory) × (room' ≡ room)
