-- Lists of calls in which lines stand.
use Rattle.std.specs.Prelude.{◌≡◌, ℕ, ◌<◌, ◌≤◌, ◌⊎◌, List, ◌++◌, length, drop, Ok, Err}
use Rattle.refusals.specs.Numbers.{number}
use Rattle.ledger.specs.Ledger.{unread}
use Rattle.ledger.specs.Questions.{Answer, refused}
use Rattle.runs.specs.Transcript.{said, told}
use Rattle.runs.specs.Entries.{Entries}
use Rattle.answers.specs.Spelling.{text_of}
use Rattle.shelf_line.specs.Lines.{ReadAs, OnOffCall}
use Rattle.line_runs.specs.declared.turn.Turn.{Turn}
use Rattle.line_runs.specs.declared.turn.Turn.TheVariants as turn
use Rattle.line_runs.specs.declared.turn.TurnAnswer.{TurnAnswer}
use Rattle.line_runs.specs.declared.turn.TurnAnswer.TheVariants as answer

-- what is asked of an on/off shelf: a call, or a line with its pile and so many bytes of answer memory
pub data Asked (P : Type 0) : Type 0 where
  call : OnOffCall P → Asked P
  line : List ℕ → P → (room : ℕ) → Asked P

-- what a turn of the program asks
abbrev pub asks : {P : Type 0} → Turn P → Asked P
asks (turn.Call c) = call (said c)
asks (turn.Line text pile room) = line text.now pile.now room

-- how many bytes of answer memory it has
abbrev pub room : {P : Type 0} → Asked P → ℕ
room (call c) = 0
room (line text pile n) = n

-- the call that it is: a line with less than 64 bytes of answer memory is a call that is refused with 13, and any other
-- the call that it is read as
abbrev pub IsCall : {P : Type 0} → Asked P → OnOffCall P → Type 0
IsCall (call c) asked = asked ≡ c
IsCall (line text pile n) asked = ((n < 64) × (asked ≡ unread 13)) ⊎ ((64 ≤ n) × ReadAs pile text asked)

-- what an answer of the program tells. That of a line is its text in the front of the line's answer memory, and what comes
-- after is as it was; where the line is refused with 13, nothing is written
abbrev pub Tells : {P : Type 0} → Asked P → TurnAnswer → (memory memory' : List ℕ) → Answer → Type 0
Tells (call c) (answer.Call result) memory memory' tells = (tells ≡ told result) × (memory' ≡ memory)
Tells (line text pile n) (answer.Line (Ok size)) memory memory' tells =
    (64 ≤ n) × (size ≡ length (text_of tells)) × (memory' ≡ text_of tells ++ drop size memory)
Tells (line text pile n) (answer.Line (Err reason)) memory memory' tells =
    (n < 64) × (number reason ≡ 13) × (tells ≡ refused 13) × (memory' ≡ memory)
Tells _ _ memory memory' tells = ⊥

-- turns as they stand in a list that is played
abbrev pub turn_kind : (P : Type 0) → Entries (Turn P) TurnAnswer (OnOffCall P)
turn_kind P = record {
  IsCall = λ x c. IsCall (asks x) c;
  bytes = record { room = λ x. room (asks x); Tells = λ x result memory memory' tells. Tells (asks x) result memory memory' tells };
  words = record { room = λ x. 0; Tells = λ x result words words' tells. words' ≡ words };
}
