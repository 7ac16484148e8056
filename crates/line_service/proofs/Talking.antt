-- Lines that are answered one after the other.
use Rattle.std.proofs.Common.{◌≡◌, ℕ, ◌≤◌, List, [], ◌∷◌, ◌++◌, length, take, drop, Ok, Err, Bor, refl, sym, ap, ◌∙◌, inl, inr, arith, length-append}
use Rattle.std.proofs.lemmas.List.{take_at, append-nil, take-append-drop}
use Rattle.rows.specs.declared.on_off.OnOff.{OnOff}
use Rattle.inventory.specs.declared.shelf.Shelf.{Shelf}
use Rattle.ledger.specs.Questions.{Answer}
use Rattle.answers.specs.Spelling.{text_of}
use Rattle.runs.specs.Entries.{Takes}
use Rattle.line_runs.specs.Turns.{line, IsCall, Tells, turn_kind}
use Rattle.line_runs.specs.declared.turn.Turn.TheVariants as turn
use Rattle.line_runs.specs.declared.turn.TurnAnswer.{TurnAnswer}
use Rattle.line_runs.specs.declared.turn.TurnAnswer.TheVariants.{Line}
use Rattle.line_runs.specs.declared.turn.TurnAnswer.TheVariants as answer_of
use Rattle.shelf_line.specs.Lines.{ReadAs, OnOffCall, OnOffQuestions}
use Rattle.line_service.specs.Service.{AnswersLine, Talks, TalksInPart}

module _ {P : Type 0} (questions : OnOffQuestions P) (pile : P) where
  read_as : (text : List ℕ) (call : OnOffCall P) → IsCall (line text pile 64) call → ReadAs pile text call
  read_as text call (inl (few, is)) = absurd (omega (arith, few))
  read_as text call (inr (enough, reads)) = reads

  front_is : (size : ℕ) (text bytes rest : List ℕ) → size ≡ length text → length bytes ≡ 64 → bytes ≡ text ++ rest → (size ≤ 64) × (take size bytes ≡ text)
  front_is size text bytes rest sized long whole = (
    omega (arith, sized, long, ap length whole, length-append text rest),
    ap (take size) whole ∙ take_at text rest size (sym sized),
  )

  -- where there is room for each answer, its length is answered
  pub line_sized : (text : List ℕ) (result : TurnAnswer) (bytes bytes' : List ℕ) (answer : Answer) → Tells (line text pile 64) result bytes bytes' answer
      → (size : ℕ) × (result ≡ Line (Ok size))
  line_sized text (Line (Ok size)) bytes bytes' answer tells = (size, refl)
  line_sized text (Line (Err reason)) bytes bytes' answer tells = absurd (omega (arith, tells.0))
  line_sized text (answer_of.Call result) bytes bytes' answer tells = absurd tells

  -- a line that is played
  pub line_answered : (text : Bor (List ℕ)) (lent : Bor P) (shelf : Shelf) (memory : List OnOff) (shelf' : Shelf) (memory' : List OnOff) (bytes bytes' words words' : List ℕ) (result : TurnAnswer) (size : ℕ)
      → lent.now ≡ pile → length bytes' ≡ 64 → result ≡ Line (Ok size) → Takes questions (turn_kind P) (turn.Line text lent 64) shelf memory bytes words result shelf' memory' bytes' words'
      → (size ≤ 64) × AnswersLine questions pile text.now shelf memory (take size bytes') shelf' memory'
  line_answered text lent shelf memory shelf' memory' bytes bytes' words words' result size same long is (call, answer, is_call, tells, unwritten, leads, does) =
      let told = rw is at tells in
      let front = front_is size (text_of answer) bytes' (drop size bytes) told.1 long told.2 in (
        front.0,
        (
          answer,
          front.1,
          (
            call ∷ [],
            (read_as text.now call (rw same at is_call), tt),
            leads.0,
            λ parts h. let so = leads.1 parts h in ((so.0, tt), so.1),
          ),
        ),
      )

  -- all of its text, or a front of it
  module _ (text front : List ℕ) (shelf : Shelf) (memory : List OnOff) (shelf' : Shelf) (memory' : List OnOff) (talks : AnswersLine questions pile text shelf memory front shelf' memory') where
    pub one_talks : Talks questions pile (text ∷ []) shelf memory front shelf' memory'
    one_talks = (talks.0 ∷ [], talks.1 ∙ sym (append-nil (text_of talks.0)), talks.2)

    pub one_in_part : (count : ℕ) → TalksInPart questions pile (text ∷ []) shelf memory (take count front) shelf' memory'
    one_in_part count =
        (talks.0 ∷ [], ([], talks.0 ∷ [], take count front, drop count front, refl, omega arith, refl, append-nil (text_of talks.0) ∙ sym talks.1 ∙ sym (take-append-drop count front)), talks.2)
