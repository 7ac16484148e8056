-- A line is a turn.
use Rattle.std.proofs.Common.{◌≡◌, ℕ, ◌*◌, List, length, Ok, Err, Result, refl, inl, inr}
use Rattle.refusals.specs.declared.refusal.Refusal.{Refusal}
use Rattle.rows.specs.declared.on_off.OnOff.{OnOff}
use Rattle.ledger.specs.Ledger.{unread}
use Rattle.ledger.specs.Questions.{Answer, refused}
use Rattle.ledger.proofs.Questions.{Lawful}
use Rattle.inventory.specs.declared.shelf.Shelf.{Shelf}
use Rattle.runs.specs.Calls.{Does}
use Rattle.runs.specs.Holding.{Leads}
use Rattle.runs.proofs.Steps.{does_leads}
use Rattle.shelf_line.specs.Lines.{Answers, OnOffCall, OnOffQuestions}
use Rattle.line_runs.specs.Turns.{line, IsCall, Tells}
use Rattle.line_runs.specs.declared.turn.TurnAnswer.TheVariants.{Line}

module _ {P : Type 0} (questions : OnOffQuestions P) (lawful : Lawful questions) (text : List ℕ) (pile : P) (shelf : Shelf) (memory : List OnOff) (long : length memory ≡ shelf.count * 1024)
    (bytes words : List ℕ) (shelf' : Shelf) (memory' : List OnOff) (bytes' : List ℕ) where
  -- the line is a call whose answer is told
  abbrev LineTakes : ℕ → Result ℕ Refusal → Type 0
  LineTakes n result =
      (c : OnOffCall P) × (answer : Answer) × IsCall (line text pile n) c × Tells (line text pile n) (Line result) bytes bytes' answer × (words ≡ words)
      × Leads questions shelf memory c answer shelf' memory' × Does questions shelf memory c answer shelf' memory'

  pub line_takes : (n : ℕ) → length bytes ≡ n → (result : Result ℕ Refusal) → Answers questions pile text shelf memory bytes result shelf' memory' bytes'
      → LineTakes n result
  line_takes n whole (Ok size) (room, (answer, (call, reads, does), sized, written)) =
      let enough = rw whole at room in
      (call, answer, inr (enough, reads), (enough, sized, written), refl, does_leads questions lawful shelf memory long call answer shelf' memory' does, does)
  line_takes n whole (Err reason) (short, thirteen, same_shelf, same_memory, kept) =
      let few = rw whole at short in (
        unread 13,
        refused 13,
        inl (few, refl),
        (few, thirteen, refl, kept),
        refl,
        does_leads questions lawful shelf memory long (unread 13) (refused 13) shelf' memory' (refl, same_shelf, same_memory),
        (refl, same_shelf, same_memory),
      )
