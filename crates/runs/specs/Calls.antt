-- What one call on a shelf and its memory answers, and what it leaves of them, as the calls of the shelf promise it.
use Rattle.std.specs.Prelude.{◌≡◌, List, [], ◌∷◌, length, Result}
use Rattle.refusals.specs.Due.{Due}
use Rattle.refusals.specs.declared.refusal.Refusal.{Refusal}
use Rattle.ledger.specs.Refused.{enter_due, drop_due}
use Rattle.ledger.specs.Ledger.{Call, enter, remove, ask, unread}
use Rattle.ledger.specs.Questions.{Answer, refused, Questions}
use Rattle.ledger.specs.Law.{Right}
use Rattle.inventory.specs.Slots.{labelled, some_slot, full, memory_due, Held}
use Rattle.inventory.specs.Stocking.{Entered, Dropped}
use Rattle.inventory.specs.declared.shelf.Shelf.{Shelf}
use Rattle.runs.specs.Transcript.{answered}
use Rattle.runs.specs.declared.answer.Grant.TheVariants.{Done}

module _ {R Q : Type 0} (questions : Questions R Q) (shelf : Shelf) (memory : List R) where
  -- what a wrong memory is due
  abbrev wrong : Due
  wrong = memory_due shelf.count (length memory)

  -- what a question is answered: the refusal that is due, or what it owes for the parts that the shelf holds
  abbrev pub AnswersQuestion : Q → Answer → Type 0
  AnswersQuestion question answer = Right (questions.due wrong (some_slot shelf.slots) question) (questions.right (Held shelf.slots memory) question answer) answer

  abbrev pub Does : Call R Q → Answer → Shelf → List R → Type 0
  Does (enter n inputs rows) answer shelf' memory' =
      (r : Result Unit Refusal) × (answer ≡ answered (λ _. Done) r)
      × Entered (enter_due wrong (labelled n shelf.slots) (full shelf.count shelf.slots) n inputs (length rows)) n inputs rows shelf memory r shelf' memory'
  Does (remove n) answer shelf' memory' =
      (r : Result Unit Refusal) × (answer ≡ answered (λ _. Done) r) × (memory' ≡ memory)
      × Dropped (drop_due wrong (labelled n shelf.slots) n) n shelf r shelf'
  Does (ask question) answer shelf' memory' = AnswersQuestion question answer × (shelf' ≡ shelf) × (memory' ≡ memory)
  Does (unread number) answer shelf' memory' = (answer ≡ refused number) × (shelf' ≡ shelf) × (memory' ≡ memory)

-- what calls do, each on what the one before it has left
module _ {R Q : Type 0} (questions : Questions R Q) where
  abbrev pub DoesEach : List (Call R Q) → List Answer → Shelf → List R → Shelf → List R → Type 0
  DoesEach [] [] shelf memory shelf' memory' = (shelf' ≡ shelf) × (memory' ≡ memory)
  DoesEach (call ∷ calls) (answer ∷ answers) shelf memory shelf' memory' =
      (between : Shelf) × (rows : List R) × Does questions shelf memory call answer between rows
      × DoesEach calls answers between rows shelf' memory'
  DoesEach _ _ shelf memory shelf' memory' = ⊥
