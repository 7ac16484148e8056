-- Playing on a shelf just opened.
use Rattle.std.proofs.Common.{◌≡◌, ℕ, List, [], Ok, Result, refl, subst}
use Rattle.refusals.specs.Due.{none}
use Rattle.refusals.specs.declared.refusal.Refusal.{Refusal}
use Rattle.ledger.specs.Ledger.{Call}
use Rattle.ledger.specs.Questions.{Questions}
use Rattle.inventory.specs.Stocking.{open_due, IsEmpty}
use Rattle.inventory.specs.declared.shelf.Shelf.{Shelf}
use Rattle.runs.specs.Playing.{Played, Opened}
use Rattle.runs.specs.declared.answer.Grant.{Grant}
use Rattle.runs.proofs.Stock.{empty_holds}

pub opened : {R Q : Type 0} (questions : Questions R Q) (memory : List R) (calls : List (Call R Q)) (answers : List (Result Grant Refusal))
    (slots : ℕ) (shelf shelf' : Shelf) (memory' : List R) (answers' : List (Result Grant Refusal))
    → open_due slots ≡ none → IsEmpty slots shelf → Played questions memory calls answers shelf (Ok tt) shelf' memory' answers'
    → Opened questions memory calls answers slots (Ok shelf') memory' answers'
opened questions memory calls answers slots shelf shelf' memory' answers' lawful empty played =
    let law = played.3 [] (empty_holds shelf.slots memory empty.1) in
    subst (λ n. Opened questions memory calls answers n (Ok shelf') memory' answers') empty.0
    (rw (empty.0, lawful) (rw empty.0 at played.0), played.1, played.2, law.0, law.1, (shelf, (refl, empty.1), played.4))
