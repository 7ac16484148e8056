-- Calls played one after the other: one call more, and all of them.
use Rattle.std.proofs.Common.{◌≡◌, ℕ, List, [], ◌∷◌, ◌++◌, refl}
use Rattle.ledger.specs.Ledger.{Part, Call, after, ledger_from}
use Rattle.ledger.specs.Questions.{Answer, Questions}
use Rattle.ledger.specs.Law.{RightFor, Answered}
use Rattle.inventory.specs.declared.shelf.Shelf.{Shelf}
use Rattle.runs.specs.Calls.{Does, DoesEach}

-- the ledger of one call more at the end
pub ledger_more : {R Q : Type 0} (slots : ℕ) (parts : List (Part R)) (calls : List (Call R Q)) (call : Call R Q)
    → ledger_from slots parts (calls ++ call ∷ []) ≡ after slots (ledger_from slots parts calls) call
ledger_more slots parts [] call = refl
ledger_more slots parts (c ∷ calls) call = ledger_more slots (after slots parts c) calls call

module _ {R Q : Type 0} (questions : Questions R Q) (slots : ℕ) where
  -- one call more at the end
  pub answered_more : (parts : List (Part R)) (calls : List (Call R Q)) (answers : List Answer) (call : Call R Q) (answer : Answer)
      → Answered questions slots parts calls answers
      → RightFor questions slots (ledger_from slots parts calls) call answer
      → Answered questions slots parts (calls ++ call ∷ []) (answers ++ answer ∷ [])
  answered_more parts [] [] call answer so right = (right, tt)
  answered_more parts [] (x ∷ answers) call answer so right = absurd so
  answered_more parts (c ∷ calls) [] call answer so right = absurd so
  answered_more parts (c ∷ calls) (x ∷ answers) call answer so right =
      (so.0, answered_more (after slots parts c) calls answers call answer so.1 right)

module _ {R Q : Type 0} (questions : Questions R Q) where
  pub does_more : (calls : List (Call R Q)) (answers : List Answer) (first : Shelf) (memory0 : List R) (before : Shelf) (memory : List R)
      (call : Call R Q) (answer : Answer) (after : Shelf) (memory' : List R)
      → DoesEach questions calls answers first memory0 before memory → Does questions before memory call answer after memory'
      → DoesEach questions (calls ++ call ∷ []) (answers ++ answer ∷ []) first memory0 after memory'
  does_more [] [] first memory0 before memory call answer after memory' (same_shelf, same_memory) does =
      (after, memory', rw (same_shelf, same_memory) at does, (refl, refl))
  does_more [] (x ∷ answers) first memory0 before memory call answer after memory' did does = absurd did
  does_more (c ∷ calls) [] first memory0 before memory call answer after memory' did does = absurd did
  does_more (c ∷ calls) (x ∷ answers) first memory0 before memory call answer after memory' (between, rows, this, rest) does =
      (between, rows, this, does_more calls answers between rows before memory call answer after memory' rest does)
