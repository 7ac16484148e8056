-- The law of runs: what the answers to a list of calls are, whatever questions are asked in it.
use Rattle.std.specs.Prelude.{◌≡◌, ℕ, List, [], ◌∷◌}
use Rattle.refusals.specs.Due.{Due, none, refusal}
use Rattle.lists.specs.Counting.{Mem}
use Rattle.ledger.specs.Ledger.{Part, Call, enter, remove, ask, unread, some, change_due, after}
use Rattle.ledger.specs.Questions.{Answer, done, refused, Questions}

-- the answer is the refusal that is due; where none is due, what is owed of it holds
abbrev pub Right : Due → Type 0 → Answer → Type 0
Right none owed answer = owed
Right (refusal number) owed answer = answer ≡ refused number

module _ {R Q : Type 0} (questions : Questions R Q) where
  -- what the ledger refuses a call with
  abbrev pub due : ℕ → List (Part R) → Call R Q → Due
  due slots parts (ask question) = questions.due none (some parts) question
  due slots parts call = change_due slots parts call

  -- what a call that the ledger does not refuse is answered, while these parts stand
  abbrev pub Granted : List (Part R) → Call R Q → Answer → Type 0
  Granted parts (enter number inputs rows) answer = answer ≡ done
  Granted parts (remove number) answer = answer ≡ done
  Granted parts (ask question) answer = questions.right (λ part. Mem part parts) question answer
  Granted parts (unread number) answer = ⊥

  -- what a call is answered, while these parts stand
  abbrev pub RightFor : ℕ → List (Part R) → Call R Q → Answer → Type 0
  RightFor slots parts call answer = Right (due slots parts call) (Granted parts call answer) answer

  module _ (slots : ℕ) where
    -- each answer is right for the parts that stood when its call came
    abbrev pub Answered : List (Part R) → List (Call R Q) → List Answer → Type 0
    Answered parts [] [] = Unit {0}
    Answered parts [] (answer ∷ answers) = ⊥
    Answered parts (call ∷ calls) [] = ⊥
    Answered parts (call ∷ calls) (answer ∷ answers) = RightFor slots parts call answer × Answered (after slots parts call) calls answers
