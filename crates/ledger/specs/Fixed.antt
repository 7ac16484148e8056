-- What the law of runs fixes.
use Rattle.std.specs.Prelude.{◌≡◌, ℕ, Bool, false, List, [], ◌∷◌}
use Rattle.refusals.specs.Due.{none}
use Rattle.lists.specs.Counting.{Mem}
use Rattle.ledger.specs.Ledger.{Part, Call, ask, stands, after, ledger}
use Rattle.ledger.specs.Questions.{Answer, refused, Questions, fit, NoPart, shelf_questions}
use Rattle.ledger.specs.Law.{due, RightFor, Answered}

-- each number stands once
abbrev pub Once : {R : Type 0} → List (Part R) → Type 0
Once [] = Unit {0}
Once (part ∷ parts) = (stands part.number parts ≡ false) × Once parts

module _ {R Q : Type 0} (questions : Questions R Q) where
  -- after any list of calls each number stands once
  abbrev pub StandOnce : Type 0
  StandOnce = (slots : ℕ) (calls : List (Call R Q)) → Once (ledger slots calls)

  -- a question changes nothing
  abbrev pub AskingKeeps : Type 0
  AskingKeeps = (slots : ℕ) (parts : List (Part R)) (question : Q) → after slots parts (ask question) ≡ parts

  -- for a ledger and a call only one answer is possible
  abbrev pub OneAnswer : Type 0
  OneAnswer = (slots : ℕ) (parts : List (Part R)) (call : Call R Q) (a b : Answer) → Once parts
      → RightFor questions slots parts call a → RightFor questions slots parts call b → a ≡ b

  -- so only one list of answers is possible for a list of calls
  abbrev pub OneTranscript : Type 0
  OneTranscript = (slots : ℕ) (calls : List (Call R Q)) (xs ys : List Answer)
      → Answered questions slots [] calls xs → Answered questions slots [] calls ys → xs ≡ ys

-- a card of at most ten inputs with a row for each setting is refused with 10 exactly when no standing part serves
abbrev pub TenExactly : {R P : Type 0} → (R → R → Bool) → (P → ℕ → List R → ℕ → List ℕ) → Type 0
TenExactly {R} {P} same list = (slots : ℕ) (parts : List (Part R)) (inputs : ℕ) (card : List R) (pile : P) (answer : Answer)
    → due (shelf_questions same list) slots parts (ask (fit inputs card pile)) ≡ none
    → RightFor (shelf_questions same list) slots parts (ask (fit inputs card pile)) answer
    → ((answer ≡ refused 10 → NoPart same list (λ part. Mem part parts) inputs card) × (NoPart same list (λ part. Mem part parts) inputs card → answer ≡ refused 10))
