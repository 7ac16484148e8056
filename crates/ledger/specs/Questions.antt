-- Questions: what is asked of a shelf and leaves it as it was. All that a question owes is said here, and nowhere else.
use Rattle.std.specs.Prelude.{◌≡◌, ℕ, ◌<◌, Bool, ◌⊎◌, List, map, length, nat_eq}
use Rattle.std.specs.List.{range_with_len}
use Rattle.refusals.specs.Due.{Due}
use Rattle.tables.specs.Agreement.{Agree}
use Rattle.tables.specs.Wirings.{pin, Other, Before}
use Rattle.lists.specs.Counting.{AtMost}
use Rattle.lists.specs.Pairs.{struck_pairs}
use Rattle.lists.specs.Spread.{spread as spread_of}
use Rattle.signatures.specs.Law.{list_of}
use Rattle.ledger.specs.Refused.{fit_due, spread_due}
use Rattle.ledger.specs.Ledger.{Part}

-- what a call is answered. Entering and dropping are done; each question has its own answer: a proposal has the part's
-- number, the number of inputs, the pin of each input in order, and how many pairs of an input and a pin are struck
pub data Answer : Type 0 where
  done : Answer
  refused : ℕ → Answer
  proposed : (number inputs : ℕ) → List ℕ → (struck : ℕ) → Answer
  measured : ℕ → Answer

-- what the questions Q owe
pub record Questions (R Q : Type 0) : Type 1 where
  -- what is due of a question, from what a wrong row memory is due, and from which tests of its number and its number of
  -- inputs some standing part passes
  pub due : Due → ((ℕ → ℕ → Bool) → Bool) → Q → Due
  -- what it must be answered where nothing is due, while the parts stand of which this holds
  pub right : (Part R → Type 0) → Q → Answer → Type 0

-- the questions to a shelf of rows R; each brings its pile P
pub data Question (R P : Type 0) : Type 0 where
  fit : (inputs : ℕ) → List R → P → Question R P
  spread : (number inputs : ℕ) → List R → P → Question R P

-- list n rows i, for a pile of so many places that answers so: the list of input i of a table of n inputs
abbrev pub list_by : {R P : Type 0} → (P → ℕ) → (P → ℕ → List R → ℕ → ℕ → ℕ) → P → ℕ → List R → ℕ → List ℕ
list_by count value pile n rows i = list_of (count pile) (value pile) n rows i

-- same: of the row kind. list pile n rows i: the list of input i of a table of n inputs
module _ {R P : Type 0} (same : R → R → Bool) (list : P → ℕ → List R → ℕ → List ℕ) where
  -- the lists of all inputs of a table
  abbrev pub lists : P → ℕ → List R → List (List ℕ)
  lists pile inputs rows = map (list pile inputs rows) (range_with_len 0 inputs)

  -- what fit and spread say of a card, while these parts stand
  module _ (standing : Part R → Type 0) (inputs : ℕ) (card : List R) where
    -- under w the part agrees with the card in every row
    abbrev pub Serves : Part R → (ℕ → ℕ) → Type 0
    Serves part w = (part.inputs ≡ inputs) × Agree same inputs w card part.rows

    -- no standing part has a wiring that agrees with the card in every row
    abbrev pub NoPart : Type 0
    NoPart = (part : Part R) (w : ℕ → ℕ) → standing part → Serves part w → ⊥

    -- what fit proposes
    pub record Proposes (pile : P) (number : ℕ) (w : ℕ → ℕ) (struck : ℕ) : Type 0 where
      pub part : Part R
      pub stands : standing part
      pub named : part.number ≡ number
      pub serves : Serves part w
      -- every other standing part that serves has a higher number
      pub lowest : (other : Part R) (v : ℕ → ℕ) → standing other → Serves other v → (other ≡ part) ⊎ (number < other.number)
      -- every other wiring of this part that serves comes later in dictionary order
      pub first : (v : ℕ → ℕ) → Serves part v → Other inputs w v → Before inputs w v
      -- no pair of the wiring is struck by the pile
      pub spared : (i : ℕ) → i < inputs → list pile inputs card i ≡ list pile inputs part.rows (w i)
      pub count : struck ≡ struck_pairs (lists pile inputs card) (lists pile inputs part.rows)

    -- the spread of the card and the standing part of this number
    pub record Spreads (pile : P) (number k : ℕ) : Type 0 where
      pub part : Part R
      pub stands : standing part
      pub named : part.number ≡ number
      pub formula : k ≡ spread_of (lists pile inputs card) (lists pile part.inputs part.rows)
      -- the agreeing wirings number at most so many
      pub bound : AtMost (λ w. Agree same inputs w card part.rows) inputs k

  abbrev pub question_due : Due → ((ℕ → ℕ → Bool) → Bool) → Question R P → Due
  question_due memory some (fit inputs card pile) = fit_due memory inputs (length card)
  question_due memory some (spread number inputs card pile) =
      spread_due memory (some (λ n size. nat_eq n number)) number inputs (length card)

  abbrev pub QuestionRight : (Part R → Type 0) → Question R P → Answer → Type 0
  QuestionRight standing (fit inputs card pile) answer =
      ((answer ≡ refused 10) × NoPart standing inputs card)
      ⊎ ((number : ℕ) × (pins : List ℕ) × (struck : ℕ) × (answer ≡ proposed number inputs pins struck) × (length pins ≡ inputs) × Proposes standing inputs card pile number (pin pins) struck)
  QuestionRight standing (spread number inputs card pile) answer =
      (k : ℕ) × (answer ≡ measured k) × Spreads standing inputs card pile number k

  abbrev pub shelf_questions : Questions R (Question R P)
  shelf_questions = record { due = question_due; right = QuestionRight }

-- the same for a pile of so many places that answers so
abbrev pub questions_by : {R P : Type 0} → (R → R → Bool) → (P → ℕ) → (P → ℕ → List R → ℕ → ℕ → ℕ) → Questions R (Question R P)
questions_by same count value = shelf_questions same (list_by count value)
