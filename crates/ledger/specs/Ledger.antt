-- The ledger: which parts stand after a list of calls. It is worked out from the number of slots and the calls'
-- arguments alone, and knows nothing of a shelf or its memory, nor of what a question may be.
use Rattle.std.specs.Prelude.{ℕ, Bool, false, not, ◌||◌, List, [], ◌∷◌, length, filter, ◌==◌, nat_eq, nat_le}
use Rattle.refusals.specs.Due.{Due, none, refusal}
use Rattle.ledger.specs.Refused.{enter_due, drop_due}

-- a part that stands
pub record Part (R : Type 0) : Type 0 where
  pub number : ℕ
  pub inputs : ℕ
  pub rows : List R

-- what is asked of a shelf of rows R: to enter or to drop a part, or one of the questions Q. A line that is read as none
-- of these is a call too, which is refused under this number
pub data Call (R Q : Type 0) : Type 0 where
  enter : (number inputs : ℕ) → List R → Call R Q
  remove : (number : ℕ) → Call R Q
  ask : Q → Call R Q
  unread : ℕ → Call R Q

-- whether one of a list passes a test
abbrev pub any : {X : Type 0} → (X → Bool) → List X → Bool
any test [] = false
any test (x ∷ xs) = test x || any test xs

module _ {R : Type 0} where
  -- whether a part stands whose number and number of inputs pass a test
  abbrev pub some : List (Part R) → (ℕ → ℕ → Bool) → Bool
  some parts test = any (λ part. test part.number part.inputs) parts

  -- whether a part of this number stands
  abbrev pub stands : ℕ → List (Part R) → Bool
  stands number parts = some parts (λ n inputs. nat_eq n number)

  -- the parts of other numbers
  abbrev pub without : ℕ → List (Part R) → List (Part R)
  without number parts = filter (λ part. not (part.number == number)) parts

  -- the parts after a call, or as they were where it is refused
  abbrev pub unless : Due → List (Part R) → List (Part R) → List (Part R)
  unless none later parts = later
  unless (refusal number) later parts = parts

  module _ {Q : Type 0} where
    -- what the ledger refuses a call with that would change it; what is due of a question is no matter of the ledger
    abbrev pub change_due : ℕ → List (Part R) → Call R Q → Due
    change_due slots parts (enter number inputs rows) = enter_due none (stands number parts) (nat_le slots (length parts)) number inputs (length rows)
    change_due slots parts (remove number) = drop_due none (stands number parts) number
    change_due slots parts (ask question) = none
    change_due slots parts (unread number) = refusal number

    -- the parts that stand after a call that is granted: a question leaves them as they were
    abbrev pub granted : List (Part R) → Call R Q → List (Part R)
    granted parts (enter number inputs rows) = record { number = number; inputs = inputs; rows = rows } ∷ parts
    granted parts (remove number) = without number parts
    granted parts (ask question) = parts
    granted parts (unread number) = parts

    -- the parts that stand after a call: a refused one changes nothing
    abbrev pub after : ℕ → List (Part R) → Call R Q → List (Part R)
    after slots parts call = unless (change_due slots parts call) (granted parts call) parts

    abbrev pub ledger_from : ℕ → List (Part R) → List (Call R Q) → List (Part R)
    ledger_from slots parts [] = parts
    ledger_from slots parts (call ∷ calls) = ledger_from slots (after slots parts call) calls

    -- the parts that stand after a list of calls on a shelf just opened
    abbrev pub ledger : ℕ → List (Call R Q) → List (Part R)
    ledger slots calls = ledger_from slots [] calls
