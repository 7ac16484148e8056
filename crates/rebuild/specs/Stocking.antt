-- The stock on a shelf.
use Rattle.std.specs.Prelude.{◌≡◌, ℕ, ◌<◌, ◌⊎◌, List, [], ◌∷◌, ◌++◌, map, length}
use Rattle.refusals.specs.Due.{refusal}
use Rattle.refusals.specs.Numbers.{number}
use Rattle.ledger.specs.Ledger.{Part, Call, enter, change_due, ledger}
use Rattle.rebuild.specs.declared.failure.Failure.{Failure}
use Rattle.rebuild.specs.declared.failure.Failure.TheVariants.{Usage, NotRows, NotAPart, Refused, StockSize, Memory, Output}
use Rattle.rebuild.specs.declared.failure.Side.TheVariants.{Card, Readings, Part as PartSide}
use Rattle.rebuild.specs.declared.job.Stocked.{Stocked}

module _ {R : Type 0} where
  -- a part of the stock where it stands
  abbrev pub entry : Stocked R → Part R
  entry part = record { number = part.number; inputs = part.table.inputs; rows = part.table.rows.now }

  -- the parts of the stock as they stand after others, the one entered last first
  abbrev pub stood_after : List (Part R) → List (Stocked R) → List (Part R)
  stood_after parts [] = parts
  stood_after parts (part ∷ stock) = stood_after (entry part ∷ parts) stock

  abbrev pub stood : List (Stocked R) → List (Part R)
  stood stock = stood_after [] stock

  -- a part is entered; nothing is asked
  abbrev pub entering : Stocked R → Call R ⊥
  entering part = enter part.number part.table.inputs part.table.rows.now

  -- the ledger refuses none of these parts
  abbrev pub AllStand : ℕ → List (Stocked R) → Type 0
  AllStand slots stock = ledger slots (map entering stock) ≡ stood stock

  -- the first part that the ledger refuses, and with what
  pub record FirstRefused (slots : ℕ) (stock : List (Stocked R)) (n reason : ℕ) : Type 0 where
    pub before : List (Stocked R)
    pub part : Stocked R
    pub after : List (Stocked R)
    pub place : stock ≡ before ++ part ∷ after
    pub named : part.number ≡ n
    pub stand : AllStand slots before
    pub due : change_due slots (stood before) (entering part) ≡ refusal reason

  -- why a stock does not stand: it has no part or more than 64, or a part is refused, or there is no memory
  abbrev pub NotStocked : List (Stocked R) → Failure → Type 0
  NotStocked stock Usage = ⊥
  NotStocked stock (NotRows side) = ⊥
  NotStocked stock (NotAPart place) = ⊥
  NotStocked stock (Refused Card reason) = ⊥
  NotStocked stock (Refused Readings reason) = ⊥
  NotStocked stock (Refused (PartSide n) reason) = FirstRefused (length stock) stock n (number reason)
  NotStocked stock StockSize = (length stock ≡ 0) ⊎ (64 < length stock)
  NotStocked stock Memory = Unit {0}
  NotStocked stock Output = ⊥

  -- why a repair is not shown: its stock does not stand, or the output fails
  abbrev pub NotShown : List (Stocked R) → Failure → Type 0
  NotShown stock failure = (failure ≡ Output) ⊎ NotStocked stock failure

-- where a stock stands nothing is left that fails but the memory and the output
abbrev pub NoMeans : Failure → Type 0
NoMeans failure = (failure ≡ Output) ⊎ (failure ≡ Memory)
