-- Slots and the row memory under them.
use Rattle.std.specs.Prelude.{◌≡◌, ℕ, ◌+◌, ◌*◌, ◌^◌, ◌<◌, Bool, false, not, List, ◌++◌, length, take, drop, is_some, Some, None, count_by, Option, ◌==◌, nat_eq, nat_le, slice_index_or}
use Rattle.refusals.specs.Due.{Due, none, first}
use Rattle.ledger.specs.Ledger.{Part, any}
use Rattle.inventory.specs.declared.label.Label.{Label}

-- whether the number and the number of inputs of a slot's part pass a test
abbrev pub passes : (ℕ → ℕ → Bool) → Option Label → Bool
passes test None = false
passes test (Some label) = test label.number label.inputs

-- whether a slot has a part of this number
abbrev pub has : ℕ → Option Label → Bool
has number slot = passes (λ n inputs. nat_eq n number) slot

-- whether two slots have parts of one number
abbrev pub share : Option Label → Option Label → Bool
share None slot = false
share (Some label) slot = has label.number slot

-- whether a slot has a part whose number and number of inputs pass a test
abbrev pub some_slot : List (Option Label) → (ℕ → ℕ → Bool) → Bool
some_slot slots test = any (passes test) slots

-- whether a part of this number has a slot
abbrev pub labelled : ℕ → List (Option Label) → Bool
labelled number slots = any (has number) slots

-- whether as many slots as there are have a part
abbrev pub full : ℕ → List (Option Label) → Bool
full count slots = nat_le count (count_by is_some slots)

-- row memory that has not 1,024 rows a slot is refused with 6
abbrev pub memory_due : ℕ → ℕ → Due
memory_due count rows = first (not (rows == count * 1024)) 6 none

-- the front of slot k's stretch: the rows of a part of so many inputs
abbrev pub front : {R : Type 0} → List R → ℕ → ℕ → List R
front memory k inputs = take (2 ^ inputs) (drop (k * 1024) memory)

-- the rows from start on replaced by new ones
abbrev pub written : {R : Type 0} → List R → ℕ → List R → List R
written memory start new = take start memory ++ (new ++ drop (start + length new) memory)

module _ {R : Type 0} (slots : List (Option Label)) (memory : List R) where
  -- slot k is in use for this part, and the front of its stretch has the part's rows
  pub record At (k : ℕ) (part : Part R) : Type 0 where
    pub label : Label
    pub slot : slice_index_or slots k None ≡ Some label
    pub number : part.number ≡ label.number
    pub inputs : part.inputs ≡ label.inputs
    pub rows : part.rows ≡ front memory k label.inputs

  -- the shelf holds this part
  abbrev pub Held : Part R → Type 0
  Held part = (k : ℕ) × At k part

  -- in one of the first slots
  abbrev pub HeldBelow : ℕ → Part R → Type 0
  HeldBelow end part = (k : ℕ) × (k < end) × At k part
