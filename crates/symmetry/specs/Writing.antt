-- What writing the classes answers and changes.
use Rattle.std.specs.Prelude.{◌≡◌, ℕ, Bool, List, ◌++◌, drop, Ok, Err, Result, nat_lt}
use Rattle.refusals.specs.Due.{Due, none, refusal, first, first_of}
use Rattle.refusals.specs.Numbers.{number}
use Rattle.refusals.specs.declared.refusal.Refusal.{Refusal}
use Rattle.tables.specs.Making.{table_due}
use Rattle.symmetry.specs.Symmetry.{Classes}

-- what is no table is refused with 3 or 4, and then memory of fewer than ten bytes with 13
abbrev pub classes_due : (inputs rows memory : ℕ) → Due
classes_due inputs rows memory = first_of (table_due inputs rows) (first (nat_lt memory 10) 13 none)

-- the classes stand in the first ten bytes, and the bytes past them are as they were; a refusal changes nothing
abbrev pub Written : {R : Type 0} → (R → R → Bool) → ℕ → List R → List ℕ → Due → Result Unit Refusal → List ℕ → Type 0
Written same n rows memory due (Ok _) memory' =
    (due ≡ none) × ((classes : List ℕ) × Classes same n rows classes × (memory' ≡ classes ++ drop 10 memory))
Written same n rows memory due (Err reason) memory' = (due ≡ refusal (number reason)) × (memory' ≡ memory)
