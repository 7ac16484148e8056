-- What opening, entering and dropping answer and change.
use Rattle.std.specs.Prelude.{◌≡◌, ℕ, ◌*◌, ◌<◌, true, ◌||◌, List, replicate, Some, None, Ok, Err, Result, ◌==◌, nat_lt, slice_index_or, slice_set}
use Rattle.refusals.specs.Due.{Due, none, first, refusal}
use Rattle.refusals.specs.Numbers.{number}
use Rattle.refusals.specs.declared.refusal.Refusal.{Refusal}
use Rattle.inventory.specs.Slots.{has, written}
use Rattle.inventory.specs.declared.label.Label.{Label}
use Rattle.inventory.specs.declared.shelf.Shelf.{Shelf}

-- a shelf of no slot or of more than 64 is refused with 6
abbrev pub open_due : ℕ → Due
open_due count = first (count == 0 || nat_lt 64 count) 6 none

-- a shelf of so many slots, all free
abbrev pub IsEmpty : ℕ → Shelf → Type 0
IsEmpty count shelf = (shelf.count ≡ count) × (shelf.slots ≡ replicate 64 None)

-- entering: a free slot, and which is left open, gets the label, and the front of its stretch the rows; nothing else
-- changes, and a refusal changes nothing
abbrev pub Entered : {R : Type 0} → Due → (number inputs : ℕ) → List R → Shelf → List R → Result Unit Refusal → Shelf → List R → Type 0
Entered due n inputs rows before memory (Ok _) after memory' =
    (due ≡ none)
    × ((k : ℕ) × (label : Label) × (k < before.count) × (slice_index_or before.slots k None ≡ None)
    × (label.number ≡ n) × (label.inputs ≡ inputs)
    × (after.count ≡ before.count) × (after.slots ≡ slice_set before.slots k (Some label)) × (memory' ≡ written memory (k * 1024) rows))
Entered due n inputs rows before memory (Err reason) after memory' =
    (due ≡ refusal (number reason)) × (after ≡ before) × (memory' ≡ memory)

-- dropping: the slot of this number is free, and nothing else changes; a refusal changes nothing
abbrev pub Dropped : Due → (number : ℕ) → Shelf → Result Unit Refusal → Shelf → Type 0
Dropped due n before (Ok _) after =
    (due ≡ none)
    × ((k : ℕ) × (k < before.count) × (has n (slice_index_or before.slots k None) ≡ true)
    × (after.count ≡ before.count) × (after.slots ≡ slice_set before.slots k None))
Dropped due n before (Err reason) after = (due ≡ refusal (number reason)) × (after ≡ before)
