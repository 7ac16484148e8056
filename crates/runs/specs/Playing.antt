-- What playing a list of calls answers and changes: the law of runs.
use Rattle.std.specs.Prelude.{◌≡◌, ℕ, List, [], map, length, take, drop, Ok, Err, Result, nat_lt}
use Rattle.refusals.specs.Due.{Due, none, refusal, first, first_of}
use Rattle.refusals.specs.Numbers.{number}
use Rattle.refusals.specs.declared.refusal.Refusal.{Refusal}
use Rattle.lists.specs.Counting.{Mem}
use Rattle.ledger.specs.Ledger.{Part, Call, ledger, ledger_from}
use Rattle.ledger.specs.Questions.{Questions}
use Rattle.ledger.specs.Law.{Answered}
use Rattle.inventory.specs.Slots.{memory_due}
use Rattle.inventory.specs.Stocking.{open_due, IsEmpty}
use Rattle.inventory.specs.declared.shelf.Shelf.{Shelf}
use Rattle.runs.specs.Transcript.{told}
use Rattle.runs.specs.Calls.{DoesEach}
use Rattle.runs.specs.Holding.{Holds}
use Rattle.runs.specs.declared.answer.Grant.{Grant}

-- row memory of a wrong length is refused with 6, and then room for fewer answers than calls with 13
abbrev pub play_due : (slots memory calls answers : ℕ) → Due
play_due slots memory calls answers = first_of (memory_due slots memory) (first (nat_lt answers calls) 13 none)

module _ {R Q : Type 0} (questions : Questions R Q) (memory : List R) (calls : List (Call R Q)) (answers : List (Result Grant Refusal)) where
  -- whatever parts the shelf holds, each answer is right for the parts that stood when its call came, and the shelf then
  -- holds the parts of the ledger; of slots and rows each call changes what it changes by itself, and no more; answers past
  -- the calls are as they were, and a refusal changes nothing
  abbrev pub Played : Shelf → Result Unit Refusal → Shelf → List R → List (Result Grant Refusal) → Type 0
  Played shelf (Ok _) shelf' memory' answers' =
      (play_due shelf.count (length memory) (length calls) (length answers) ≡ none)
      × (shelf'.count ≡ shelf.count)
      × (drop (length calls) answers' ≡ drop (length calls) answers)
      × ((parts : List (Part R)) → Holds shelf.slots memory parts
      → Answered questions shelf.count parts calls (map told (take (length calls) answers'))
      × Holds shelf'.slots memory' (ledger_from shelf.count parts calls))
      × DoesEach questions calls (map told (take (length calls) answers')) shelf memory shelf' memory'
  Played shelf (Err reason) shelf' memory' answers' =
      (play_due shelf.count (length memory) (length calls) (length answers) ≡ refusal (number reason))
      × (shelf' ≡ shelf) × (memory' ≡ memory) × (answers' ≡ answers)

  -- the same on a shelf just opened, which holds no part whatever the memory holds
  abbrev pub Opened : (slots : ℕ) → Result Shelf Refusal → List R → List (Result Grant Refusal) → Type 0
  Opened slots (Ok shelf) memory' answers' =
      (first_of (open_due slots) (play_due slots (length memory) (length calls) (length answers)) ≡ none)
      × (shelf.count ≡ slots)
      × (drop (length calls) answers' ≡ drop (length calls) answers)
      × Answered questions slots [] calls (map told (take (length calls) answers'))
      × Holds shelf.slots memory' (ledger slots calls)
      × ((first : Shelf) × IsEmpty slots first × DoesEach questions calls (map told (take (length calls) answers')) first memory shelf memory')
  Opened slots (Err reason) memory' answers' =
      (first_of (open_due slots) (play_due slots (length memory) (length calls) (length answers)) ≡ refusal (number reason))
      × (memory' ≡ memory) × (answers' ≡ answers)

-- a shelf just opened holds no part, whatever the memory holds
abbrev pub OpenedIsEmpty : (R : Type 0) → Type 0
OpenedIsEmpty R = (slots : ℕ) (shelf : Shelf) (memory : List R) → IsEmpty slots shelf → Holds shelf.slots memory []

-- every shelf holds some parts, and every list of parts that it holds has the same ones
abbrev pub HoldsParts : (R : Type 0) → Type 0
HoldsParts R = (shelf : Shelf) (memory : List R) → (parts : List (Part R)) × Holds shelf.slots memory parts
    × ((others : List (Part R)) → Holds shelf.slots memory others → (part : Part R)
    → (Mem part others → Mem part parts) × (Mem part parts → Mem part others))
