-- What a shelf and its memory hold.
use Rattle.std.specs.Prelude.{◌≡◌, List, length, is_some, count_by, Option}
use Rattle.lists.specs.Counting.{Mem}
use Rattle.ledger.specs.Ledger.{Part, Call, after}
use Rattle.ledger.specs.Questions.{Answer, Questions}
use Rattle.ledger.specs.Law.{RightFor}
use Rattle.ledger.specs.Fixed.{Once}
use Rattle.inventory.specs.Slots.{Held}
use Rattle.inventory.specs.declared.label.Label.{Label}
use Rattle.inventory.specs.declared.shelf.Shelf.{Shelf}

-- the shelf holds exactly these parts, each number once, and as many slots are in use
pub record Holds {R : Type 0} (slots : List (Option Label)) (memory : List R) (parts : List (Part R)) : Type 0 where
  pub held : (part : Part R) → Mem part parts → Held slots memory part
  pub listed : (part : Part R) → Held slots memory part → Mem part parts
  pub once : Once parts
  pub count : length parts ≡ count_by is_some slots

-- whatever parts the shelf holds, the call is answered right for them, and then it holds the parts that the ledger has
abbrev pub Leads : {R Q : Type 0} → Questions R Q → Shelf → List R → Call R Q → Answer → Shelf → List R → Type 0
Leads {R} questions shelf memory call answer shelf' memory' =
    (shelf'.count ≡ shelf.count)
    × ((parts : List (Part R)) → Holds shelf.slots memory parts
    → RightFor questions shelf.count parts call answer × Holds shelf'.slots memory' (after shelf.count parts call))
