use Rattle.std.proofs.Common.{◌≡◌, ℕ, ◌<◌, not, true, take, get_or, Some, None, position, Option, sym, ap}
use Rattle.std.specs.Option.{ok_or}
use Rattle.refusals.specs.Due.{Outcome, first, none}
use Rattle.refusals.specs.declared.refusal.Refusal.{Refusal}
use Rattle.refusals.proofs.Dues.{is_due, not_due}
use Rattle.inventory.specs.Slots.{has, labelled}
use Rattle.inventory.specs.declared.shelf.Shelf.{Shelf}
use Rattle.inventory.proofs.Fronts.{found, place}
use Rattle.inventory.proofs.shelf.Shelf.slot_of.Goals as goal

sought : (shelf : Shelf) (n : ℕ) (o : Option ℕ) → o ≡ position (has n) (take shelf.count shelf.slots)
    → Outcome (first (not (labelled n shelf.slots)) 9 none) (λ k. (k < shelf.count) × (has n (get_or shelf.slots k None) ≡ true)) (ok_or o Refusal.NumberDoesNotStand)
sought shelf n None e = is_due _ 9 none (ap not (found shelf n None e))
sought shelf n (Some k) e = (not_due _ 9 none (ap not (found shelf n (Some k) e)), place shelf (has n) k (sym e))

pub returns : goal.returns
returns c = rw c.ok_or.ensures.value (sought c.args.self.now c.args.number c.find.result c.find.ensures)
