use Rattle.std.proofs.Common.{◌<◌, length, sym, refl, subst, arith, length-set}
use Rattle.inventory.proofs.Labels.{put_once, put_past}
use Rattle.inventory.proofs.Writes.{rows_fit}
use Rattle.inventory.proofs.shelf.Shelf.enter.Goals as goal

pub store-requires-clause-rows_fit : goal.store-requires-clause-rows_fit
store-requires-clause-rows_fit g c = let table = c.in_ok-check.ensures.1 in omega (arith, table.1, rows_fit c.args.inputs table.0)

pub invariant_of-self-2 : goal.invariant_of-self-2
invariant_of-self-2 g c =
    let shelf = c.args.self.now in
    let room = c.in_ok-slot.ensures.1 in
    let few = shelf.few in
    let slot : c.in_ok-slot.slot < length shelf.slots = subst (λ n. c.in_ok-slot.slot < n) (sym shelf.whole) (omega (arith, room.0)) in
    record { some = shelf.some; few = shelf.few; whole = simp length-set shelf.whole; past = put_past shelf.slots c.in_ok-slot.slot shelf.count _ room.0 shelf.past; once = put_once shelf.slots c.in_ok-slot.slot _ slot room.2 shelf.once }

pub returns : goal.returns
returns g c =
    let room = c.in_ok-slot.ensures in (
      rw (c.in_ok-check_number.ensures.0, c.in_ok-check.ensures.0, c.in_ok-check_memory.ensures.0) room.0,
      (c.in_ok-slot.slot, _, room.1.0, room.1.1, refl, refl, refl, refl, c.store.ensures),
    )
