use Rattle.std.proofs.Common.{sym, ◌∙◌, arith}
use Rattle.ledger.specs.Questions.{list_by}
use Rattle.inventory.proofs.Choosing.{slot_read}
use Rattle.inventory.proofs.Measuring.{slot_spreads}
use Rattle.inventory.proofs.shelf.Shelf.spread.Goals as goal

pub returns : goal.returns
returns g c =
    let shelf = c.args.self.now in
    let few = shelf.few in
    let slot = c.in_ok-slot.ensures in
    let table = c.in_ok-card.ensures in
    let part = c.stored-part.ensures in (
      rw (c.in_ok-check_number.ensures.0, table.0, c.in_ok-check_memory.ensures.0) slot.0,
      slot_spreads g.R.RowKind.same (list_by g.P.Signature.count g.P.Signature.value) shelf.slots c.args.memory.now c.in_ok-slot.slot c.in-Some.label
          (sym (slot_read shelf c.in_ok-slot.slot _ (omega (arith, slot.1.0))) ∙ c.in-Some.is)
          c.args.number slot.1.1 c.args.inputs c.args.card.now c.args.pile.now c.spread_by.result
          (rw (table.1.0, table.1.1, part.0, part.1) at c.spread_by.ensures.formula)
          (rw (table.1.0, table.1.1, part.1) at c.spread_by.ensures.bound),
    )
