use Rattle.std.proofs.Common.{None, sym, ◌∙◌, subst}
use Rattle.ledger.specs.Questions.{list_by}
use Rattle.inventory.specs.Fitting.{Worth}
use Rattle.inventory.proofs.Choosing.{slot_read, slot_passed, slot_searched, all_slots}
use Rattle.inventory.proofs.shelf.Shelf.best_fit.Goals as goal
use Rattle.inventory.proofs.shelf.Shelf.best_fit.Goals.{in-Some, in_default}

pub loop-k-preserved : goal.loop-k-preserved
loop-k-preserved g c =
    let shelf = c.args.self.now in
    let card = c.args.card.now in
    let same = g.R.RowKind.same in
    let list = list_by g.P.Signature.count g.P.Signature.value in
    let here = slot_read shelf c.loop-k.k c.slot-item.result c.loop-k-test.true in
    elim c.match-worth.branch [
      | in-Some w ↦
          let worth = w.in-Some.ensures in
          rw (w.best-is, w.or-best.ensures)
          (slot_searched same list shelf.slots c.args.memory.now card.inputs card.rows.now c.args.pile.now shelf.once c.loop-k.k c.loop-k.best c.loop-k.invariant w.in-Some.label (sym here ∙ worth.0)
          w.propose.result (rw (w.stored-part.ensures.0, w.stored-part.ensures.1) at w.propose.ensures) worth.2)
      | in_default w ↦
          rw w.best-is
          (slot_passed same list shelf.slots c.args.memory.now card.inputs card.rows.now c.args.pile.now shelf.once c.loop-k.k c.loop-k.best c.loop-k.invariant
          (subst (λ s. Worth s card.inputs c.loop-k.best None) here w.in_default.ensures))
    ]

pub returns : goal.returns
returns g c =
    all_slots g.R.RowKind.same (list_by g.P.Signature.count g.P.Signature.value) c.args.self.now c.args.memory.now c.args.card.now.inputs c.args.card.now.rows.now c.args.pile.now c.loop-k.k c.loop-k.best c.loop-k-test.false c.loop-k.invariant
