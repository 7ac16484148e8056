use Rattle.ledger.specs.Questions.{list_by}
use Rattle.inventory.specs.Fitting.{Best}
use Rattle.inventory.specs.Slots.{HeldBelow}
use Rattle.inventory.proofs.shelf.Shelf.best_fit.Given as goal

abbrev pub invariant-loop-k : goal.invariant-loop-k
invariant-loop-k g l =
    Best g.R.RowKind.same (list_by g.P.Signature.count g.P.Signature.value) (HeldBelow l.self.slots l.memory l.k) l.card.inputs l.card.rows.now l.pile l.best
