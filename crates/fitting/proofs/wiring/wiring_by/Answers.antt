use Rattle.fitting.proofs.Sparing.{fits}
use Rattle.fitting.proofs.wiring.wiring_by.Goals as goal

pub returns : goal.returns
returns g c =
    fits g.R.RowKind.same c.args.card.now c.args.part.now c.strikes_by.result.struck c.strikes_by.ensures.spares c.first_wiring.result c.first_wiring.ensures
