use Rattle.std.proofs.Common.{sym, ◌∙◌}
use Rattle.matching.proofs.Choosing.{unlike_sizes, unlike_weights}
use Rattle.matching.proofs.search.first_wiring.Goals as goal

pub returns-then-card-part : goal.returns-then-card-part
returns-then-card-part g c = unlike_sizes g.R.RowKind.same c.args.card.now c.args.part.now c.args.strikes.now.struck c.if-card-part.true

pub returns-then-total_weight : goal.returns-then-total_weight
returns-then-total_weight g c =
    unlike_weights g.R.RowKind.same g.R.RowKind.weight g.met.R.RowKind.laws.alike c.args.card.now c.args.part.now c.args.strikes.now.struck
    (λ e. c.if-total_weight.true (c.total_weight.ensures ∙ e ∙ sym c.total_weight-2.ensures))
