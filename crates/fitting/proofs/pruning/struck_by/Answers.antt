use Rattle.std.proofs.Common.{◌∙◌}
use Rattle.lists.specs.Pairs.{struck_pairs}
use Rattle.fitting.proofs.Pruned.{from_lists}
use Rattle.fitting.proofs.pruning.struck_by.Goals as goal

pub returns : goal.returns
returns g c =
    let card = c.args.card.now in
    let part = c.args.part.now in
    c.struck_count.ensures
    ∙ from_lists (g.P.Signature.count c.args.pile.now) (g.P.Signature.value c.args.pile.now) g.R.RowKind.same c.fill.ensures.lawful card.inputs part.inputs card.rows.now part.rows.now c.fill.new.lists c.fill-2.new.lists c.fill.ensures.gives c.fill-2.ensures.gives struck_pairs
