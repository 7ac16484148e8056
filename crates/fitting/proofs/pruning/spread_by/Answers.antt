use Rattle.std.proofs.Common.{◌∙◌}
use Rattle.lists.specs.Spread.{spread}
use Rattle.fitting.proofs.Pruned.{agree_most, from_lists}
use Rattle.fitting.proofs.pruning.spread_by.Goals as goal

pub returns : goal.returns
returns g c =
    let count = g.P.Signature.count c.args.pile.now in
    let value = g.P.Signature.value c.args.pile.now in
    let same = g.R.RowKind.same in
    let card = c.args.card.now in
    let part = c.args.part.now in
    let law = c.fill.ensures.lawful in
    let ga = c.fill.ensures.gives in
    let gb = c.fill-2.ensures.gives in
    record {
      formula = c.spread.ensures.formula ∙ from_lists count value same law card.inputs part.inputs card.rows.now part.rows.now c.fill.new.lists c.fill-2.new.lists ga gb spread;
      bound = agree_most count value same law card.inputs part.inputs card.rows.now part.rows.now c.fill.new.lists c.fill-2.new.lists ga gb part.whole c.spread.result c.spread.ensures.bound;
    }
