use Rattle.std.proofs.Common.{◌∙◌}
use Rattle.fitting.proofs.Pruned.{apart_is, agree_keeps}
use Rattle.fitting.proofs.pruning.strikes_by.Goals as goal

pub returns : goal.returns
returns g c =
    let count = g.P.Signature.count c.args.pile.now in
    let value = g.P.Signature.value c.args.pile.now in
    let same = g.R.RowKind.same in
    let card = c.args.card.now in
    let part = c.args.part.now in
    let law = c.fill.ensures.lawful in
    let ga = c.fill.ensures.gives in
    let gb = c.fill-2.ensures.gives in
    record {
      exact = λ i p. c.strikes.ensures.exact i p ∙ apart_is count value same law card.inputs part.inputs card.rows.now part.rows.now c.fill.new.lists c.fill-2.new.lists ga gb i p;
      spares = λ w agree. c.strikes.ensures.spares card.inputs w (agree_keeps count value same law card.inputs part.inputs card.rows.now part.rows.now c.fill.new.lists c.fill-2.new.lists ga gb part.whole w agree);
    }
