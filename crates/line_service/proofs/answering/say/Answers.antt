use Rattle.std.proofs.Common.{take}
use Rattle.rows.specs.Kinds.{on_off_same}
use Rattle.ledger.specs.Questions.{questions_by}
use Rattle.line_service.proofs.Passing.{map_ok, map_err}
use Rattle.line_service.proofs.Talking.{one_talks, one_in_part}
use Rattle.line_service.proofs.answering.say.Goals as goal

pub returns-clause-said : goal.returns-clause-said
returns-clause-said g c =
    let line = c.play_line-size in
    let text = take line.result line.new.bytes in
    let talks = one_talks (questions_by on_off_same g.P.Signature.count g.P.Signature.value) c.args.pile.now c.args.line.now text c.args.shelf.now c.args.memory.now line.new.shelf line.new.memory line.ensures.1 in
    map_ok c.write_on.result _ _ (λ passed. (text, passed, talks)) c.write_on.ensures.whole

pub returns-clause-cut : goal.returns-clause-cut
returns-clause-cut g c =
    let line = c.play_line-size in
    let text = take line.result line.new.bytes in
    let talks = one_in_part (questions_by on_off_same g.P.Signature.count g.P.Signature.value) c.args.pile.now c.args.line.now text c.args.shelf.now c.args.memory.now line.new.shelf line.new.memory line.ensures.1 in
    map_err c.write_on.result _ _ (λ part. (take part.0 text, part.2, talks part.0)) c.write_on.ensures.part
