use Rattle.std.proofs.Common.{[], refl, arith}
use Rattle.rows.specs.Kinds.{on_off_same}
use Rattle.ledger.specs.Questions.{questions_by}
use Rattle.line_service.proofs.Talking.{line_sized, line_answered}
use Rattle.line_service.proofs.answering.play_line.Goals as goal

pub written-requires : goal.written-requires
written-requires g c = let so = c.play.ensures in line_sized (questions_by on_off_same g.P.Signature.count g.P.Signature.value) c.args.pile.now c.args.line.now c.play.result c.args.bytes.now c.play.new.bytes so.1 so.3

pub returns : goal.returns
returns g c =
    line_answered (questions_by on_off_same g.P.Signature.count g.P.Signature.value) c.args.pile.now c.args.line c.args.pile c.args.shelf.now c.args.memory.now c.play.new.shelf c.play.new.memory c.args.bytes.now c.play.new.bytes [] c.play.new.words
    c.play.result c.written.result refl (omega (arith, c.play.auto.bytes)) c.written.ensures c.play.ensures
