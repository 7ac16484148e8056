use Rattle.rows.specs.Kinds.{on_off_same}
use Rattle.ledger.specs.Questions.{questions_by}
use Rattle.line_service.proofs.Passing.{on_err}
use Rattle.line_service.proofs.Composing.{hears_cut, hears_other}
use Rattle.line_service.proofs.hearing.hear_byte.Goals as goal

pub returns-in_err-say-clause-cut : goal.returns-in_err-say-clause-cut
returns-in_err-say-clause-cut g c =
    let questions = questions_by on_off_same g.P.Signature.count g.P.Signature.value in
    let line = c.as_bytes.result.now in
    on_err c.from_residual.result _
    (hears_cut questions c.args.pile.now g.C.Peer.passes g.met.C.Peer.passes_nothing g.met.C.Peer.passes_in_order c.args.begun.now c.args.byte c.if-byte-eq10.true c.args.shelf.now c.args.memory.now c.args.peer.now c.say.new.shelf c.say.new.memory c.say.new.peer
    (rw (← c.add.ensures, ← c.as_bytes.ensures) c.in_err-say.ensures.cut))

pub returns-else-byte-eq10-clause-heard : goal.returns-else-byte-eq10-clause-heard
returns-else-byte-eq10-clause-heard g c =
    rw c.add.ensures
    (hears_other (questions_by on_off_same g.P.Signature.count g.P.Signature.value) c.args.pile.now g.C.Peer.passes g.met.C.Peer.passes_nothing g.met.C.Peer.passes_in_order c.args.begun.now c.args.shelf.now c.args.memory.now c.args.peer.now c.args.byte c.if-byte-eq10.false)
