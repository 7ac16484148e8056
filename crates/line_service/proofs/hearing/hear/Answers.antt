use Rattle.std.proofs.Common.{[], ◌∷◌, ◌+◌, get_or, take, drop, subst, arith}
use Rattle.std.proofs.lemmas.List.{take_more}
use Rattle.rows.specs.Kinds.{on_off_same}
use Rattle.ledger.specs.Questions.{questions_by}
use Rattle.line_service.specs.Service.{HearsInPart}
use Rattle.line_service.proofs.Passing.{on_err}
use Rattle.line_service.proofs.Composing.{around, hears_append, hears_then_part, hears_nothing}
use Rattle.line_service.proofs.hearing.hear.Goals as goal

pub loop-byte-init : goal.loop-byte-init
loop-byte-init g c =
    (c.requires, hears_nothing (questions_by on_off_same g.P.Signature.count g.P.Signature.value) c.args.pile.now g.C.Peer.passes g.met.C.Peer.passes_nothing g.met.C.Peer.passes_in_order c.args.begun.now c.args.shelf.now c.args.memory.now c.args.peer.now)

pub loop-byte-preserved : goal.loop-byte-preserved
loop-byte-preserved g c =
    let before = c.loop-byte.invariant in
    let step = c.in_ok-hear_byte.ensures.heard in
    let bytes = c.args.bytes.now in
    let k = c.loop-byte.byte-index in (
      omega (arith, c.hear_byte.auto.memory, before.0, step.1.2.2.2),
      rw (take_more bytes k 0 c.loop-byte-test.true)
          (hears_append (questions_by on_off_same g.P.Signature.count g.P.Signature.value) c.args.pile.now g.C.Peer.passes g.met.C.Peer.passes_nothing g.met.C.Peer.passes_in_order
          c.args.shelf.now c.args.memory.now c.args.peer.now c.loop-byte.shelf c.loop-byte.memory c.loop-byte.peer c.hear_byte.new.shelf c.hear_byte.new.memory c.hear_byte.new.peer
          c.args.begun.now (take k bytes) (get_or bytes k 0 ∷ []) c.loop-byte.begun c.hear_byte.new.begun before.1 step),
    )

pub returns-in_err-hear_byte-clause-cut : goal.returns-in_err-hear_byte-clause-cut
returns-in_err-hear_byte-clause-cut g c =
    let questions = questions_by on_off_same g.P.Signature.count g.P.Signature.value in
    let bytes = c.args.bytes.now in
    let k = c.loop-byte.byte-index in
    on_err c.from_residual.result _
    (subst (λ l. HearsInPart questions c.args.pile.now g.C.Peer.passes c.args.begun.now l c.args.shelf.now c.args.memory.now c.args.peer.now c.hear_byte.new.shelf c.hear_byte.new.memory c.hear_byte.new.peer) (around bytes k c.loop-byte-test.true)
    (hears_then_part questions c.args.pile.now g.C.Peer.passes g.met.C.Peer.passes_nothing g.met.C.Peer.passes_in_order
    c.args.shelf.now c.args.memory.now c.args.peer.now c.loop-byte.shelf c.loop-byte.memory c.loop-byte.peer c.hear_byte.new.shelf c.hear_byte.new.memory c.hear_byte.new.peer
    c.args.begun.now (take k bytes) (get_or bytes k 0 ∷ []) (drop (k + 1) bytes) c.loop-byte.begun c.loop-byte.invariant.1 c.in_err-hear_byte.ensures.cut))
