use Rattle.std.proofs.Common.{◌-◌, [], length, take, drop, arith}
use Rattle.std.proofs.lemmas.List.{length-take}
use Rattle.line_service.proofs.Passing.{then_written, then_nothing, take_both, on_err}
use Rattle.line_service.proofs.writing.write_on.Goals as goal

pub returns-in_err-written-clause-part : goal.returns-in_err-written-clause-part
returns-in_err-written-clause-part g c =
    on_err c.from_residual.result _
    (c.loop-written.written, c.loop-written.invariant.0, then_nothing g.C.Peer.passes g.met.C.Peer.passes_in_order c.args.peer.now c.loop-written.peer c.write_some.new.peer [] (take c.loop-written.written c.args.bytes.now) c.loop-written.invariant.1 c.in_err-written.ensures.bytes)

pub loop-written-preserved : goal.loop-written-preserved
loop-written-preserved g c =
    let bytes = c.args.bytes.now in
    let written = c.loop-written.written in
    let count = c.in_ok-written.field-0 in
    let rest = take (length bytes - written) (drop written bytes) in (
      omega (arith, c.loop-written.invariant.0, c.in_ok-written.ensures.bound, length-take (length bytes - written) (drop written bytes)),
      rw (take_both bytes written count)
          (then_written g.C.Peer.passes g.met.C.Peer.passes_in_order c.args.peer.now c.loop-written.peer c.write_some.new.peer [] (take written bytes) (take count rest) c.loop-written.invariant.1 c.in_ok-written.ensures.bytes),
      λ at. c.write_some.ensures.end (c.loop-written.invariant.2 at),
    )
