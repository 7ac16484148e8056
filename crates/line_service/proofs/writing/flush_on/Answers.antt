use Rattle.std.proofs.Common.{[], ◌∷◌, refl, inr, rules, arith}
use Rattle.line_service.proofs.Passing.{then_nothing}
use Rattle.line_service.proofs.writing.flush_on.Goals as goal

pub returns-in-Err-2-clause-bytes : goal.returns-in-Err-2-clause-bytes
returns-in-Err-2-clause-bytes g c = then_nothing g.C.Peer.passes g.met.C.Peer.passes_in_order c.args.peer.now c.loop.peer c.flush.new.self [] [] c.loop.invariant.0 c.in-Err-2.ensures.bytes

pub returns-in-Ok-clause-bytes : goal.returns-in-Ok-clause-bytes
returns-in-Ok-clause-bytes g c = then_nothing g.C.Peer.passes g.met.C.Peer.passes_in_order c.args.peer.now c.loop.peer c.flush.new.self [] [] c.loop.invariant.0 c.flush.ensures.bytes

pub loop-preserved : goal.loop-preserved
loop-preserved g c = (
  then_nothing g.C.Peer.passes g.met.C.Peer.passes_in_order c.args.peer.now c.loop.peer c.flush.new.self [] [] c.loop.invariant.0 c.in-Err.ensures.bytes,
  λ at. c.flush.ensures.end (c.loop.invariant.1 at),
  (
    c.in-Err.error ∷ c.loop.invariant.2.0,
    omega (arith, c.loop.invariant.2.1),
    (c.loop.peer, c.loop.invariant.2.2, c.in-Err.ensures.failed, search rules),
  ),
)

pub loop-init : goal.loop-init
loop-init g c = (g.met.C.Peer.passes_nothing c.args.peer.now, λ at. at, ([], refl, tt))

pub returns-clause-failed : goal.returns-clause-failed
returns-clause-failed g c = inr (search rules, (c.args.peer.now, c.loop.invariant.2.0, omega (arith, c.loop.invariant.2.1, c.loop-test.false, c.loop.auto.counter-end), c.loop.invariant.2.2))
