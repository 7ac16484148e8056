use Rattle.std.proofs.Common.{[]}
use Rattle.line_service.proofs.Passing.{InterruptedUntil}
use Rattle.line_service.proofs.writing.flush_on.Given as goal

abbrev pub invariant-loop : goal.invariant-loop
invariant-loop g l =
    g.C.Peer.passes l.initial.peer [] [] l.peer × (g.C.Peer.is_at_end l.initial.peer → g.C.Peer.is_at_end l.peer)
    × InterruptedUntil g.C.Peer.write_fails l.initial.peer l.counter l.peer
