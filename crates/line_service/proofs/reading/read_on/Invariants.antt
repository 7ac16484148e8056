use Rattle.std.proofs.Common.{◌≡◌, [], length}
use Rattle.line_service.proofs.Passing.{InterruptedUntil}
use Rattle.line_service.proofs.reading.read_on.Given as goal

abbrev pub invariant-loop : goal.invariant-loop
invariant-loop g l =
    (length l.chunk ≡ length l.initial.chunk) × g.C.Peer.is_flushed l.peer
    × g.C.Peer.passes l.initial.peer [] [] l.peer × InterruptedUntil g.C.Peer.read_fails l.initial.peer l.counter l.peer
