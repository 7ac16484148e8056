use Rattle.std.proofs.Common.{◌-◌, ◌≤◌, [], length, take}
use Rattle.line_service.proofs.writing.write_on.Given as goal

abbrev pub invariant-loop-written : goal.invariant-loop-written
invariant-loop-written g l =
    (l.written ≤ length l.bytes) × g.C.Peer.passes l.initial.peer [] (take l.written l.bytes) l.peer
    × (g.C.Peer.is_at_end l.initial.peer → g.C.Peer.is_at_end l.peer)

abbrev pub decreases-loop-written : goal.decreases-loop-written
decreases-loop-written g l = length l.bytes - l.written
