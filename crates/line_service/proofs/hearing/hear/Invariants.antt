use Rattle.std.proofs.Common.{◌≡◌, ◌*◌, length, take}
use Rattle.rows.specs.Kinds.{on_off_same}
use Rattle.ledger.specs.Questions.{questions_by}
use Rattle.line_service.specs.Service.{Hears}
use Rattle.line_service.proofs.hearing.hear.Given as goal

abbrev pub invariant-loop-byte : goal.invariant-loop-byte
invariant-loop-byte g l =
    (length l.memory ≡ l.shelf.count * 1024)
    × Hears (questions_by on_off_same g.P.Signature.count g.P.Signature.value) l.pile g.C.Peer.passes l.initial.begun (take l.byte-index l.bytes) l.initial.shelf l.initial.memory l.initial.peer l.begun l.shelf l.memory l.peer
