use Rattle.std.proofs.Common.{◌≡◌, ℕ, ◌*◌, ◌≤◌, List, length}
use Rattle.rows.specs.Kinds.{on_off_same}
use Rattle.ledger.specs.Questions.{questions_by}
use Rattle.line_service.proofs.Opened.{Goes}
use Rattle.line_service.proofs.serving.serve.Given as goal

abbrev pub invariant-loop : goal.invariant-loop
invariant-loop g l =
    (length l.memory ≡ l.shelf.count * 1024)
    × ((bytes : List ℕ) × (l.counter ≤ length bytes)
    × Goes (questions_by on_off_same g.P.Signature.count g.P.Signature.value) l.pile l.initial.shelf l.initial.memory g.C.Peer.passes g.met.C.Peer.passes_in_order l.initial.peer bytes l.peer l.begun l.shelf l.memory)
