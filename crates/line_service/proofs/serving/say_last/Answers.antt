use Rattle.std.proofs.Common.{◌≡◌, [], ◌∙◌, sym}
use Rattle.rows.specs.Kinds.{on_off_same}
use Rattle.ledger.specs.Questions.{questions_by}
use Rattle.line_service.proofs.Composing.{is_nothing, says_no_last}
use Rattle.line_service.proofs.serving.say_last.Goals as goal

pub returns-then-is_empty-clause-said : goal.returns-then-is_empty-clause-said
returns-then-is_empty-clause-said g c =
    let nothing : c.args.begun.now ≡ [] = sym c.as_bytes-line.ensures ∙ is_nothing c.as_bytes-line.result.now c.if-is_empty.ensures in
    says_no_last (questions_by on_off_same g.P.Signature.count g.P.Signature.value) c.args.pile.now g.C.Peer.passes g.met.C.Peer.passes_nothing g.met.C.Peer.passes_in_order c.args.begun.now nothing c.args.shelf.now c.args.memory.now c.args.peer.now
