use Rattle.std.proofs.Common.{◌≡◌, ◌^◌, ◌<◌, [], length, length-append, ap, rules, arith}
use Rattle.std.specs.Prelude.{⊤}
use Rattle.rows.specs.Kinds.{on_off_same}
use Rattle.ledger.specs.Questions.{questions_by}
use Rattle.line_service.specs.Transcripts.{transcript_passes}
use Rattle.line_service.proofs.Passing.{err_again}
use Rattle.line_service.proofs.Breaking.{breaks_in_memory}
use Rattle.line_service.proofs.in_memory.answers_to.Goals as goal

pub returns-in_err-serve-clause-refused : goal.returns-in_err-serve-clause-refused
returns-in_err-serve-clause-refused g c =
    let input = c.args.input.now in
    let rest = c.serve.new.peer.input.now in
    let bound : length input < 2 ^ 63 = search rules in
    err_again c.from_residual.result c.in_err-serve.field-0.0 _ c.from_residual.ensures.1
    (breaks_in_memory (questions_by on_off_same g.P.Signature.count g.P.Signature.value) c.args.pile.now transcript_passes (λ talk. talk.input.now ≡ []) (λ talk. ⊤) c.args.slots c.args.memory.now _ c.serve.new.memory c.serve.new.peer
    c.in_err-serve.field-0.0 c.in_err-serve.ensures.refused (λ bytes text passed. omega (arith, bound, ap length passed.0, length-append bytes rest)))
