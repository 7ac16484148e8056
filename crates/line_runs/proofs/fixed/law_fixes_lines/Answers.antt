use Rattle.rows.specs.Kinds.{on_off_same}
use Rattle.ledger.specs.Questions.{list_by, questions_by}
use Rattle.ledger.proofs.Questions.{shelf_lawful}
use Rattle.runs.proofs.Entries.{one_writing}
use Rattle.line_runs.specs.Turns.{turn_kind}
use Rattle.line_runs.proofs.One.{one_turn, one_told, one_told_words}
use Rattle.line_runs.proofs.fixed.law_fixes_lines.Goals as goal

pub returns : goal.returns
returns g c =
    let questions = questions_by on_off_same g.P.Signature.count g.P.Signature.value in
    let lawful = shelf_lawful on_off_same (list_by g.P.Signature.count g.P.Signature.value) in
    let kind = turn_kind g.row.P.Denot in
    record {
      call = one_turn;
      writing = one_writing questions lawful kind kind.bytes one_turn one_told;
      words = one_writing questions lawful kind kind.words one_turn one_told_words;
    }
