use Rattle.ledger.specs.Questions.{list_by, shelf_questions}
use Rattle.ledger.proofs.Questions.{shelf_lawful}
use Rattle.ledger.proofs.One.{stand_once, asking_keeps, one_answer, one_transcript, ten_exactly}
use Rattle.ledger.proofs.fixed.law_fixes_answers.Goals as goal

pub returns : goal.returns
returns g c =
    let same = g.R.RowKind.same in
    let list = list_by g.P.Signature.count g.P.Signature.value in
    let questions = shelf_questions same list in
    let lawful = shelf_lawful same list in
    record {
      once = stand_once questions;
      keeps = asking_keeps questions;
      answer = one_answer questions lawful;
      transcript = one_transcript questions lawful;
      ten = ten_exactly same list;
    }
