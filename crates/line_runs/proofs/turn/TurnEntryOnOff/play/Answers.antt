use Rattle.std.proofs.Common.{ap, ◌∙◌}
use Rattle.rows.specs.Kinds.{on_off_same}
use Rattle.ledger.specs.Questions.{list_by, questions_by}
use Rattle.ledger.proofs.Questions.{shelf_lawful}
use Rattle.line_runs.specs.Turns.{asks, room}
use Rattle.line_runs.proofs.Lines.{line_takes}
use Rattle.line_runs.proofs.turn.TurnEntryOnOff.play.Goals as goal

pub returns-in-Line : goal.returns-in-Line
returns-in-Line g c =
    rw c.in-Line.is
    (line_takes (questions_by on_off_same g.P.Signature.count g.P.Signature.value) (shelf_lawful on_off_same (list_by g.P.Signature.count g.P.Signature.value)) c.in-Line.text.now c.in-Line.pile.now c.args.shelf.now c.args.memory.now c.requires.memory
    c.args.bytes.now c.args.words.now c.answer_line.new.shelf c.answer_line.new.memory c.answer_line.new.room c.in-Line.room (c.requires.bytes ∙ ap (λ t. room (asks t)) c.in-Line.is) c.answer_line.result c.answer_line.ensures)
