use Rattle.ledger.specs.Questions.{questions_by}
use Rattle.runs.proofs.CallLists.{calls_played}
use Rattle.runs.proofs.playing.play.Goals as goal

pub returns : goal.returns
returns g c =
    calls_played (questions_by g.R.RowKind.same g.P.Signature.count g.P.Signature.value) c.args.memory.now c.args.calls.now c.args.answers.now
    c.args.shelf.now c.play_entries.result c.play_entries.new.shelf c.play_entries.new.memory c.play_entries.new.bytes c.play_entries.new.words c.play_entries.new.answers c.play_entries.ensures
