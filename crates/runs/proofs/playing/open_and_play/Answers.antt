use Rattle.std.proofs.Common.{map}
use Rattle.ledger.specs.Questions.{questions_by}
use Rattle.runs.specs.Transcript.{said}
use Rattle.runs.proofs.Starting.{opened}
use Rattle.runs.proofs.playing.open_and_play.Goals as goal

pub returns : goal.returns
returns g c =
    let shelf = c.in_ok-shelf.ensures in
    opened (questions_by g.R.RowKind.same g.P.Signature.count g.P.Signature.value) c.args.memory.now (map said c.args.calls.now) c.args.answers.now c.args.slots
    c.in_ok-shelf.shelf c.play.new.shelf c.play.new.memory c.play.new.answers shelf.0 shelf.1 c.in_ok-play.ensures
