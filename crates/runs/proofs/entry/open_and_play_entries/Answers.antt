use Rattle.ledger.specs.Questions.{questions_by}
use Rattle.runs.proofs.Entries.{entries_opened}
use Rattle.runs.proofs.entry.open_and_play_entries.Goals as goal

pub returns : goal.returns
returns g c =
    let shelf = c.in_ok-shelf.ensures in
    entries_opened (questions_by g.R.RowKind.same g.P.Signature.count g.P.Signature.value) g.E.Entry.kind c.args.entries.now c.args.memory.now c.args.bytes.now c.args.words.now c.args.answers.now c.args.slots
    c.in_ok-shelf.shelf c.play_entries.new.shelf c.play_entries.new.memory c.play_entries.new.bytes c.play_entries.new.words c.play_entries.new.answers shelf.0 shelf.1 c.in_ok-play_entries.ensures
