use Rattle.std.proofs.Common.{refl}
use Rattle.ledger.specs.Questions.{list_by, questions_by}
use Rattle.ledger.proofs.Questions.{shelf_lawful}
use Rattle.runs.specs.Transcript.{said, told}
use Rattle.runs.proofs.Steps.{does_leads}
use Rattle.runs.proofs.playing.CallEntry.play.Goals as goal

pub returns : goal.returns
returns g c = (
  said c.args.self.now,
  told c.obey.result,
  refl,
  (refl, refl),
  refl,
  does_leads (questions_by g.R.RowKind.same g.P.Signature.count g.P.Signature.value) (shelf_lawful g.R.RowKind.same (list_by g.P.Signature.count g.P.Signature.value))
      c.args.shelf.now c.args.memory.now c.requires.memory (said c.args.self.now) (told c.obey.result) c.obey.new.shelf c.obey.new.memory c.obey.ensures,
  c.obey.ensures,
)
