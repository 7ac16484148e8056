use Rattle.signatures.proofs.Laws.{breakup_lawful}
use Rattle.signatures.proofs.breakup.BreakupSignature.places.Goals as goal

pub returns-clause-lawful : goal.returns-clause-lawful
returns-clause-lawful g c = breakup_lawful g.R.RowKind.same g.R.RowKind.weight g.met.R.RowKind.laws.alike
