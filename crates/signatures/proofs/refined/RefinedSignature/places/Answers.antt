use Rattle.signatures.proofs.Laws.{refined_lawful}
use Rattle.signatures.proofs.refined.RefinedSignature.places.Goals as goal

pub returns-clause-lawful : goal.returns-clause-lawful
returns-clause-lawful g c = refined_lawful g.R.RowKind.same g.R.RowKind.weight g.met.R.RowKind.laws.alike _ _ c.places.ensures.lawful
