use Rattle.signatures.proofs.Laws.{cofactor_lawful}
use Rattle.signatures.proofs.cofactor.CofactorSignature.places.Goals as goal

pub returns-clause-lawful : goal.returns-clause-lawful
returns-clause-lawful g c = cofactor_lawful g.R.RowKind.same g.R.RowKind.weight g.met.R.RowKind.laws.alike
