use Rattle.signatures.proofs.Neighbours.{neighbour_lawful}
use Rattle.signatures.proofs.neighbour.NeighbourSignature.places.Goals as goal

pub returns-clause-lawful : goal.returns-clause-lawful
returns-clause-lawful g c = neighbour_lawful g.R.RowKind.same g.R.RowKind.weight g.met.R.RowKind.laws.symmetric g.met.R.RowKind.laws.transitive g.met.R.RowKind.laws.alike
