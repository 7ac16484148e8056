use Rattle.signatures.proofs.Neighbours.{term}
use Rattle.signatures.proofs.Tallies.{Tally}
use Rattle.signatures.proofs.neighbour.NeighbourPerInput.put.Given as goal

abbrev pub invariant-loop-r : goal.invariant-loop-r
invariant-loop-r g l = Tally 3 (term g.R.RowKind.same g.R.RowKind.weight l.table.rows.now l.input) l.r l.room
