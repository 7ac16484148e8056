use Rattle.std.proofs.Common.{ℕ, ◌<◌, get_or}
use Rattle.symmetry.specs.Symmetry.{Class}
use Rattle.symmetry.proofs.classes.classes_of.Given as goal

abbrev pub invariant-loop-input : goal.invariant-loop-input
invariant-loop-input g l = (i : ℕ) → i < l.input → Class g.R.RowKind.same l.table.inputs l.table.rows.now i (get_or l.class-items i 0)
