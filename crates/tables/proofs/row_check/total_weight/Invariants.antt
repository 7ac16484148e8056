use Rattle.std.proofs.Common.{◌≡◌, ◌*◌, ◌≤◌}
use Rattle.tables.specs.Sums.{weighed}
use Rattle.tables.proofs.row_check.total_weight.Given as goal

abbrev pub invariant-loop-row : goal.invariant-loop-row
invariant-loop-row g l = (l.sum ≡ weighed g.R.RowKind.weight l.table.rows.now l.row-index) × (l.sum ≤ 255 * l.row-index)
