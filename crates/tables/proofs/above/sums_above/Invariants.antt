use Rattle.std.proofs.Common.{◌≡◌, ℕ, ◌<◌, ◌≤◌, length, map, slice_index}
use Rattle.tables.proofs.above.sums_above.Given as goal

abbrev pub invariant-loop-r : goal.invariant-loop-r
invariant-loop-r g l = record {
  len : length l.sums ≡ 1024;
  rest : (k : ℕ) → l.r ≤ k → slice_index l.sums k ≡ slice_index l.initial.sums k;
  weights : (k : ℕ) → k < l.r → slice_index l.sums k ≡ slice_index (map g.R.RowKind.weight l.table.rows.now) k;
}
