use Rattle.std.proofs.Common.{◌≡◌, ℕ, ◌+◌, ◌<◌, ◌≤◌, length, slice_index}
use Rattle.tables.proofs.above.add_each.Given as goal

abbrev pub invariant-loop-s : goal.invariant-loop-s
invariant-loop-s l = record {
  len : length l.sums ≡ length l.initial.sums;
  added : (k : ℕ) → k < l.s → slice_index l.sums k ≡ slice_index l.initial.sums k + slice_index l.others k;
  rest : (k : ℕ) → l.s ≤ k → slice_index l.sums k ≡ slice_index l.initial.sums k;
}
