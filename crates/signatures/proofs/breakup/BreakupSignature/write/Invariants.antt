use Rattle.std.proofs.Common.{◌≡◌, ℕ, ◌+◌, ◌<◌, [], length, get_or}
use Rattle.tables.specs.Sums.{sum_to}
use Rattle.signatures.proofs.Adding.{term}
use Rattle.signatures.proofs.breakup.BreakupSignature.write.Given as goal

abbrev pub invariant-loop-r : goal.invariant-loop-r
invariant-loop-r g l = record {
  whole : length l.answers ≡ 10;
  wide : (i : ℕ) → i < l.table.inputs → length (get_or l.answers i []) ≡ 64;
  added : (i p : ℕ) → i < l.table.inputs → p < 64
      → get_or (get_or l.answers i []) p 0 ≡ get_or (get_or l.initial.answers i []) p 0 + sum_to l.r (term g.R.RowKind.weight l.table.rows.now l.from i p);
}
