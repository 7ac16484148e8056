use Rattle.std.proofs.Common.{◌≡◌, ℕ, ◌*◌, ◌^◌, ◌<◌, ◌≤◌, Bool, cond}
use Rattle.tables.specs.Sums.{sum_to}
use Rattle.signatures.specs.Values.{weight_at}
use Rattle.signatures.proofs.weights.weight_where.Given as goal

abbrev pub invariant-loop-r : goal.invariant-loop-r
invariant-loop-r g l = record {
  few : l.sum ≤ 255 * l.r;
  summed : (picked : ℕ → Bool) → ((r : ℕ) (b : Bool) → r < 2 ^ l.table.inputs → goal.F-post g l.is_picked r b → b ≡ picked r) → l.sum ≡ sum_to l.r (λ r. cond (picked r) (weight_at g.R.RowKind.weight l.table.rows.now r) 0);
}
