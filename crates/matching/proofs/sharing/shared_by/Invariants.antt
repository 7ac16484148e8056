use Rattle.std.proofs.Common.{◌≡◌, ◌+◌, ◌*◌, ◌^◌, ◌≤◌, get_or, cond, eqb}
use Rattle.tables.specs.Sums.{sum_to}
use Rattle.matching.specs.Sharing.{share}
use Rattle.matching.proofs.sharing.shared_by.Given as goal

abbrev pub invariant-loop-other : goal.invariant-loop-other
invariant-loop-other l =
    (l.total ≡ sum_to l.other (λ k. cond (eqb k l.input) 0 (share (get_or l.sums (2 ^ l.input + 2 ^ k) 0) (get_or l.sums (2 ^ k) 0))))
    × (l.total ≤ 2 ^ 44 * l.other)
