use Rattle.std.proofs.Common.{◌≡◌, ◌+◌, ◌*◌, ◌<◌, ◌≤◌}
use Rattle.signatures.specs.Values.{refined_sum}
use Rattle.std.proofs.Common.{◌^◌, [], get_or}
use Rattle.signatures.proofs.refined.refine.Given as goal

-- the input itself adds nothing, so one term less than inputs counts
abbrev pub invariant-loop-k : goal.invariant-loop-k
invariant-loop-k l =
    (l.sum ≡ refined_sum l.k l.input (λ k. get_or l.sums (2 ^ l.input + 2 ^ k) 0) (λ k. get_or (get_or l.below k []) l.place 0))
    × (l.sum ≤ 267386880 * l.k)
    × (l.input < l.k → l.sum + 267386880 ≤ 267386880 * l.k)
