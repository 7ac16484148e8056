use Rattle.std.proofs.Common.{◌≡◌, ℕ, ◌<◌, get_or}
use Rattle.matching.specs.Sharing.{shared}
use Rattle.matching.proofs.sharing.all_shared.Given as goal

abbrev pub invariant-loop-input : goal.invariant-loop-input
invariant-loop-input l = (i : ℕ) → i < l.input → get_or l.total-items i 0 ≡ shared l.sums l.inputs i
