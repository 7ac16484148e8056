use Rattle.std.proofs.Common.{◌≡◌, ℕ, ◌<◌}
use Rattle.matching.specs.Struck.{struck}
use Rattle.matching.proofs.exchanging.can_change_places.Given as goal

abbrev pub invariant-loop-k : goal.invariant-loop-k
invariant-loop-k g l = (i : ℕ) → i < l.k → struck l.strikes.struck i l.lower ≡ struck l.strikes.struck i l.pin
