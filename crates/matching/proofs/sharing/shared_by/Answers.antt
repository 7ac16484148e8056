use Rattle.std.proofs.Common.{arith}
use Rattle.tables.proofs.Shifts.{pow_small, shift}
use Rattle.matching.proofs.sharing.shared_by.Goals as goal

pub bounds-sums-other : goal.bounds-sums-other
bounds-sums-other c =
    let k = c.loop-other.other in
    omega (arith, c.loop-other-test.true, c.requires.few, pow_small k (omega arith), shift k 18446744073709551616 (omega arith) (omega arith))
