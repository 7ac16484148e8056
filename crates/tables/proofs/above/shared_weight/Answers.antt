use Rattle.std.proofs.Common.{arith}
use Rattle.tables.proofs.Shifts.{shift}
use Rattle.tables.proofs.Pairs.{two_in}
use Rattle.tables.proofs.above.shared_weight.Goals as goal

pub bounds-sums-input : goal.bounds-sums-input
bounds-sums-input c =
    let i = c.args.input in
    let k = c.args.other in
    let two = two_in 10 i k c.requires.input_in c.requires.other_in c.requires.apart in
    omega (arith, two, shift i 18446744073709551616 c.requires.input_in (omega arith), shift k 18446744073709551616 c.requires.other_in (omega arith))
