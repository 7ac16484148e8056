use Rattle.matching.specs.Struck.{struck}
use Rattle.matching.specs.Sharing.{unlike}
use Rattle.matching.proofs.Striking.{Upto}
use Rattle.matching.proofs.sharing.with_unlike.Given as goal

abbrev pub invariant-loop-pin : goal.invariant-loop-pin
invariant-loop-pin l = Upto (struck l.fn.strikes.struck) (unlike l.card_sums l.part_sums l.inputs) l.input l.pin l.strikes.struck

abbrev pub invariant-loop-input : goal.invariant-loop-input
invariant-loop-input l = Upto (struck l.fn.strikes.struck) (unlike l.card_sums l.part_sums l.inputs) l.input 0 l.strikes.struck
