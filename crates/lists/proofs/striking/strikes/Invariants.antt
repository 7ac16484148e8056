use Rattle.std.proofs.Common.{false}
use Rattle.matching.proofs.Striking.{Upto}
use Rattle.lists.specs.Pairs.{unequal}
use Rattle.lists.proofs.striking.strikes.Given as goal

abbrev pub invariant-loop-pin : goal.invariant-loop-pin
invariant-loop-pin l = Upto (λ _ _. false) (unequal l.card l.part) l.input l.pin l.strikes.struck

abbrev pub invariant-loop-input : goal.invariant-loop-input
invariant-loop-input l = Upto (λ _ _. false) (unequal l.card l.part) l.input 0 l.strikes.struck
