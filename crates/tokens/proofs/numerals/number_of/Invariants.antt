use Rattle.tokens.proofs.Digits.{Sofar}
use Rattle.tokens.proofs.numerals.number_of.Given as goal

abbrev pub invariant-loop-byte : goal.invariant-loop-byte
invariant-loop-byte l = Sofar l.run l.byte-index l.number
