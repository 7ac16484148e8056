use Rattle.std.proofs.Common.{ℕ, ◌<◌, get_or}
use Rattle.matching.specs.Exchange.{Exchangeable}
use Rattle.matching.proofs.exchanging.lower_pins.Given as goal

abbrev pub invariant-loop-pin : goal.invariant-loop-pin
invariant-loop-pin g l = (p : ℕ) → p < l.pin → get_or l.lower-items p 0 < p → Exchangeable g.R.RowKind.same l.part l.strikes.struck (get_or l.lower-items p 0) p
