use Rattle.std.proofs.Common.{◌≡◌, ℕ, ◌<◌}
use Rattle.std.specs.Prelude.{slice_get}
use Rattle.every_wiring.specs.Agreement.{part_row}
use Rattle.every_wiring.proofs.agreement.agree.Given as goal

abbrev pub invariant-loop-row : goal.invariant-loop-row
invariant-loop-row l = (r : ℕ) → r < l.row → slice_get l.part (part_row l.pins r) ≡ slice_get l.card r
