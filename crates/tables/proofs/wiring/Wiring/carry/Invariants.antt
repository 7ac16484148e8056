use Rattle.std.proofs.Common.{◌≡◌}
use Rattle.tables.specs.Wirings.{pin}
use Rattle.tables.specs.Carry.{carry}
use Rattle.tables.proofs.wiring.Wiring.carry.Given as goal

abbrev pub invariant-loop-i : goal.invariant-loop-i
invariant-loop-i l = l.carried ≡ carry l.i (pin l.self.pins) l.row
