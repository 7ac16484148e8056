use Rattle.std.proofs.Common.{◌≡◌}
use Rattle.tables.specs.Wirings.{pin, Alike}
use Rattle.tables.proofs.wiring.Wiring.new.Given as goal

abbrev pub invariant-loop-pin : goal.invariant-loop-pin
invariant-loop-pin l =
    (l.partial.inputs ≡ l.inputs) × (l.partial.len ≡ l.pin-index)
    × Alike l.pin-index (pin l.partial.pins) (pin l.pins)
