use Rattle.std.proofs.Common.{◌≡◌}
use Rattle.every_wiring.specs.Lists.{pins_of}
use Rattle.every_wiring.specs.Wirings.{longer_to, partial_to}
use Rattle.every_wiring.proofs.wirings.every_wiring.Given as goal

abbrev pub invariant-loop-placed : goal.invariant-loop-placed
invariant-loop-placed l = pins_of l.lists.items ≡ partial_to l.inputs l._placed

abbrev pub invariant-loop-pin : goal.invariant-loop-pin
invariant-loop-pin l = pins_of l.longer.items ≡ longer_to (pins_of l.lists.items) l.pin
