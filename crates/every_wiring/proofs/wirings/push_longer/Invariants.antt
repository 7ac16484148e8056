use Rattle.std.proofs.Common.{◌≡◌, ◌++◌, take}
use Rattle.every_wiring.specs.Lists.{pins_of}
use Rattle.every_wiring.specs.Wirings.{longer_by}
use Rattle.every_wiring.proofs.wirings.push_longer.Given as goal

abbrev pub invariant-loop-pins : goal.invariant-loop-pins
invariant-loop-pins l =
    pins_of l.longer.items ≡ pins_of l.initial.longer.items ++ longer_by (pins_of (take l.pins-index l.lists)) l.pin
