use Rattle.std.proofs.Common.{map, take}
use Rattle.every_wiring.specs.Agreement.{Agrees}
use Rattle.every_wiring.specs.Lists.{pins_of}
use Rattle.every_wiring.proofs.Listing.{IsPicked}
use Rattle.every_wiring.proofs.wirings.Wirings.agreeing.Given as goal

abbrev pub invariant-loop-pins : goal.invariant-loop-pins
invariant-loop-pins l =
    IsPicked (Agrees l.card l.part) (pins_of (take l.pins-index l.self.list.items)) (map (λ pins. pins.now) l.agreeing.items)
