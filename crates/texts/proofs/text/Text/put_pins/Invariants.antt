use Rattle.std.proofs.Common.{◌≡◌, ◌++◌, take}
use Rattle.texts.specs.Pins.{pins_text}
use Rattle.texts.proofs.text.Text.put_pins.Given as goal

abbrev pub invariant-loop-pin : goal.invariant-loop-pin
invariant-loop-pin l = l.self ≡ l.initial.self ++ pins_text (take l.pin-index l.pins)
