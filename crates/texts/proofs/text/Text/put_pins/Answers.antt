use Rattle.std.proofs.Common.{ℕ, ◌+◌, ◌<◌, ◌≤◌, List, ◌++◌, length, take, get_or, arith, length-append}
use Rattle.std.specs.Prelude.{codes}
use Rattle.std.specs.Fmt.{decimal}
use Rattle.std.proofs.lemmas.List.Folds.{length-flat_map-take}
use Rattle.texts.specs.Pins.{pins_text}
use Rattle.texts.proofs.text.Text.put_pins.Goals as goal

-- where all pins have room after a text, so does the next pin after the ones before it
room : (text pins : List ℕ) (i : ℕ) → i < length pins → length text + length (pins_text pins) ≤ 64 → length (text ++ pins_text (take i pins)) + (1 + length (decimal (get_or pins i 0))) ≤ 64
room text pins i lt fits = omega (arith, length-append text (pins_text (take i pins)), length-flat_map-take (λ pin. codes " " ++ decimal pin) pins i 0 lt)

pub put-requires : goal.put-requires
put-requires c = rw c.loop-pin.invariant (omega (arith, room _ _ _ c.loop-pin-test.true c.requires))

pub put_number-requires : goal.put_number-requires
put_number-requires c = rw (c.put.ensures.len, c.from.ensures, c.loop-pin.invariant) (omega (arith, room _ _ _ c.loop-pin-test.true c.requires))
