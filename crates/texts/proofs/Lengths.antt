-- How long numbers and the pins of a to-list are.
use Rattle.std.proofs.Common.{◌≡◌, ℕ, suc, ◌+◌, ◌*◌, ◌/◌, ◌^◌, ◌<◌, ◌≤◌, ◌∙◌, List, [], ◌∷◌, length, take, refl, ap, arith, length-append}
use Rattle.std.specs.Prelude.{slice_index}
use Rattle.std.specs.Fmt.{decimal}
use Rattle.std.proofs.lemmas.Fmt.{decimal_digit, decimal_step}
use Rattle.std.proofs.lemmas.Grind.{common_steps}
use Rattle.tables.specs.declared.wiring.Wiring.{Wiring}
use Rattle.tables.proofs.Pins.{read_length, read_pin}
use Rattle.texts.specs.Pins.{pins_text}

pub length-decimal_step : (n : ℕ) → 10 ≤ n → n < 2 ^ 64 → length (decimal n) ≡ length (decimal (n / 10)) + 1
length-decimal_step n ten fits = ap length (decimal_step n ten fits) ∙ length-append (decimal (n / 10)) _

pub length-decimal_digit : (n : ℕ) → n < 10 → length (decimal n) ≡ 1
length-decimal_digit n one = ap length (decimal_digit n one)

pub ruleset steps = (arith, common_steps, decimal_digit, decimal_step, length-decimal_digit, length-decimal_step)

pub length-pins_text : (pins : List ℕ) → ((i : ℕ) → i < length pins → slice_index pins i < 10) → length (pins_text pins) ≡ 2 * length pins
length-pins_text [] digit = omega arith
length-pins_text (pin ∷ pins) digit =
    omega (arith, length-decimal_digit pin (digit 0 (omega arith)), length-append (decimal pin) (pins_text pins), length-pins_text pins (λ i lt. digit (suc i) (omega (arith, lt))))

pub length-pins_text-take : (w : Wiring) → length (pins_text (take w.inputs w.pins)) ≤ 20
length-pins_text-take w =
    let whole = read_length w _ refl in
    omega (
      arith,
      w.few,
      whole,
      length-pins_text (take w.inputs w.pins) (λ i lt.
          let below : i < w.inputs = omega (arith, whole, lt) in
          rw (read_pin w _ refl i below) (omega (arith, w.few, w.into i below))),
    )
