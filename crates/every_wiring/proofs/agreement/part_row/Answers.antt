use Rattle.std.proofs.Common.{◌≡◌, ℕ, ◌+◌, ◌*◌, ◌/◌, ◌%◌, ◌^◌, ◌<◌, ◌≤◌, List, drop, get_or, ap, arith}
use Rattle.std.proofs.Math.Pow.{pow_mono}
use Rattle.std.proofs.lemmas.List.{at_drop_more}
use Rattle.every_wiring.specs.Agreement.{part_row}
use Rattle.every_wiring.proofs.agreement.part_row.Goals as goal
use Rattle.every_wiring.proofs.agreement.part_row.Goals.{then-left-eq1, else-left-eq1}

bounded : (pin : ℕ) → pin < 6 → 2 ^ pin ≤ 32
bounded pin low = pow_mono {i = pin} {j = 5} (omega (arith, low))

pub overflow_add-sum : goal.overflow_add-sum
overflow_add-sum c =
    let room = bounded _ (c.requires.low c.loop-pin.pin-index 0 c.loop-pin-test.true) in omega arith

pub loop-pin-preserved : goal.loop-pin-preserved
loop-pin-preserved c =
    let pins : List ℕ = c.args.pins.now in
    let i : ℕ = c.loop-pin.pin-index in
    let left : ℕ = c.loop-pin.left in
    let value : ℕ = 2 ^ get_or pins i 0 in
    let step : part_row (drop i pins) left ≡ left % 2 * value + part_row (drop (i + 1) pins) (left / 2) = at_drop_more (λ ps. part_row ps left) pins i 0 c.loop-pin-test.true in
    let room : value ≤ 32 = bounded (get_or pins i 0) (c.requires.low i 0 c.loop-pin-test.true) in
    elim c.if-left-eq1.branch [
      | then-left-eq1 w ↦ let bit : left % 2 * value ≡ 1 * value = ap (λ b. b * value) w.if-left-eq1.true in record { room = omega arith; value = omega arith }
      | else-left-eq1 w ↦ let bit : left % 2 * value ≡ 0 * value = ap (λ b. b * value) (omega arith) in record { room = omega arith; value = omega arith }
    ]
