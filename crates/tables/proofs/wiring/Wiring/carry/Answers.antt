use Rattle.std.proofs.Common.{◌≡◌, ◌+◌, ◌^◌, ◌<◌, ◌≤◌, ap, ◌∙◌, arith}
use Rattle.tables.specs.Wirings.{pin, Wires}
use Rattle.tables.specs.declared.wiring.Wiring.{Wiring}
use Rattle.tables.specs.Carry.{carry}
use Rattle.tables.proofs.Carries.{carry_more, carry_small, carry_lt, carry_carried}
use Rattle.tables.proofs.Pins.{read_length, read_pin}
use Rattle.tables.proofs.Shifts.{shift}
use Rattle.tables.proofs.wiring.Wiring.carry.Goals as goal

wires_of : (x : Wiring) → Wires x.inputs (pin x.pins)
wires_of x = (x.into, x.apart)

pub overflow_add-carried : goal.overflow_add-carried
overflow_add-carried c =
    let x = c.args.self.now in
    let w = pin x.pins in
    let pins = c.pins-pin-items.result.now in
    let i = c.loop-i.i in
    let few : x.inputs ≤ 10 = x.few in
    let li : i < x.inputs = omega (arith, c.loop-i-test.true, read_length x pins c.pins-pin-items.ensures) in
    let here = read_pin x pins c.pins-pin-items.ensures i li in
    let into : w i < x.inputs = x.into i li in
    let e = shift (pin pins i) 18446744073709551616 (omega arith) (omega arith) in
    let more = carry_more x.inputs i w c.args.row c.if-row-i-eq1.true in
    let top = carry_small x.inputs (i + 1) w c.args.row (wires_of x) (omega arith) few in
    omega (arith, e, ap (λ p. 2 ^ p) here, more, top, c.loop-i.invariant)

pub returns : goal.returns
returns c =
    let x = c.args.self.now in
    let w = pin x.pins in
    let r = c.args.row in
    let e : c.loop-i.i ≡ x.inputs = omega (arith, c.loop-i-test.false, c.loop-i.auto.i-end, read_length x c.pins-pin-items.result.now c.pins-pin-items.ensures) in
    let all : c.loop-i.carried ≡ carry x.inputs w r = c.loop-i.invariant ∙ ap (λ k. carry k w r) e in
    let lt = carry_lt x.inputs x.inputs w r (wires_of x) in
    record {
      within = omega (arith, all, lt);
      carried = rw all (carry_carried x.inputs w (wires_of x) r);
    }
