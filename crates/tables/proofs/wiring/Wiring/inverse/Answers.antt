use Rattle.std.proofs.Common.{◌≡◌, ℕ, ◌<◌, arith}
use Rattle.tables.specs.Wirings.{pin}
use Rattle.tables.proofs.Pins.{read_length}
use Rattle.tables.proofs.Onto.{turned_wires}
use Rattle.tables.proofs.wiring.Wiring.inverse.Goals as goal

all : (k n : ℕ) → n ≡ k → (w v : ℕ → ℕ) → ((i : ℕ) → i < k → v (w i) ≡ i) → (i : ℕ) → i < n → v (w i) ≡ i
all k n e w v h i li = h i (omega arith)

pub invariant_of-result : goal.invariant_of-result
invariant_of-result c =
    let x = c.args.self.now in
    let turned = all c.loop-i.i x.inputs (omega (arith, c.loop-i-test.false, c.loop-i.auto.i-end, read_length x c.pins-pin-items.result.now c.pins-pin-items.ensures)) (pin x.pins) (pin c.loop-i.pins) c.loop-i.invariant.1 in
    let wires = turned_wires x.inputs (pin x.pins) (pin c.loop-i.pins) (x.into, x.apart) turned in
    record { few = x.few; whole = c.loop-i.invariant.0; into = wires.0; apart = wires.1; rest = c.loop-i.invariant.2 }
