use Rattle.std.proofs.Common.{◌≡◌, ℕ, ◌<◌, ◌≤◌, length}
use Rattle.tables.specs.Wirings.{pin}
use Rattle.tables.proofs.wiring.Wiring.inverse.Given as goal

abbrev pub invariant-loop-i : goal.invariant-loop-i
invariant-loop-i l =
    (length l.pins ≡ 10)
    × ((i : ℕ) → i < l.i → pin l.pins (pin l.self.pins i) ≡ i)
    × ((j : ℕ) → l.self.inputs ≤ j → pin l.pins j ≡ 0)
