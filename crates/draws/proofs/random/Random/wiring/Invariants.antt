use Rattle.std.proofs.Common.{◌≡◌, ◌-◌, length}
use Rattle.std.specs.Fn.{iterate}
use Rattle.tables.specs.Wirings.{pin, Wires}
use Rattle.draws.specs.Draws.{next}
use Rattle.draws.proofs.random.Random.wiring.Given as goal

abbrev pub invariant-loop-i : goal.invariant-loop-i
invariant-loop-i l = record {
  whole : length l.pins ≡ 10;
  wires : Wires l.inputs (pin l.pins);
  -- the draws that are left end in the state after all of them
  state : iterate next (l.inputs - l.i) l.self.0 ≡ iterate next l.inputs l.fn.self.0;
}
