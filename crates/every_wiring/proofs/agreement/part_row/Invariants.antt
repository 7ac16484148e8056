use Rattle.std.proofs.Common.{◌≡◌, ◌≤◌, ◌+◌, ◌*◌, drop}
use Rattle.every_wiring.specs.Agreement.{part_row}
use Rattle.every_wiring.proofs.agreement.part_row.Given as goal

abbrev pub invariant-loop-pin : goal.invariant-loop-pin
invariant-loop-pin l = record {
  room : l.sum ≤ 32 * l.pin-index;
  value : l.sum + part_row (drop l.pin-index l.pins) l.left ≡ part_row l.pins l.row;
}
