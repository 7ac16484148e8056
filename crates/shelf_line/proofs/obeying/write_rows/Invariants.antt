use Rattle.std.proofs.Common.{◌≡◌, map, take}
use Rattle.typed_rows.specs.Reading.{digit}
use Rattle.shelf_line.proofs.obeying.write_rows.Given as goal

abbrev pub invariant-loop-i : goal.invariant-loop-i
invariant-loop-i l = map digit (take l.i l.room) ≡ take l.i l.digits
