use Rattle.std.proofs.Common.{◌≡◌, length, map, take, drop}
use Rattle.typed_rows.specs.Reading.{digit}
use Rattle.typed_rows.proofs.reading.copy_rows.Given as goal

abbrev pub invariant-loop-i : goal.invariant-loop-i
invariant-loop-i l = record {
  spelled : map digit (take l.i l.room) ≡ take l.i l.digits;
  kept : drop (length l.digits) l.room ≡ drop (length l.digits) l.initial.room;
}
