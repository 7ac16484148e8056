use Rattle.std.proofs.Common.{◌≡◌, map, vec_items}
use Rattle.typed_rows.specs.Reading.{digit}
use Rattle.typed_rows.proofs.reading.rows_from.Given as goal

abbrev pub invariant-loop-byte : goal.invariant-loop-byte
invariant-loop-byte l = map digit (vec_items l.rows) ≡ l.yielded
