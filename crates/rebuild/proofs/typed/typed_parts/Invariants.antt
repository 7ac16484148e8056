use Rattle.std.proofs.Common.{◌≡◌, map, take, string_bytes, vec_items}
use Rattle.rebuild.specs.Reading.{spelled}
use Rattle.rebuild.proofs.typed.typed_parts.Given as goal

abbrev pub invariant-loop-k : goal.invariant-loop-k
invariant-loop-k l = map spelled (vec_items l.parts) ≡ take l.k (map string_bytes l.texts)
