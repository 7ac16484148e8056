use Rattle.std.proofs.Common.{◌≡◌, map, take, vec_items}
use Rattle.rebuild.specs.Reading.{spelled}
use Rattle.rebuild.specs.Sizing.{stocked_text}
use Rattle.rebuild.proofs.sizing.stocked.Given as goal

abbrev pub invariant-loop-part : goal.invariant-loop-part
invariant-loop-part l = map stocked_text (vec_items l.stock) ≡ map spelled (take l.part-index l.parts)
