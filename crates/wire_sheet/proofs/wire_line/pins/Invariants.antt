use Rattle.std.proofs.Common.{length}
use Rattle.tokens.specs.Cursors.{rest}
use Rattle.wire_sheet.proofs.Lists.{Gone}
use Rattle.wire_sheet.proofs.wire_line.pins.Given as goal

abbrev pub invariant-loop-list : goal.invariant-loop-list
invariant-loop-list l = Gone (rest l.initial.cursor) (rest l.cursor) l.list

abbrev pub decreases-loop-list : goal.decreases-loop-list
decreases-loop-list l = length (rest l.cursor)
