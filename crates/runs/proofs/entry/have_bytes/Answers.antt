use Rattle.std.proofs.Common.{◌+◌, sym, arith}
use Rattle.std.proofs.lemmas.Bool.{lt-leb}
use Rattle.runs.proofs.Entries.{rooms_more, rooms_within}
use Rattle.runs.proofs.entry.have_bytes.Goals as goal

pub returns-then-room-left : goal.returns-then-room-left
returns-then-room-left g c =
    let kind = g.E.Entry.kind.bytes in
    let entries = c.args.entries.now in
    let k = c.loop-entry.entry-index in
    let more = rooms_more kind entries k c.entry-item.result c.loop-entry-test.true c.entry-item.is in
    sym (lt-leb _ _ (omega (arith, more, rooms_within kind entries (k + 1), c.bytes-room.ensures, c.if-room-left.true, c.loop-entry.invariant)))

pub loop-entry-preserved : goal.loop-entry-preserved
loop-entry-preserved g c =
    let more = rooms_more g.E.Entry.kind.bytes c.args.entries.now c.loop-entry.entry-index c.entry-item.result c.loop-entry-test.true c.entry-item.is in
    omega (arith, more, c.bytes-room.ensures, c.if-room-left.false, c.loop-entry.invariant)
