use Rattle.std.proofs.Common.{◌≡◌, ◌+◌, take}
use Rattle.runs.specs.Entries.{rooms}
use Rattle.runs.proofs.entry.have_bytes.Given as goal

abbrev pub invariant-loop-entry : goal.invariant-loop-entry
invariant-loop-entry g l = rooms g.E.Entry.kind.bytes (take l.entry-index l.entries) + l.left ≡ l.bytes
