use Rattle.std.proofs.Common.{◌≡◌, ◌+◌, take}
use Rattle.runs.specs.Entries.{rooms}
use Rattle.runs.proofs.entry.have_words.Given as goal

abbrev pub invariant-loop-entry : goal.invariant-loop-entry
invariant-loop-entry g l = rooms g.E.Entry.kind.words (take l.entry-index l.entries) + l.left ≡ l.words
