use Rattle.std.proofs.Common.{◌≡◌, ◌*◌, length, take, drop}
use Rattle.ledger.specs.Questions.{questions_by}
use Rattle.runs.specs.Entries.{all_bytes, all_words, Lawful}
use Rattle.runs.proofs.entry.play_entries.Given as goal

abbrev pub invariant-loop-k : goal.invariant-loop-k
invariant-loop-k g l =
    (length l.memory ≡ l.shelf.count * 1024)
    × (l.shelf.count ≡ l.initial.shelf.count)
    × (l.bytes_start ≡ all_bytes g.E.Entry.kind (take l.k l.entries))
    × (l.words_start ≡ all_words g.E.Entry.kind (take l.k l.entries))
    × (drop (length l.entries) l.answers ≡ drop (length l.entries) l.initial.answers)
    × Lawful (questions_by g.R.RowKind.same g.P.Signature.count g.P.Signature.value) g.E.Entry.kind (take l.k l.entries) l.initial.shelf l.initial.memory (take l.k l.answers) l.initial.bytes l.bytes l.initial.words l.words l.shelf l.memory
