use Rattle.std.proofs.Common.{◌≡◌, ◌+◌, ◌-◌, ◌<◌, ◌≤◌, [], length, take, refl, ◌∙◌, arith}
use Rattle.std.proofs.lemmas.Grind.{common_steps}
use Rattle.std.proofs.lemmas.List.{take_more_set}
use Rattle.ledger.specs.Questions.{questions_by}
use Rattle.runs.specs.Entries.{bytes_of, words_of}
use Rattle.runs.proofs.Entries.{one_more, rooms_more, entry_fits, lawful_more}
use Rattle.runs.proofs.entry.play_entries.Goals as goal

pub loop-k-init : goal.loop-k-init
loop-k-init g c = (c.in_ok-check_memory.ensures.1, refl, refl, refl, refl, ([], [], tt, refl, refl, (refl, refl), λ parts h. (tt, h)))

pub overflow_add-bytes_end : goal.overflow_add-bytes_end
overflow_add-bytes_end g c = omega (arith, entry_fits g.E.Entry.kind.bytes c.args.entries.now c.loop-k.k c.index-entries-k.result c.loop-k-test.true c.index-entries-k.is c.loop-k.bytes_start (length c.args.bytes.now) c.loop-k.invariant.2 c.if-not-have_bytes.ensures, c.bytes.ensures)

pub overflow_add-words_end : goal.overflow_add-words_end
overflow_add-words_end g c = omega (arith, entry_fits g.E.Entry.kind.words c.args.entries.now c.loop-k.k c.index-entries-k.result c.loop-k-test.true c.index-entries-k.is c.loop-k.words_start (length c.args.words.now) c.loop-k.invariant.3 c.if-not-have_words.ensures, c.words.ensures)

pub slice_bounds-play-end : goal.slice_bounds-play-end
slice_bounds-play-end g c = let fits = entry_fits g.E.Entry.kind.bytes c.args.entries.now c.loop-k.k c.index-entries-k.result c.loop-k-test.true c.index-entries-k.is c.loop-k.bytes_start (length c.args.bytes.now) c.loop-k.invariant.2 c.if-not-have_bytes.ensures in omega (arith, fits, c.bytes.ensures, c.loop-k.auto.bytes)

pub slice_bounds-play-end-in-loop-k : goal.slice_bounds-play-end-in-loop-k
slice_bounds-play-end-in-loop-k g c = let fits = entry_fits g.E.Entry.kind.words c.args.entries.now c.loop-k.k c.index-entries-k.result c.loop-k-test.true c.index-entries-k.is c.loop-k.words_start (length c.args.words.now) c.loop-k.invariant.3 c.if-not-have_words.ensures in omega (arith, fits, c.words.ensures, c.loop-k.auto.words)

pub loop-k-preserved : goal.loop-k-preserved
loop-k-preserved g c =
    let kind = g.E.Entry.kind in
    let xs = c.args.entries.now in
    let k = c.loop-k.k in
    let i = c.loop-k.invariant in
    let x = c.index-entries-k.result in
    let leads = c.play.ensures.5 in
    let fits = entry_fits kind.bytes xs k x c.loop-k-test.true c.index-entries-k.is c.loop-k.bytes_start (length c.args.bytes.now) i.2 c.if-not-have_bytes.ensures in
    let fits_words = entry_fits kind.words xs k x c.loop-k-test.true c.index-entries-k.is c.loop-k.words_start (length c.args.words.now) i.3 c.if-not-have_words.ensures in
    let more = one_more xs k x c.loop-k-test.true c.index-entries-k.is in
    let long : k < length c.loop-k.answers = omega (arith, c.if-answers-entries.false, c.loop-k-test.true, c.loop-k.auto.answers) in
    let size : c.loop-k.bytes_start + c.bytes.result - c.loop-k.bytes_start ≡ bytes_of kind x = omega (arith, c.bytes.ensures) in
    let size_words : c.loop-k.words_start + c.words.result - c.loop-k.words_start ≡ words_of kind x = omega (arith, c.words.ensures) in
    let inside : c.loop-k.bytes_start + bytes_of kind x ≤ length c.loop-k.bytes = omega (arith, fits, c.loop-k.auto.bytes) in
    let inside_words : c.loop-k.words_start + words_of kind x ≤ length c.loop-k.words = omega (arith, fits_words, c.loop-k.auto.words) in
    let sized : length c.play.new.bytes ≡ bytes_of kind x = grind (arith, common_steps, c.play.auto.bytes, size, inside) in
    let sized_words : length c.play.new.words ≡ words_of kind x = grind (arith, common_steps, c.play.auto.words, size_words, inside_words) in
    let whole = lawful_more (questions_by g.R.RowKind.same g.P.Signature.count g.P.Signature.value) kind (take k xs) c.args.shelf.now c.args.memory.now (take k c.loop-k.answers) c.args.bytes.now c.loop-k.bytes c.args.words.now c.loop-k.words c.loop-k.shelf c.loop-k.memory
    x c.play.result c.play.new.bytes c.play.new.words c.play.new.shelf c.play.new.memory i.1
    (omega (arith, fits, i.2, c.loop-k.auto.bytes)) c.loop-k.auto.bytes sized
    (omega (arith, fits_words, i.3, c.loop-k.auto.words)) c.loop-k.auto.words sized_words i.5 (rw (← i.2, ← i.3, ← size, ← size_words) c.play.ensures) in (
      omega (arith, c.play.auto.memory, i.0, leads.0),
      leads.0 ∙ i.1,
      omega (arith, i.2, c.bytes.ensures, rooms_more kind.bytes xs k x c.loop-k-test.true c.index-entries-k.is),
      omega (arith, i.3, c.words.ensures, rooms_more kind.words xs k x c.loop-k-test.true c.index-entries-k.is),
      grind (arith, common_steps, i.4),
      rw (more, take_more_set c.loop-k.answers k c.play.result long, size, size_words, ← sized, ← sized_words, i.2, i.3) whole,
    )
