use Rattle.std.proofs.Common.{[], ◌++◌, take, length-append, arith}
use Rattle.std.proofs.lemmas.List.{length-take}
use Rattle.rows.specs.Kinds.{on_off_same}
use Rattle.ledger.specs.Questions.{questions_by}
use Rattle.line_service.specs.Lines.{last}
use Rattle.line_service.proofs.Passing.{map_ok, err_again}
use Rattle.line_service.proofs.Opened.{says_kept, says_whole, goes_nothing, goes_kept, goes_on, answers_whole, answers_all, breaks_at_end, breaks_here, breaks_later}
use Rattle.line_service.proofs.Breaking.{reading_breaks, writing_breaks, any_writing_breaks}
use Rattle.line_service.proofs.serving.serve.Goals as goal

pub loop-init : goal.loop-init
loop-init g c = (
  c.in_ok-check_memory.ensures.1,
  (
    [],
    omega arith,
    rw c.empty-begun.ensures
        (goes_nothing (questions_by on_off_same g.P.Signature.count g.P.Signature.value) c.args.pile.now c.in_ok-shelf.shelf c.args.memory.now g.C.Peer.passes g.met.C.Peer.passes_in_order c.args.peer.now (g.met.C.Peer.passes_nothing c.args.peer.now)),
  ),
)

pub returns-in_err-flush_on-clause-refused : goal.returns-in_err-flush_on-clause-refused
returns-in_err-flush_on-clause-refused g c =
    let bytes = c.loop.invariant.1.0 in
    let goes = goes_kept (questions_by on_off_same g.P.Signature.count g.P.Signature.value) c.args.pile.now c.in_ok-shelf.shelf c.args.memory.now g.C.Peer.passes g.met.C.Peer.passes_in_order c.args.peer.now bytes c.loop.begun c.loop.shelf c.loop.memory c.loop.peer c.flush_on.new.peer c.loop.invariant.1.2 c.flush_on.ensures.bytes in
    err_again c.from_residual-in_err-flush_on.result c.in_err-flush_on.field-0.0 _ c.from_residual-in_err-flush_on.ensures.1
    (writing_breaks (questions_by on_off_same g.P.Signature.count g.P.Signature.value) c.args.pile.now g.C.Peer.passes g.C.Peer.is_at_end g.C.Peer.is_flushed g.C.Peer.read_fails g.C.Peer.write_fails c.args.slots c.args.memory.now c.args.peer.now c.loop.memory c.flush_on.new.peer (rw (c.in_ok-shelf.ensures.0, ← c.in_ok-shelf.ensures.1.0) c.in_ok-check_memory.ensures.0)
    (breaks_here (questions_by on_off_same g.P.Signature.count g.P.Signature.value) c.args.pile.now c.in_ok-shelf.shelf c.args.memory.now c.args.slots c.in_ok-shelf.ensures.1 g.C.Peer.passes g.met.C.Peer.passes_in_order c.args.peer.now bytes c.loop.begun c.loop.shelf c.loop.memory c.flush_on.new.peer (g.C.Peer.is_at_end c.flush_on.new.peer) goes)
    c.in_err-flush_on.field-0.0 c.in_err-flush_on.ensures.failed)

pub returns-in_err-count-clause-refused : goal.returns-in_err-count-clause-refused
returns-in_err-count-clause-refused g c =
    let bytes = c.loop.invariant.1.0 in
    let goes = goes_kept (questions_by on_off_same g.P.Signature.count g.P.Signature.value) c.args.pile.now c.in_ok-shelf.shelf c.args.memory.now g.C.Peer.passes g.met.C.Peer.passes_in_order c.args.peer.now bytes c.loop.begun c.loop.shelf c.loop.memory c.loop.peer c.flush_on.new.peer c.loop.invariant.1.2 c.flush_on.ensures.bytes in
    let after = goes_kept (questions_by on_off_same g.P.Signature.count g.P.Signature.value) c.args.pile.now c.in_ok-shelf.shelf c.args.memory.now g.C.Peer.passes g.met.C.Peer.passes_in_order c.args.peer.now bytes c.loop.begun c.loop.shelf c.loop.memory c.flush_on.new.peer c.read_on.new.peer goes c.in_err-count.ensures.bytes in
    err_again c.from_residual-in_err-count.result c.in_err-count.field-0.0 _ c.from_residual-in_err-count.ensures.1
    (reading_breaks (questions_by on_off_same g.P.Signature.count g.P.Signature.value) c.args.pile.now g.C.Peer.passes g.C.Peer.is_at_end g.C.Peer.is_flushed g.C.Peer.read_fails g.C.Peer.write_fails c.args.slots c.args.memory.now c.args.peer.now c.loop.memory c.read_on.new.peer (rw (c.in_ok-shelf.ensures.0, ← c.in_ok-shelf.ensures.1.0) c.in_ok-check_memory.ensures.0)
    bytes (answers_whole (questions_by on_off_same g.P.Signature.count g.P.Signature.value) c.args.pile.now c.in_ok-shelf.shelf c.args.memory.now c.args.slots c.in_ok-shelf.ensures.1 g.C.Peer.passes g.met.C.Peer.passes_in_order c.args.peer.now bytes c.loop.begun c.loop.shelf c.loop.memory c.read_on.new.peer after) c.read_on.ensures.flushed
    c.in_err-count.field-0.0 c.in_err-count.ensures.failed)

pub returns-in_err-say_last-clause-refused : goal.returns-in_err-say_last-clause-refused
returns-in_err-say_last-clause-refused g c =
    let bytes = c.loop.invariant.1.0 in
    let goes = goes_kept (questions_by on_off_same g.P.Signature.count g.P.Signature.value) c.args.pile.now c.in_ok-shelf.shelf c.args.memory.now g.C.Peer.passes g.met.C.Peer.passes_in_order c.args.peer.now bytes c.loop.begun c.loop.shelf c.loop.memory c.loop.peer c.flush_on.new.peer c.loop.invariant.1.2 c.flush_on.ensures.bytes in
    let after = goes_kept (questions_by on_off_same g.P.Signature.count g.P.Signature.value) c.args.pile.now c.in_ok-shelf.shelf c.args.memory.now g.C.Peer.passes g.met.C.Peer.passes_in_order c.args.peer.now bytes c.loop.begun c.loop.shelf c.loop.memory c.flush_on.new.peer c.read_on.new.peer goes (rw c.if-count-eq0.true at c.in_ok-count.ensures.bytes) in
    let ended = c.read_on.ensures.end (rw c.if-count-eq0.true at c.in_ok-count.was) (omega (arith, c.read_on.auto.chunk)) in
    err_again c.from_residual-in_err-say_last.result c.in_err-say_last.field-0.0 _ c.from_residual-in_err-say_last.ensures.1
    (writing_breaks (questions_by on_off_same g.P.Signature.count g.P.Signature.value) c.args.pile.now g.C.Peer.passes g.C.Peer.is_at_end g.C.Peer.is_flushed g.C.Peer.read_fails g.C.Peer.write_fails c.args.slots c.args.memory.now c.args.peer.now c.say_last.new.memory c.say_last.new.peer (rw (c.in_ok-shelf.ensures.0, ← c.in_ok-shelf.ensures.1.0) c.in_ok-check_memory.ensures.0)
    (breaks_at_end (questions_by on_off_same g.P.Signature.count g.P.Signature.value) c.args.pile.now c.in_ok-shelf.shelf c.args.memory.now c.args.slots c.in_ok-shelf.ensures.1 g.C.Peer.passes g.met.C.Peer.passes_in_order c.args.peer.now bytes c.loop.begun c.loop.shelf c.loop.memory c.read_on.new.peer c.say_last.new.peer c.say_last.new.shelf c.say_last.new.memory (g.C.Peer.is_at_end c.say_last.new.peer) (c.say_last.ensures.end ended) after c.in_err-say_last.ensures.cut)
    c.in_err-say_last.field-0.0 c.in_err-say_last.ensures.failed)

pub returns-then-count-eq0-clause-served : goal.returns-then-count-eq0-clause-served
returns-then-count-eq0-clause-served g c =
    let bytes = c.loop.invariant.1.0 in
    let flush = c.flush_on-then-count-eq0 in
    let goes = goes_kept (questions_by on_off_same g.P.Signature.count g.P.Signature.value) c.args.pile.now c.in_ok-shelf.shelf c.args.memory.now g.C.Peer.passes g.met.C.Peer.passes_in_order c.args.peer.now bytes c.loop.begun c.loop.shelf c.loop.memory c.loop.peer c.flush_on.new.peer c.loop.invariant.1.2 c.flush_on.ensures.bytes in
    let after = goes_kept (questions_by on_off_same g.P.Signature.count g.P.Signature.value) c.args.pile.now c.in_ok-shelf.shelf c.args.memory.now g.C.Peer.passes g.met.C.Peer.passes_in_order c.args.peer.now bytes c.loop.begun c.loop.shelf c.loop.memory c.flush_on.new.peer c.read_on.new.peer goes (rw c.if-count-eq0.true at c.in_ok-count.ensures.bytes) in
    let said = says_kept (questions_by on_off_same g.P.Signature.count g.P.Signature.value) c.args.pile.now c.in_ok-shelf.shelf c.args.memory.now g.C.Peer.passes g.met.C.Peer.passes_in_order c.args.peer.now (last c.loop.begun) c.loop.shelf c.loop.memory c.read_on.new.peer c.say_last.new.shelf c.say_last.new.memory c.say_last.new.peer flush.new.peer c.in_ok-say_last.ensures.said flush.ensures.bytes in
    let ended = c.read_on.ensures.end (rw c.if-count-eq0.true at c.in_ok-count.was) (omega (arith, c.read_on.auto.chunk)) in
    map_ok flush.result _ _ (λ out. (
      (rw (c.in_ok-shelf.ensures.0, ← c.in_ok-shelf.ensures.1.0) c.in_ok-check_memory.ensures.0),
      (bytes, answers_all (questions_by on_off_same g.P.Signature.count g.P.Signature.value) c.args.pile.now c.in_ok-shelf.shelf c.args.memory.now c.args.slots c.in_ok-shelf.ensures.1 g.C.Peer.passes g.met.C.Peer.passes_in_order c.args.peer.now bytes c.loop.begun c.loop.shelf c.loop.memory c.read_on.new.peer flush.new.peer c.say_last.new.shelf c.say_last.new.memory after said),
      flush.ensures.end (c.say_last.ensures.end ended),
      out,
    )) flush.ensures.flushed

pub returns-then-count-eq0-clause-refused : goal.returns-then-count-eq0-clause-refused
returns-then-count-eq0-clause-refused g c =
    let bytes = c.loop.invariant.1.0 in
    let flush = c.flush_on-then-count-eq0 in
    let goes = goes_kept (questions_by on_off_same g.P.Signature.count g.P.Signature.value) c.args.pile.now c.in_ok-shelf.shelf c.args.memory.now g.C.Peer.passes g.met.C.Peer.passes_in_order c.args.peer.now bytes c.loop.begun c.loop.shelf c.loop.memory c.loop.peer c.flush_on.new.peer c.loop.invariant.1.2 c.flush_on.ensures.bytes in
    let after = goes_kept (questions_by on_off_same g.P.Signature.count g.P.Signature.value) c.args.pile.now c.in_ok-shelf.shelf c.args.memory.now g.C.Peer.passes g.met.C.Peer.passes_in_order c.args.peer.now bytes c.loop.begun c.loop.shelf c.loop.memory c.flush_on.new.peer c.read_on.new.peer goes (rw c.if-count-eq0.true at c.in_ok-count.ensures.bytes) in
    let said = says_kept (questions_by on_off_same g.P.Signature.count g.P.Signature.value) c.args.pile.now c.in_ok-shelf.shelf c.args.memory.now g.C.Peer.passes g.met.C.Peer.passes_in_order c.args.peer.now (last c.loop.begun) c.loop.shelf c.loop.memory c.read_on.new.peer c.say_last.new.shelf c.say_last.new.memory c.say_last.new.peer flush.new.peer c.in_ok-say_last.ensures.said flush.ensures.bytes in
    let part = says_whole (questions_by on_off_same g.P.Signature.count g.P.Signature.value) c.args.pile.now c.in_ok-shelf.shelf c.args.memory.now g.C.Peer.passes g.met.C.Peer.passes_in_order c.args.peer.now (last c.loop.begun) c.loop.shelf c.loop.memory c.read_on.new.peer c.say_last.new.shelf c.say_last.new.memory flush.new.peer said in
    let ended = c.read_on.ensures.end (rw c.if-count-eq0.true at c.in_ok-count.was) (omega (arith, c.read_on.auto.chunk)) in
    any_writing_breaks (questions_by on_off_same g.P.Signature.count g.P.Signature.value) c.args.pile.now g.C.Peer.passes g.C.Peer.is_at_end g.C.Peer.is_flushed g.C.Peer.read_fails g.C.Peer.write_fails c.args.slots c.args.memory.now c.args.peer.now c.say_last.new.memory flush.new.peer (rw (c.in_ok-shelf.ensures.0, ← c.in_ok-shelf.ensures.1.0) c.in_ok-check_memory.ensures.0)
    (breaks_at_end (questions_by on_off_same g.P.Signature.count g.P.Signature.value) c.args.pile.now c.in_ok-shelf.shelf c.args.memory.now c.args.slots c.in_ok-shelf.ensures.1 g.C.Peer.passes g.met.C.Peer.passes_in_order c.args.peer.now bytes c.loop.begun c.loop.shelf c.loop.memory c.read_on.new.peer flush.new.peer c.say_last.new.shelf c.say_last.new.memory (g.C.Peer.is_at_end flush.new.peer) (flush.ensures.end (c.say_last.ensures.end ended)) after part)
    flush.result flush.ensures.failed

pub returns-in_err-hear-clause-refused : goal.returns-in_err-hear-clause-refused
returns-in_err-hear-clause-refused g c =
    let bytes = c.loop.invariant.1.0 in
    let chunk = take c.in_ok-count.count c.read_on.new.chunk in
    let goes = goes_kept (questions_by on_off_same g.P.Signature.count g.P.Signature.value) c.args.pile.now c.in_ok-shelf.shelf c.args.memory.now g.C.Peer.passes g.met.C.Peer.passes_in_order c.args.peer.now bytes c.loop.begun c.loop.shelf c.loop.memory c.loop.peer c.flush_on.new.peer c.loop.invariant.1.2 c.flush_on.ensures.bytes in
    err_again c.from_residual-in_err-hear.result c.in_err-hear.field-0.0 _ c.from_residual-in_err-hear.ensures.1
    (writing_breaks (questions_by on_off_same g.P.Signature.count g.P.Signature.value) c.args.pile.now g.C.Peer.passes g.C.Peer.is_at_end g.C.Peer.is_flushed g.C.Peer.read_fails g.C.Peer.write_fails c.args.slots c.args.memory.now c.args.peer.now c.hear.new.memory c.hear.new.peer (rw (c.in_ok-shelf.ensures.0, ← c.in_ok-shelf.ensures.1.0) c.in_ok-check_memory.ensures.0)
    (breaks_later (questions_by on_off_same g.P.Signature.count g.P.Signature.value) c.args.pile.now c.in_ok-shelf.shelf c.args.memory.now c.args.slots c.in_ok-shelf.ensures.1 g.C.Peer.passes g.met.C.Peer.passes_in_order c.args.peer.now bytes c.loop.begun c.loop.shelf c.loop.memory chunk c.hear.new.shelf c.hear.new.memory c.flush_on.new.peer c.read_on.new.peer c.hear.new.peer (g.C.Peer.is_at_end c.hear.new.peer) goes c.in_ok-count.ensures.bytes c.in_err-hear.ensures.cut)
    c.in_err-hear.field-0.0 c.in_err-hear.ensures.failed)

pub loop-preserved : goal.loop-preserved
loop-preserved g c =
    let before = c.loop.invariant.1 in
    let bytes = before.0 in
    let count = c.in_ok-count.count in
    let chunk = take count c.read_on.new.chunk in
    let heard = c.in_ok-hear.ensures.heard in (
      omega (arith, c.hear.auto.memory, c.loop.invariant.0, heard.1.2.2.2),
      (
        bytes ++ chunk,
        omega (arith, before.1, c.if-count-eq0.false, c.in_ok-count.ensures.bound, length-take count c.read_on.new.chunk, length-append bytes chunk),
        let goes = goes_kept (questions_by on_off_same g.P.Signature.count g.P.Signature.value) c.args.pile.now c.in_ok-shelf.shelf c.args.memory.now g.C.Peer.passes g.met.C.Peer.passes_in_order c.args.peer.now bytes c.loop.begun c.loop.shelf c.loop.memory c.loop.peer c.flush_on.new.peer before.2 c.flush_on.ensures.bytes in
            goes_on (questions_by on_off_same g.P.Signature.count g.P.Signature.value) c.args.pile.now c.in_ok-shelf.shelf c.args.memory.now g.C.Peer.passes g.met.C.Peer.passes_in_order c.args.peer.now bytes c.loop.begun c.loop.shelf c.loop.memory chunk c.hear.new.begun c.hear.new.shelf c.hear.new.memory c.flush_on.new.peer c.read_on.new.peer c.hear.new.peer goes c.in_ok-count.ensures.bytes heard,
      ),
    )

pub returns-clause-refused : goal.returns-clause-refused
returns-clause-refused g c =
    let before = c.loop.invariant.1 in
    let bytes = before.0 in (
      rw (c.in_ok-shelf.ensures.0, ← c.in_ok-shelf.ensures.1.0) c.in_ok-check_memory.ensures.0,
      (
        bytes,
        answers_whole (questions_by on_off_same g.P.Signature.count g.P.Signature.value) c.args.pile.now c.in_ok-shelf.shelf c.args.memory.now c.args.slots c.in_ok-shelf.ensures.1 g.C.Peer.passes g.met.C.Peer.passes_in_order c.args.peer.now bytes c.loop.begun c.loop.shelf c.loop.memory c.loop.peer before.2,
        omega (arith, before.1, c.loop-test.false),
      ),
    )
