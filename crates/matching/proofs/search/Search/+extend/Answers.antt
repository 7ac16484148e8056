use Rattle.std.proofs.Common.{◌≡◌, None, Some, arith, pow_mono}
use borrow.Author.Count.{below_more}
use Rattle.matching.specs.Begun.{Barred}
use Rattle.matching.proofs.Covering.{covered_barred}
use Rattle.matching.proofs.Choosing.{grown, same_on, barred_on, within_on, whole, none_on, first_on, none_left}
use Rattle.matching.proofs.search.Search.+extend.Goals as goal
use Rattle.matching.proofs.search.Search.+extend.Goals.{in_default-2-via-in-None-1, in_default-2-via-in-Some-place+in-None-1}

pub returns-in-Some-clause-answer : goal.returns-in-Some-clause-answer
returns-in-Some-clause-answer g t c =
    let done = c.in-Some.ensures in
    whole c.requires c.in-Some.wiring done.0 done.1 done.2

pub loop-pin-preserved-then-is_covered : goal.loop-pin-preserved-then-is_covered
loop-pin-preserved-then-is_covered g t c =
    let same = g.R.RowKind.same in
    let self = c.args.self.now in
    let begun = c.args.begun.now in
    let pin = c.loop-pin.pin in
    let was = c.loop-pin.invariant in
    let covered = rw (was.same.part, was.same.strikes) at (c.is_covered.ensures c.if-is_covered.true) in
    record {
      same = was.same;
      past = below_more (Barred same self begun) pin was.past
          (covered_barred same g.R.RowKind.weight g.met.R.RowKind.laws self begun c.requires pin (omega (arith, c.loop-pin-test.true, c.inputs-pin-end.ensures)) covered was.past);
    }

pub loop-pin-preserved : goal.loop-pin-preserved
loop-pin-preserved g t c =
    let same = g.R.RowKind.same in
    let self = c.args.self.now in
    let begun = c.args.begun.now in
    let pin = c.loop-pin.pin in
    let was = c.loop-pin.invariant in
    let placed = same_on was.same c.place.ensures.same (omega arith) in
    elim c.in_default-2.branch [
      | in_default-2-via-in-None-1 way ↦
          let none : c.place.result ≡ None = cc in
          rw way.self-is record {
            same = placed;
            past = below_more (Barred same self begun) pin was.past (barred_on was.same same begun pin (rw none at c.place.ensures.answer));
          }
      | in_default-2-via-in-Some-place+in-None-1 way ↦
          let none : way.extend.result ≡ None = cc in
          let longer = way.in-Some-place.longer in
          let more = grown begun pin longer way.in-Some-place.ensures.answer.0 in
          rw way.self-is record {
            same = same_on placed way.extend.ensures.same (pow_mono (omega (arith, more.len)));
            past = below_more (Barred same self begun) pin was.past
                (none_on more same self (within_on placed same longer None (rw none at way.extend.ensures.answer)));
          }
    ]

pub returns-in-loop-pin : goal.returns-in-loop-pin
returns-in-loop-pin g t c =
    let same = g.R.RowKind.same in
    let self = c.args.self.now in
    let begun = c.args.begun.now in
    let pin = c.loop-pin.pin in
    let was = c.loop-pin.invariant in
    let placed = same_on was.same c.place.ensures.same (omega arith) in
    let longer = c.in-Some-place.longer in
    let more = grown begun pin longer c.in-Some-place.ensures.answer.0 in
    record {
      answer = first_on more c.in-Some-extend.wiring (omega (arith, c.in_default.ensures, c.requires.card_inputs)) was.past
          (within_on placed same longer (Some c.in-Some-extend.wiring) c.in-Some-extend.ensures.answer);
      same = same_on placed c.extend.ensures.same (pow_mono (omega (arith, more.len)));
    }

pub returns-clause-answer : goal.returns-clause-answer
returns-clause-answer g t c =
    none_left g.R.RowKind.same c.args.self.now c.args.begun.now c.loop-pin.pin
    (omega (arith, c.in_default.ensures, c.requires.card_inputs)) (omega (arith, c.loop-pin-test.false, c.inputs-pin-end.ensures, c.requires.card_inputs)) c.loop-pin.invariant.past
