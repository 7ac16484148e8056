use Rattle.std.proofs.Common.{◌≡◌, ℕ, List, ◌+◌, ◌-◌, length, sym, ◌∙◌, ⊎_elim, arith}
use Rattle.std.proofs.lemmas.Bool.{cases_lt}
use Rattle.std.proofs.lemmas.List.{length-take-le, get_or-drop, get_or_append_left, get_or-append_right}
use Rattle.signatures.specs.Values.{refined_from}
use Rattle.signatures.proofs.Asking.{given_yes, given_no_place}
use Rattle.signatures.proofs.refined.BelowPerInput.put.Goals as goal

pub returns-clause-says : goal.returns-clause-says
returns-clause-says g c = λ p lp.
    let table = c.args.table.now in
    let below = c.args.self.now.answers.now in
    let room = c.args.room.now in
    let items = c.loop-place.answer-items in
    let n = c.min-places.result in
    let value = λ (n : ℕ) (_ : List g.row.R.Denot) (i p : ℕ). refined_from c.args.self.now.sums.now below n i p in
    let long : length items ≡ n = c.loop-place.auto.answer-items ∙ length-take-le n room (omega arith) in
    ⊎_elim
    (λ low. get_or_append_left items _ 0 p (omega (arith, low, long)) ∙ c.loop-place.invariant p (omega (arith, low, long, c.loop-place-test.false, c.loop-place.auto.answer-items)) ∙ sym (given_yes c.args.self.now.places value table.inputs table.rows.now c.args.input p c.requires.input_in (omega (arith, low, lp))))
    (λ high. get_or-append_right items _ n p 0 long high ∙ get_or-drop n room (p - n) 0 ∙ c.requires.free (n + (p - n)) ∙ sym (given_no_place c.args.self.now.places value table.inputs table.rows.now c.args.input p (omega (arith, high, lp))))
    (cases_lt p n)
