use Rattle.std.proofs.Common.{ℕ, ◌<◌, List, [], length, get_or, drop, subst, ap, sym, ◌∙◌, ⊎_elim, arith}
use Rattle.std.proofs.lemmas.Bool.{cases_eq}
use Rattle.std.proofs.lemmas.Grind.{get_or-set_at}
use Rattle.std.proofs.lemmas.List.{get_or-set_other, get_or_append_left, get_or-take, length-take-le}
use Rattle.signatures.specs.Writing.{Appended}
use Rattle.signatures.proofs.per_input.write_each.Goals as goal

pub loop-input-init : goal.loop-input-init
loop-input-init g c = record {
  written = λ i li. absurd (omega (arith, li));
  left = λ i _ li. get_or-take c.args.table.now.inputs c.args.answers.now i [] li;
}

pub append-requires-clause-free : goal.append-requires-clause-free
append-requires-clause-free g c = λ p le.
    let long = length-take-le {A = List ℕ} c.args.table.now.inputs c.args.answers.now (omega arith) in
    let here : c.loop-input.input < c.args.table.now.inputs = omega (arith, long, c.loop-input-test.true) in
    ap (λ list. get_or list p 0) (c.loop-input.invariant.left c.loop-input.input (omega arith) here) ∙ (c.requires.free c.loop-input.input here).blank p le

pub loop-input-preserved : goal.loop-input-preserved
loop-input-preserved g c =
    let says = g.S.PerInput.says c.args.signature.now c.args.table.now.inputs c.args.table.now.rows.now in
    let old = c.args.answers.now in
    let items = c.loop-input.list-items in
    let k = c.loop-input.input in
    let new = c.append.new.list in
    let long = length-take-le {A = List ℕ} c.args.table.now.inputs old (omega arith) in
    let within : k < length items = omega (arith, c.loop-input.auto.list-items, c.loop-input-test.true) in
    let same = c.loop-input.invariant.left k (omega arith) (omega (arith, long, c.loop-input-test.true)) in
    let here : Appended c.args.from (says k) (get_or old k []) new = subst (λ list. Appended c.args.from (says k) list new) same c.append.ensures in
    record {
      written = λ i li. ⊎_elim
          (λ e. subst (λ list. Appended c.args.from (says i) (get_or old i []) list) (sym (get_or-set_at items k i new [] e within))
          (subst (λ j. Appended c.args.from (says j) (get_or old j []) new) (sym e) here))
          (λ ne. subst (λ list. Appended c.args.from (says i) (get_or old i []) list) (sym (get_or-set_other items k i new [] ne))
          (c.loop-input.invariant.written i (omega (arith, li, ne))))
          (cases_eq i k);
      left = λ i le li. get_or-set_other items k i new [] (λ e. absurd (omega (arith, le, e))) ∙ c.loop-input.invariant.left i (omega (arith, le)) li;
    }

pub returns-clause-written : goal.returns-clause-written
returns-clause-written g c = λ i li.
    let items = c.loop-input.list-items in
    let long = length-take-le {A = List ℕ} c.args.table.now.inputs c.args.answers.now (omega arith) in
    subst (λ list. Appended c.args.from (g.S.PerInput.says c.args.signature.now c.args.table.now.inputs c.args.table.now.rows.now i) (get_or c.args.answers.now i []) list)
    (sym (get_or_append_left items (drop c.args.table.now.inputs c.args.answers.now) [] i (omega (arith, long, c.loop-input.auto.list-items))))
    (c.loop-input.invariant.written i (omega (arith, long, c.loop-input-test.false)))
