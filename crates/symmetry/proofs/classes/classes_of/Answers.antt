use Rattle.std.proofs.Common.{ℕ, get_or, set, sym, subst, arith}
use Rattle.std.proofs.lemmas.List.{get_or-set_same, get_or-set_other}
use borrow.Author.Count.{below_more}
use Rattle.symmetry.specs.Symmetry.{Class}
use Rattle.symmetry.proofs.classes.classes_of.Goals as goal

pub loop-input-preserved : goal.loop-input-preserved
loop-input-preserved g c =
    let items = c.loop-input.class-items in
    let input = c.loop-input.input in
    let class = c.class_of.result in
    let C : ℕ → ℕ → Type 0 = Class g.R.RowKind.same c.args.table.now.inputs c.args.table.now.rows.now in
    below_more (λ i. C i (get_or (set items input class) i 0)) input
    (λ i li. subst (C i) (sym (get_or-set_other items input i class 0 (λ e. omega arith))) (c.loop-input.invariant i li))
    (subst (C input) (sym (get_or-set_same items input class 0 (omega (arith, c.loop-input-test.true, c.loop-input.auto.class-items)))) c.class_of.ensures)
