use Rattle.std.proofs.Common.{rules, ℕ, ◌<◌, true, false, Decides, refl, sym, subst}
use Rattle.std.proofs.lemmas.Bool.{false≢true}
use Rattle.std.proofs.lemmas.Iterator.{first_from_Range}
use borrow.Author.Tests.{tests}
use Rattle.symmetry.specs.Symmetry.{Symmetric, Class}
use Rattle.symmetry.proofs.Symmetries.{class_found}
use Rattle.symmetry.proofs.classes.class_of.Goals as goal

pub returns : goal.returns
returns g c =
    let t = c.args.table.now in
    let i = c.args.input in
    let same = g.R.RowKind.same in
    let S : ℕ → Type 0 = Symmetric same t.inputs t.rows.now i in
    let P : ℕ → Type 0 = Class same t.inputs t.rows.now i in
    subst P (sym c.unwrap_or.ensures)
    (class_found same g.R.RowKind.weight g.met.R.RowKind.laws t.inputs t.rows.now i c.requires c.find.result
    (first_from_Range _ _ _ c.find.result (λ k. k < t.inputs → S k) (λ k. k < t.inputs → S k → ⊥) c.find.ensures.ran
    (λ k q said lk. let d : Decides true (S k) = search (rules, tests) in d.0 refl)
    (λ k q said. (search (rules, tests), λ lk s. let d : Decides false (S k) = search (rules, tests) in false≢true (d.1 s)))))
