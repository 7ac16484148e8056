use Rattle.std.proofs.Common.{◌≡◌, ◌+◌, ◌-◌, ◌*◌, cond, get_or, ap, ◌∙◌, ⊎_elim, arith}
use lib.Count.{ones}
use Rattle.std.proofs.lemmas.Bool.{cases_eq, cases_Bool}
use Rattle.std.proofs.lemmas.Grind.{get_or-set_at}
use Rattle.std.proofs.lemmas.List.{get_or-set_other}
use Rattle.signatures.proofs.Ones.{ones_some}
use Rattle.signatures.proofs.Turns.{on_from, off_from, times_bool}
use Rattle.signatures.proofs.Adding.{adds_here, adds_other, adds_off}
use Rattle.signatures.proofs.breakup.add_to.Goals as goal

pub overflow_add-list : goal.overflow_add-list
overflow_add-list c =
    let i = c.args.input in
    let r = c.args.row in
    let w = c.args.weight in
    let b = c.is_on.result in
    let place = c.args.from + ones r - 1 in
    let gain : w * c.from.result ≡ cond b w 0 = ap (λ y. w * y) c.from.ensures ∙ times_bool w b in
    ⊎_elim
    (λ t.
    let some = ones_some 10 i r c.requires.row_in c.requires.input_in (on_from i r b c.is_on.ensures t) in
    omega (arith, gain, ap (λ z. cond z w 0) t, c.requires.fits place (omega arith)))
    (λ f. omega (arith, gain, ap (λ z. cond z w 0) f, c.fits-list place))
    (cases_Bool b)

pub returns-then-end-le64-clause-added : goal.returns-then-end-le64-clause-added
returns-then-end-le64-clause-added c = λ p lp.
    let list = c.args.list.now in
    let from = c.args.from in
    let w = c.args.weight in
    let i = c.args.input in
    let r = c.args.row in
    let b = c.is_on.result in
    let place = from + ones r - 1 in
    let v = get_or list place 0 + w * c.from.result in
    let gain : w * c.from.result ≡ cond b w 0 = ap (λ y. w * y) c.from.ensures ∙ times_bool w b in
    ⊎_elim
    (λ t.
    let on = on_from i r b c.is_on.ensures t in
    let some = ones_some 10 i r c.requires.row_in c.requires.input_in on in
    ⊎_elim
    (λ e. get_or-set_at list place p v 0 e (omega (arith, e, c.told-list)) ∙ omega (arith, ap (λ j. get_or list j 0) e, gain, ap (λ z. cond z w 0) t, adds_here from w i r p on some e))
    (λ ne. get_or-set_other list place p v 0 ne ∙ omega (arith, adds_other from w i r p some ne))
    (cases_eq p place))
    (λ f.
    let none = adds_off from w i r p (off_from i r b c.is_on.ensures f) in
    ⊎_elim
    (λ e. get_or-set_at list place p v 0 e (omega (arith, e, c.told-list)) ∙ omega (arith, ap (λ j. get_or list j 0) e, gain, ap (λ z. cond z w 0) f, none))
    (λ ne. get_or-set_other list place p v 0 ne ∙ omega (arith, none))
    (cases_eq p place))
    (cases_Bool b)
