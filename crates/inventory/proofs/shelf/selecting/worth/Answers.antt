use Rattle.std.proofs.Common.{sym, ap, ◌∙◌, arith}
use Rattle.inventory.proofs.Labels.{same_label}
use Rattle.inventory.proofs.shelf.selecting.worth.Goals as goal

pub returns-in-Some : goal.returns-in-Some
returns-in-Some c = λ label is sized.
    let same = ap (λ x. x.number) (same_label c.in_ok-label.label label (sym c.in_ok-label.was ∙ is)) in
    (c.in-Some.proposal, c.in-Some.is, omega arith)
