use Rattle.std.proofs.Common.{refl}
use Rattle.std.specs.Prelude.{codes}
use Rattle.tokens.proofs.Fronts.{close_ends_number, number_same}
use Rattle.shelf_forms.specs.Forms.{remove}
use Rattle.shelf_forms.proofs.reading.dropped.Goals as goal

pub returns-in_err-end : goal.returns-in_err-end
returns-in_err-end c =
    rw c.from_residual-in_err-end.ensures
    (λ n small e.
    let number = c.in_ok-number.ensures in
    c.in_err-end.ensures (number_same _ n _ _ (codes ")\n") number.0 small number.1 (close_ends_number (codes "\n")) number.2 e).1)

pub returns : goal.returns
returns c =
    let number = c.in_ok-number.ensures in
    (remove c.in_ok-number.number, refl, number.0, cc (number.2, c.in_ok-end.ensures), refl)
