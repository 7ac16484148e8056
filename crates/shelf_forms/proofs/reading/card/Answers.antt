use Rattle.std.proofs.Common.{refl}
use Rattle.tokens.proofs.Fronts.{inputs_same}
use Rattle.shelf_forms.specs.Forms.{fit}
use Rattle.shelf_forms.proofs.reading.card.Goals as goal

pub returns-in_err-rows : goal.returns-in_err-rows
returns-in_err-rows c =
    rw c.from_residual-in_err-rows.ensures
    (λ inputs rows lawful e.
    let read = c.in_ok-inputs.ensures in
    c.in_err-rows.ensures rows lawful.1 (inputs_same _ inputs _ _ _ read.0 lawful.0 read.1 e).1)

pub returns : goal.returns
returns c =
    let read = c.in_ok-inputs.ensures in
    let rows = c.in_ok-rows.ensures in
    (fit c.in_ok-inputs.inputs rows.0, refl, (read.0, rows.1), cc (read.1, rows.3), (refl, rows.2))
