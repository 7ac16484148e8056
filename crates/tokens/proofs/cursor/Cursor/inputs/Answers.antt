use Rattle.std.proofs.Common.{◌++◌}
use Rattle.std.specs.Prelude.{codes}
use Rattle.std.specs.Fmt.{decimal}
use Rattle.tokens.proofs.Fronts.{space_ends_word, close_ends_number, front_same, number_same}
use Rattle.tokens.proofs.cursor.Cursor.inputs.Goals as goal

pub returns-in_err-open : goal.returns-in_err-open
returns-in_err-open c =
    rw c.from_residual-in_err-open.ensures
    (λ n tail small e.
    let left = decimal n ++ (codes ")" ++ tail) in
    c.in_err-open.ensures (codes " " ++ left) (space_ends_word left) (front_same (codes " ") _ _ _ c.in_ok-sign.ensures.1.front e))

pub returns-in_err-sign-2 : goal.returns-in_err-sign-2
returns-in_err-sign-2 c =
    rw c.from_residual-in_err-sign-2.ensures
    (λ n tail small e.
    let opened = front_same (codes " ") _ _ _ c.in_ok-sign.ensures.1.front e in
    let named = front_same (codes "(pins") _ _ _ c.in_ok-open.ensures opened in
    let inputs = c.in_ok-inputs.ensures in
    c.in_err-sign-2.ensures.1 tail (number_same _ n _ _ (codes ")" ++ tail) inputs.0 small inputs.1 (close_ends_number tail) inputs.2 named).1)
