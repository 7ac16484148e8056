use Rattle.tokens.specs.declared.token.Sign.TheVariants.{Close}
use Rattle.tokens.specs.Cursors.{rest}
use Rattle.tokens.proofs.Fronts.{no_sign}
use Rattle.wire_sheet.proofs.Lists.{gone_more, no_list}
use Rattle.wire_sheet.proofs.wire_line.pins.Goals as goal

pub returns-in_err-next_number : goal.returns-in_err-next_number
returns-in_err-next_number c =
    rw c.from_residual.ensures
    (λ pins tail short e.
    let close = no_sign Close _ _ _ c.sign.ensures c.loop-list-test.ensures in
    let left = c.loop-list.invariant.rest pins tail short e in
    no_list left.0 (rest c.loop-list.cursor) tail left.1 close.1 (rw close.0 at c.in_err-next_number.ensures) left.2)

pub loop-list-preserved : goal.loop-list-preserved
loop-list-preserved c =
    let close = no_sign Close _ _ _ c.sign.ensures c.loop-list-test.ensures in
    let number = c.in_ok-next_number.ensures in
    gone_more _ _ _ _ _ c.in_ok-next_number.field-0 c.loop-list.invariant number.0 number.1 (rw close.0 at number.2) c.push.ensures
