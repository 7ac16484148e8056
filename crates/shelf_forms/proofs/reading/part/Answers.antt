use Rattle.std.proofs.Common.{◌≡◌, ℕ, List, refl, arith}
use Rattle.rows.specs.declared.on_off.OnOff.{OnOff}
use Rattle.tokens.specs.Cursors.{rest}
use Rattle.tokens.specs.Phrases.{inputs_text}
use Rattle.tokens.proofs.Fronts.{number_same, inputs_same}
use Rattle.shelf_forms.specs.Forms.{enter, IsLawful, arguments, rows_text}
use Rattle.shelf_forms.proofs.reading.part.Goals as goal
use Rattle.shelf_forms.proofs.reading.part.Goals.{In_ok-number}

-- where the line writes a part, this is left after its number
after_number : (c : In_ok-number) (number inputs : ℕ) (rows : List OnOff) → IsLawful (enter number inputs rows) → rest c.args.cursor ≡ arguments (enter number inputs rows) → rest c.next_number.new.self ≡ inputs_text inputs (rows_text rows)
after_number c number inputs rows lawful e =
    let read = c.in_ok-number.ensures in
    (number_same _ number _ _ _ read.0 lawful.0 read.1 (λ digit. omega (arith, digit.0)) read.2 e).1

pub returns-in_err-inputs : goal.returns-in_err-inputs
returns-in_err-inputs c =
    rw c.from_residual-in_err-inputs.ensures
    (λ number inputs rows lawful e. c.in_err-inputs.ensures inputs _ lawful.1 (after_number (goal.at.returns-in_err-inputs c).In_ok-number number inputs rows lawful e))

pub returns-in_err-rows : goal.returns-in_err-rows
returns-in_err-rows c =
    rw c.from_residual-in_err-rows.ensures
    (λ number inputs rows lawful e.
    let read = c.in_ok-inputs.ensures in
    c.in_err-rows.ensures rows lawful.2 (inputs_same _ inputs _ _ _ read.0 lawful.1 read.1 (after_number (goal.at.returns-in_err-rows c).In_ok-number number inputs rows lawful e)).1)

pub returns : goal.returns
returns c =
    let number = c.in_ok-number.ensures in
    let read = c.in_ok-inputs.ensures in
    let rows = c.in_ok-rows.ensures in
    (enter c.in_ok-number.number c.in_ok-inputs.inputs rows.0, refl, (number.0, read.0, rows.1), cc (number.2, read.1, rows.3), (refl, refl, rows.2))
