use Rattle.std.proofs.Common.{◌≡◌, ℕ, List, ◌++◌, ◌∙◌, sym, ap, refl, arith}
use Rattle.std.specs.Prelude.{codes}
use Rattle.std.specs.Fmt.{decimal}
use Rattle.tokens.specs.Cursors.{rest}
use Rattle.wire_sheet.specs.Lines.{Said, Spells}
use Rattle.tokens.specs.Phrases.{inputs_text}
use Rattle.wire_sheet.specs.Sheets.{list_text}
use Rattle.tokens.proofs.Fronts.{start, front_same, number_same, inputs_same, space_ends_word}
use Rattle.wire_sheet.proofs.Lists.{same_list, list_ends_word, wire_made}
use Rattle.wire_sheet.proofs.wire_line.WireLine.read.Goals as goal
use Rattle.wire_sheet.proofs.wire_line.WireLine.read.Goals.{In_ok-number, In_ok-inputs, In_ok-open-2}

-- what follows the number of the part
abbrev after_number : Said → List ℕ
after_number said = inputs_text said.inputs (codes " (to" ++ list_text said.pins (codes ")\n"))

pub returns-in_err-open : goal.returns-in_err-open
returns-in_err-open c =
    rw c.from_residual.ensures
    (λ said spells.
    let begin = start c.new-cursor.result c.args.line c.new-cursor.ensures.line c.new-cursor.ensures.start in
    let left = decimal said.number ++ after_number said in
    c.in_err-open.ensures (codes " " ++ left) (space_ends_word left) (begin ∙ spells.text))

from_number : (c : In_ok-number) (said : Said) → Spells c.args.line.now said → rest c.next_number.new.self ≡ after_number said
from_number c said spells =
    let begin = start c.new-cursor.result c.args.line c.new-cursor.ensures.line c.new-cursor.ensures.start in
    let named = front_same (codes "(wire") _ _ _ c.in_ok-open.ensures (begin ∙ spells.text) in
    let read = c.in_ok-number.ensures in
    (number_same _ said.number _ _ (after_number said) read.0 spells.number read.1 (λ digit. omega (arith, digit.0)) read.2 named).1

pub returns-in_err-inputs : goal.returns-in_err-inputs
returns-in_err-inputs c =
    rw c.from_residual-in_err-inputs.ensures
    (λ said spells. c.in_err-inputs.ensures said.inputs _ spells.inputs (from_number (goal.at.returns-in_err-inputs c).In_ok-number said spells))

from_inputs : (c : In_ok-inputs) (said : Said) → Spells c.args.line.now said → rest c.inputs.new.self ≡ codes " (to" ++ list_text said.pins (codes ")\n")
from_inputs c said spells =
    let read = c.in_ok-inputs.ensures in
    (inputs_same _ said.inputs _ _ _ read.0 spells.inputs read.1 (from_number (goal.at.In_ok-inputs c).In_ok-number said spells)).1

pub returns-in_err-sign : goal.returns-in_err-sign
returns-in_err-sign c =
    rw c.from_residual-in_err-sign.ensures
    (λ said spells. c.in_err-sign.ensures.1 _ (from_inputs (goal.at.returns-in_err-sign c).In_ok-inputs said spells))

pub returns-in_err-open-2 : goal.returns-in_err-open-2
returns-in_err-open-2 c =
    rw c.from_residual-in_err-open-2.ensures
    (λ said spells.
    let opened = front_same (codes " ") _ _ _ c.in_ok-sign.ensures.1.front (from_inputs (goal.at.returns-in_err-open-2 c).In_ok-inputs said spells) in
    c.in_err-open-2.ensures (list_text said.pins (codes ")\n")) (list_ends_word said.pins (codes ")\n")) opened)

from_word : (c : In_ok-open-2) (said : Said) → Spells c.args.line.now said → rest c.open-2.new.self ≡ list_text said.pins (codes ")\n")
from_word c said spells =
    let opened = front_same (codes " ") _ _ _ c.in_ok-sign.ensures.1.front (from_inputs (goal.at.In_ok-open-2 c).In_ok-inputs said spells) in
    front_same (codes "(to") _ _ _ c.in_ok-open-2.ensures opened

pub returns-in_err-list : goal.returns-in_err-list
returns-in_err-list c =
    rw c.from_residual-in_err-list.ensures
    (λ said spells. c.in_err-list.ensures said.pins _ spells.pins (from_word (goal.at.returns-in_err-list c).In_ok-open-2 said spells))

pub returns-in_err-end : goal.returns-in_err-end
returns-in_err-end c =
    rw c.from_residual-in_err-end.ensures
    (λ said spells.
    let list = c.in_ok-list.ensures in
    let same = same_list list.0 said.pins _ _ list.1 spells.pins (sym list.3 ∙ from_word (goal.at.returns-in_err-end c).In_ok-open-2 said spells) in
    c.in_err-end.ensures same.1)

pub returns : goal.returns
returns c =
    let begin = start c.new-cursor.result c.args.line c.new-cursor.ensures.line c.new-cursor.ensures.start in
    let number = c.in_ok-number.ensures in
    let inputs = c.in_ok-inputs.ensures in
    let list = c.in_ok-list.ensures in
    let said : Said = record { number = c.in_ok-number.number; inputs = c.in_ok-inputs.inputs; pins = list.0 } in
    let text = wire_made said.number said.inputs said.pins _ _ _ _ _ _ (sym begin ∙ c.in_ok-open.ensures) number.2 inputs.1 c.in_ok-sign.ensures.1.front c.in_ok-open-2.ensures (list.3 ∙ ap (list_text list.0) c.in_ok-end.ensures) in
    (said, record { number = number.0; inputs = inputs.0; pins = list.1; text = text }, (refl, refl, list.2))
