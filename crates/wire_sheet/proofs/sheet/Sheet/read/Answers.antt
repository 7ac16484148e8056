use Rattle.std.proofs.Common.{rules, ◌≡◌, Result, Ok, Err, refl, subst, arith}
use Rattle.refusals.specs.declared.refusal.Refusal.{Refusal}
use Rattle.refusals.specs.declared.refusal.Refusal.TheVariants.{NotAForm}
use Rattle.wire_sheet.specs.declared.sheet.Sheet.{Sheet}
use Rattle.wire_sheet.specs.Lines.{Reads}
use Rattle.wire_sheet.proofs.Reading.{exact, wiring_refused, sheet_read}
use Rattle.wire_sheet.proofs.sheet.Sheet.read.Goals as goal
use Rattle.wire_sheet.proofs.sheet.Sheet.read.Goals.{In_ok-wiring}

pub returns-then-line-gt-LONGEST_LINE : goal.returns-then-line-gt-LONGEST_LINE
returns-then-line-gt-LONGEST_LINE c =
    let answer : Reads c.args.line.now (Err NotAForm) = search rules in
    record { answer = answer; exact = exact _ _ answer }

pub returns-in_err-line : goal.returns-in_err-line
returns-in_err-line c =
    let answer : Reads c.args.line.now c.from_residual.result = search rules in
    record { answer = answer; exact = exact _ _ answer }

pub returns-in_err-check_number : goal.returns-in_err-check_number
returns-in_err-check_number c =
    let answer : Reads c.args.line.now c.from_residual-in_err-check_number.result = search rules in
    record { answer = answer; exact = exact _ _ answer }

pub returns-in_err-wiring : goal.returns-in_err-wiring
returns-in_err-wiring c =
    let held = c.in_ok-line.line in
    let says = rw c.in_ok-line.ensures.ok_part at c.read.ensures in
    let answer : Reads c.args.line.now (Err c.in_err-wiring.field-0.0) = wiring_refused _ held (omega arith) says _ _ c.in_ok-check_number.ensures.0 c.pins.ensures c.in_err-wiring.ensures in
    let is : ◌≡◌ {A = Result Sheet Refusal} (Err c.in_err-wiring.field-0.0) c.from_residual-in_err-wiring.result = search rules in
    let whole : Reads c.args.line.now c.from_residual-in_err-wiring.result = subst (Reads c.args.line.now) is answer in
    record { answer = whole; exact = exact _ _ whole }

-- a sheet of the number and the wiring that were read
reads : (c : In_ok-wiring) (sheet : Sheet) → sheet.number ≡ c.in_ok-line.line.number → sheet.wiring ≡ c.in_ok-wiring.wiring → Reads c.args.line.now (Ok sheet)
reads c sheet number wiring =
    let says = rw c.in_ok-line.ensures.ok_part at c.read.ensures in
    sheet_read _ c.in_ok-line.line (omega arith) says _ sheet c.in_ok-check_number.ensures.0 number c.pins.ensures (rw wiring c.in_ok-wiring.ensures)

pub returns : goal.returns
returns c =
    let read = (goal.at.returns c).In_ok-wiring in
    record { answer = reads read _ refl refl; exact = exact _ _ (reads read _ refl refl) }
