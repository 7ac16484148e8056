-- How long the parts of a sheet are.
use Rattle.std.proofs.Common.{◌≡◌, ℕ, ◌<◌, ◌≤◌, length, take, arith, length-append}
use Rattle.std.specs.Fmt.{decimal}
use Rattle.std.proofs.lemmas.Fmt.{length-decimal-le}
use Rattle.tables.specs.declared.wiring.Wiring.{Wiring}
use Rattle.trial.specs.declared.tried.Tried.{Tried}
use Rattle.wire_sheet.specs.Sheets.{sheet_text}
use Rattle.texts.proofs.Lengths.{length-pins_text-take}

pub length-decimal-number : (t : Tried) → length (decimal t.number) ≤ 4
length-decimal-number t = length-decimal-le 4 t.number (omega arith) (omega (arith, t.numbered)) (omega (arith, t.numbered))

pub length-decimal-inputs : (w : Wiring) → length (decimal w.inputs) ≤ 2
length-decimal-inputs w = length-decimal-le 2 w.inputs (omega arith) (omega (arith, w.few)) (omega (arith, w.few))

pub ruleset lengths = (arith, length-decimal-number, length-decimal-inputs, length-pins_text-take)

pub length-sheet_text : (n : ℕ) (w : Wiring) → n ≤ 9999 → length (sheet_text n w) ≤ 47
length-sheet_text n w few =
    let number : length (decimal n) ≤ 4 = length-decimal-le 4 n (omega arith) (omega arith) (omega arith) in
    simp length-append (omega (arith, number, length-decimal-inputs w, length-pins_text-take w))
