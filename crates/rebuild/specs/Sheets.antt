use Rattle.std.specs.Prelude.{◌≡◌, ℕ, take}
use Rattle.tables.specs.declared.wiring.Wiring.{Wiring}
use Rattle.wire_sheet.specs.Sheets.{sheet_text}
use Rattle.rebuild.specs.declared.sheet.Printed.{Printed}

-- the sheet of this part and wiring was printed, and read back as the same
pub record IsSheet (number : ℕ) (wiring : Wiring) (printed : Printed) : Type 0 where
  pub text : take printed.len printed.text ≡ sheet_text number wiring
  pub number_read : printed.read.number ≡ number
  pub wiring_read : printed.read.wiring ≡ wiring
