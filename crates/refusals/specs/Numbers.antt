use Rattle.std.specs.Prelude.{ℕ}
use Rattle.refusals.specs.declared.refusal.Refusal.{Refusal}
use Rattle.refusals.specs.declared.refusal.Refusal.TheVariants.{NotAForm, NotAPartNumber, TooManyInputs, WrongRowCount, DriveOutOfRange, WrongShelfSize, NumberStands, ShelfFull, NumberDoesNotStand, NoPartAgrees, WrongTrialCount, ReadingDiffers, MemoryTooShort, NotAWiring}

-- the number of each refusal
abbrev pub number : Refusal → ℕ
number NotAForm = 1
number NotAPartNumber = 2
number TooManyInputs = 3
number WrongRowCount = 4
number DriveOutOfRange = 5
number WrongShelfSize = 6
number NumberStands = 7
number ShelfFull = 8
number NumberDoesNotStand = 9
number NoPartAgrees = 10
number WrongTrialCount = 11
number ReadingDiffers = 12
number MemoryTooShort = 13
number NotAWiring = 14
