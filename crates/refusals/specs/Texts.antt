use Rattle.std.specs.Prelude.{ℕ, List, codes}
use Rattle.refusals.specs.declared.refusal.Refusal.{Refusal}
use Rattle.refusals.specs.declared.refusal.Refusal.TheVariants.{NotAForm, NotAPartNumber, TooManyInputs, WrongRowCount, DriveOutOfRange, WrongShelfSize, NumberStands, ShelfFull, NumberDoesNotStand, NoPartAgrees, WrongTrialCount, ReadingDiffers, MemoryTooShort, NotAWiring}

-- the reason of each refusal, as a person reads it
abbrev pub text : Refusal → List ℕ
text NotAForm = codes "the text is none of the forms"
text NotAPartNumber = codes "a part's number is from 1 to 9999"
text TooManyInputs = codes "a table has at most ten inputs"
text WrongRowCount = codes "a table of n inputs has 2^n rows"
text DriveOutOfRange = codes "a drive has a direction from 0 to 2 and a hold from 0 to 99"
text WrongShelfSize = codes "a shelf has 1 to 64 slots and 1,024 rows of memory a slot"
text NumberStands = codes "a part of this number stands"
text ShelfFull = codes "each slot has its part"
text NumberDoesNotStand = codes "no part of this number stands"
text NoPartAgrees = codes "no standing part agrees with the card"
text WrongTrialCount = codes "a trial takes 2^n rows and as many readings"
text ReadingDiffers = codes "a reading differs from the card's row"
text MemoryTooShort = codes "the memory for the answer is too short"
text NotAWiring = codes "a wiring names each pin below n once"
