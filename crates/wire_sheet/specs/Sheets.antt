-- What a sheet says, and what printing it does to the memory.
use Rattle.std.specs.Prelude.{◌≡◌, ℕ, Bool, List, ◌++◌, take, codes, Result, Ok, Err}
use Rattle.std.specs.Fmt.{decimal}
use Rattle.refusals.specs.declared.refusal.Refusal.{Refusal}
use Rattle.refusals.specs.declared.refusal.Refusal.TheVariants.{MemoryTooShort}
use Rattle.tables.specs.declared.wiring.Wiring.{Wiring}
use Rattle.inventory.specs.declared.proposal.Proposal.{Proposal}
use Rattle.texts.specs.Pins.{pins_text}
use Rattle.texts.specs.Copying.{Copied}
use Rattle.trial.specs.declared.tried.Tried.{Tried}
use Rattle.trial.specs.Trials.{Passes, Faults, refusal_of}
use Rattle.tokens.specs.Phrases.{inputs_text}
use Rattle.wire_sheet.specs.declared.printing.TooShort.{TooShort}
use Rattle.wire_sheet.specs.declared.bench.Stopped.{Stopped}
use Rattle.wire_sheet.specs.declared.bench.Stopped.TheVariants as stopped

-- the pins of a to-list up to its end, and what follows it
abbrev pub list_text : List ℕ → List ℕ → List ℕ
list_text pins tail = pins_text pins ++ (codes ")" ++ tail)

-- how a part's number, a number of inputs and a list of pins are written
abbrev pub wire_text : ℕ → ℕ → List ℕ → List ℕ
wire_text number inputs pins =
    codes "(wire " ++ (decimal number ++ inputs_text inputs (codes " (to" ++ list_text pins (codes ")\n")))

-- the text of a sheet
abbrev pub sheet_text : ℕ → Wiring → List ℕ
sheet_text number wiring = wire_text number wiring.inputs (take wiring.inputs wiring.pins)

-- the sheet stands in the front of the memory; memory that is too short hands the tried wiring back as it was
abbrev pub Printed : Tried → List ℕ → Result ℕ TooShort → List ℕ → Type 0
Printed tried memory (Ok size) memory' = Copied (sheet_text tried.number tried.wiring) memory (Ok size) memory'
Printed tried memory (Err short) memory' =
    (short.tried ≡ tried) × Copied (sheet_text tried.number tried.wiring) memory (Err MemoryTooShort) memory'

-- a proposal is printed as a sheet where its trial passes, and nothing is written otherwise
abbrev pub Benched : {R : Type 0} → (R → R → Bool) → Proposal → List R → List R → List ℕ → Result ℕ Stopped → List ℕ → Type 0
Benched same proposal rows readings memory (Ok size) memory' =
    Passes same proposal.wiring.inputs rows readings
    × Copied (sheet_text proposal.number proposal.wiring) memory (Ok size) memory'
Benched same proposal rows readings memory (Err (stopped.Failed failed)) memory' =
    (failed.proposal ≡ proposal) × Faults same proposal.wiring.inputs rows readings failed.fault × (memory' ≡ memory)
Benched same proposal rows readings memory (Err (stopped.TooShort short)) memory' =
    Passes same proposal.wiring.inputs rows readings
    × (short.tried.number ≡ proposal.number) × (short.tried.wiring ≡ proposal.wiring)
    × Copied (sheet_text proposal.number proposal.wiring) memory (Err MemoryTooShort) memory'

-- 11 or 12 after a trial that was refused, and 13 after one that passed
abbrev pub stop_refusal : Stopped → Refusal
stop_refusal (stopped.Failed failed) = refusal_of failed.fault
stop_refusal (stopped.TooShort short) = MemoryTooShort
