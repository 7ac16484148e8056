-- What a trial finds.
use Rattle.std.specs.Prelude.{◌≡◌, ℕ, ◌^◌, ◌<◌, Bool, true, false, List, length, Option, Some, None, Result, Ok, Err, slice_index_or}
use Rattle.refusals.specs.declared.refusal.Refusal.{Refusal}
use Rattle.refusals.specs.declared.refusal.Refusal.TheVariants.{WrongTrialCount, ReadingDiffers}
use Rattle.inventory.specs.declared.proposal.Proposal.{Proposal}
use Rattle.trial.specs.declared.failed.Fault.{Fault}
use Rattle.trial.specs.declared.failed.Fault.TheVariants.{Count, Differs}
use Rattle.trial.specs.declared.failed.Failed.{Failed}
use Rattle.trial.specs.declared.tried.Tried.{Tried}

-- wrong counts are refused with 11, and a reading that differs with 12
abbrev pub refusal_of : Fault → Refusal
refusal_of Count = WrongTrialCount
refusal_of (Differs row) = ReadingDiffers

module _ {R : Type 0} (same : R → R → Bool) where
  -- there are 2^n rows, and as many readings
  abbrev pub IsCounted : ℕ → List R → List R → Type 0
  IsCounted n rows readings = (length rows ≡ 2 ^ n) × (length readings ≡ 2 ^ n)

  -- the readings of the first k rows are the same as the rows
  abbrev pub AreSame : ℕ → List R → List R → Type 0
  AreSame k rows readings = (r : ℕ) (d : R) → r < k → same (slice_index_or rows r d) (slice_index_or readings r d) ≡ true

  -- k is the first row whose reading is another
  abbrev pub FirstDiffers : ℕ → List R → List R → Type 0
  FirstDiffers k rows readings =
      (k < length rows) × AreSame k rows readings
      × ((d : R) → same (slice_index_or rows k d) (slice_index_or readings k d) ≡ false)

  abbrev pub Faults : ℕ → List R → List R → Fault → Type 0
  Faults n rows readings Count = ¬ (IsCounted n rows readings)
  Faults n rows readings (Differs row) = IsCounted n rows readings × FirstDiffers row rows readings

  -- the trial passes: each reading is the same as the card's row
  abbrev pub Passes : ℕ → List R → List R → Type 0
  Passes n rows readings = IsCounted n rows readings × AreSame (2 ^ n) rows readings

  -- what is wrong with readings, if anything
  abbrev pub Found : ℕ → List R → List R → Option Fault → Type 0
  Found n rows readings (Some fault) = Faults n rows readings fault
  Found n rows readings None = Passes n rows readings

  -- the proposal is tried, or handed back as it was
  abbrev pub Trial : Proposal → List R → List R → Result Tried Failed → Type 0
  Trial proposal rows readings (Ok tried) =
      Passes proposal.wiring.inputs rows readings
      × (tried.number ≡ proposal.number) × (tried.wiring ≡ proposal.wiring)
  Trial proposal rows readings (Err failed) =
      (failed.proposal ≡ proposal) × Faults proposal.wiring.inputs rows readings failed.fault
