-- The trial of a proposal.
use Rattle.std.specs.Prelude.{◌≡◌, ◌≢◌, ◌⊎◌, Bool, true, false, List, Option, Some, None, Contains}
use Rattle.tables.specs.Wirings.{pin}
use Rattle.tables.specs.Agreement.{Agree}
use Rattle.tables.specs.declared.table.Table.{Table}
use Rattle.inventory.specs.declared.proposal.Proposal.{Proposal}
use Rattle.trial.specs.Trials.{Found}
use Rattle.trial.specs.declared.failed.Fault.{Fault}
use Rattle.rebuild.specs.declared.failure.Failure.{Failure}
use Rattle.rebuild.specs.declared.failure.Failure.TheVariants.{Memory}
use Rattle.rebuild.specs.declared.job.Job.{Job}
use Rattle.rebuild.specs.declared.job.Stocked.{Stocked}
use Rattle.rebuild.specs.declared.sheet.Printed.{Printed}
use Rattle.rebuild.specs.declared.trying.Bench.{Bench}
use Rattle.rebuild.specs.declared.trying.Fit.{Fit}
use Rattle.rebuild.specs.Sheets.{IsSheet}

abbrev pub OutOfMemory : Failure → Type 0
OutOfMemory failure = failure ≡ Memory

-- what the proposal says
abbrev pub Fitted : Proposal → Fit → Type 0
Fitted proposal fit = (fit.number ≡ proposal.number) × (fit.wiring ≡ proposal.wiring) × (fit.struck ≡ proposal.struck)

-- there is a sheet where the readings are right, or the sample is mended
abbrev pub Sheeted : Fit → Option Fault → Bool → Option Printed → Type 0
Sheeted fit fault mending (Some printed) = ((fault ≡ None) ⊎ (mending ≡ true)) × IsSheet fit.number fit.wiring printed
Sheeted fit fault mending None = (fault ≢ None) × (mending ≡ false)

module _ {R : Type 0} (same : R → R → Bool) where
  -- the stock has a part of this number, and each of this number agrees with the card under the wiring
  pub record Serves (card : Table R) (stock : List (Stocked R)) (proposal : Proposal) : Type 0 where
    pub sized : proposal.wiring.inputs ≡ card.inputs
    pub some : (part : Stocked R) × Contains stock part × (part.number ≡ proposal.number)
    pub each : (part : Stocked R) → Contains stock part → part.number ≡ proposal.number
        → (part.table.inputs ≡ card.inputs) × Agree same card.inputs (pin proposal.wiring.pins) card.rows.now part.table.rows.now

  pub record Benched (job : Job R) (proposal : Proposal) (bench : Bench) : Type 0 where
    pub fit : Fitted proposal bench.fit
    pub found : Found same proposal.wiring.inputs job.card.rows.now job.readings.now bench.fault
    pub sheet : Sheeted bench.fit bench.fault job.mending bench.sheet
