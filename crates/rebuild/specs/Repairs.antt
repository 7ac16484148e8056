-- A repair from beginning to end.
use Rattle.std.specs.Prelude.{◌≡◌, ℕ, Bool, List, length, Option, Some, None}
use Rattle.tables.specs.Wirings.{pin}
use Rattle.lists.specs.Counting.{Mem}
use Rattle.ledger.specs.Ledger.{Part}
use Rattle.ledger.specs.Questions.{NoPart, Proposes}
use Rattle.trial.specs.Trials.{Found}
use Rattle.symmetry.specs.Symmetry.{Classes}
use Rattle.rebuild.specs.Stocking.{stood, AllStand}
use Rattle.rebuild.specs.Trying.{Sheeted}
use Rattle.rebuild.specs.declared.job.Job.{Job}
use Rattle.rebuild.specs.declared.trying.Bench.{Bench}
use Rattle.rebuild.specs.declared.repair.Repair.{Repair}

module _ {R P : Type 0} (same : R → R → Bool) (list : P → ℕ → List R → ℕ → List ℕ) (pile : P) (job : Job R) where
  -- a part of the stock stands
  abbrev pub standing : Part R → Type 0
  standing part = Mem part (stood job.stock.now)

  -- the lowest part that agrees with the card and its first wiring; what is wrong with the readings under it, if anything;
  -- and the sheet of that part and wiring, read back as the same, if a trial passes
  pub record Rebuilds (bench : Bench) : Type 0 where
    pub sized : bench.fit.wiring.inputs ≡ job.card.inputs
    pub fit : Proposes same list standing job.card.inputs job.card.rows.now pile bench.fit.number (pin bench.fit.wiring.pins) bench.fit.struck
    pub trial : Found same job.card.inputs job.card.rows.now job.readings.now bench.fault
    pub sheet : Sheeted bench.fit bench.fault job.mending bench.sheet

  -- none where no part of the stock agrees with the card
  abbrev pub Comes : Option Bench → Type 0
  Comes (Some bench) = Rebuilds bench
  Comes None = NoPart same list standing job.card.inputs job.card.rows.now

  pub record Repairs (repair : Repair) : Type 0 where
    pub stand : AllStand (length job.stock.now) job.stock.now
    pub comes : Comes repair.bench
    pub classes : Classes same job.card.inputs job.card.rows.now repair.classes
