use Rattle.std.proofs.Common.{ℕ, Bool, List, Some}
use Rattle.lists.specs.Counting.{Mem}
use Rattle.ledger.specs.Questions.{list_by}
use Rattle.inventory.specs.Fitting.{Best}
use Rattle.inventory.specs.declared.proposal.Proposal.{Proposal}
use Rattle.rebuild.specs.Stocking.{stood}
use Rattle.rebuild.specs.Trying.{Benched}
use Rattle.rebuild.specs.Repairs.{Rebuilds}
use Rattle.rebuild.specs.declared.job.Job.{Job}
use Rattle.rebuild.specs.declared.trying.Bench.{Bench}
use Rattle.rebuild.proofs.Stock.{proposal_serves}
use Rattle.rebuild.proofs.repair.Repair.of.Goals as goal

-- what the bench made of the proposal
rebuilds : {R P : Type 0} (same : R → R → Bool) (list : P → ℕ → List R → ℕ → List ℕ) (pile : P) (job : Job R) (proposal : Proposal) (bench : Bench)
    → Best same list (λ part. Mem part (stood job.stock.now)) job.card.inputs job.card.rows.now pile (Some proposal) → Benched same job proposal bench
    → Rebuilds same list pile job bench
rebuilds same list pile job proposal bench (sized, proposes) benched = record {
  sized = rw benched.fit.1 sized;
  fit = rw (benched.fit.0, benched.fit.1, benched.fit.2) proposes;
  trial = rw sized at benched.found;
  sheet = benched.sheet;
}

pub try_fit-requires : goal.try_fit-requires
try_fit-requires g c =
    let job = c.args.job.now in
    let found = c.in_ok-proposal.ensures in
    let best = rw c.in-Some.is at found.proposed in
    proposal_serves g.R.RowKind.same (list_by g.P.Signature.count g.P.Signature.value) job.card c.args.pile.now job.stock.now c.in-Some.proposal found.stand best.0 best.1

pub returns-clause-repaired : goal.returns-clause-repaired
returns-clause-repaired g c =
    let job = c.args.job.now in
    let found = c.in_ok-proposal.ensures in
    let best = rw c.in-Some.is at found.proposed in
    record {
      stand = found.stand;
      comes = rebuilds g.R.RowKind.same (list_by g.P.Signature.count g.P.Signature.value) c.args.pile.now job c.in-Some.proposal c.in_ok-try_fit.field-0 best c.in_ok-try_fit.ensures.benched;
      classes = c.classes_of-classes.ensures;
    }
