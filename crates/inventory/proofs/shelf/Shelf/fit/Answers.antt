use Rattle.std.proofs.Common.{◌≡◌, ℕ, Bool, List, Some, None, Option, refl, inr}
use Rattle.std.specs.Option.{ok_or}
use Rattle.refusals.specs.Due.{Due, none}
use Rattle.refusals.specs.declared.refusal.Refusal.{Refusal}
use Rattle.ledger.specs.Ledger.{Part}
use Rattle.ledger.specs.Questions.{list_by}
use Rattle.inventory.specs.Fitting.{Best, Fitted}
use Rattle.inventory.specs.Slots.{Held}
use Rattle.inventory.specs.declared.proposal.Proposal.{Proposal}
use Rattle.inventory.proofs.shelf.Shelf.fit.Goals as goal

fitted : {R P : Type 0} (same : R → R → Bool) (list : P → ℕ → List R → ℕ → List ℕ) (standing : Part R → Type 0) (inputs : ℕ) (card : List R) (pile : P)
    (due : Due) (best : Option Proposal) → due ≡ none → Best same list standing inputs card pile best
    → Fitted same list standing inputs card pile due (ok_or best Refusal.NoPartAgrees)
fitted same list standing inputs card pile due (Some p) nothing found = (nothing, found)
fitted same list standing inputs card pile due None nothing empty = inr (nothing, refl, empty)

pub returns : goal.returns
returns g c =
    let shelf = c.args.self.now in
    let memory = c.args.memory.now in
    let card = c.args.card.now in
    let table = c.in_ok-card.ensures in
    rw (c.ok_or.ensures.value, table.0, c.in_ok-check_memory.ensures.0)
    (fitted g.R.RowKind.same (list_by g.P.Signature.count g.P.Signature.value) (Held shelf.slots memory) c.args.inputs card c.args.pile.now none c.best_fit.result refl
    (rw (table.1.0, table.1.1) at c.best_fit.ensures))
