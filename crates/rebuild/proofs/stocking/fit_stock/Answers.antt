use Rattle.std.proofs.Common.{rules, ◌≡◌, ℕ, ◌*◌, ◌^◌, ◌≤◌, Bool, List, length, Ok, Err, Result, Some, None, Option, refl, ⊎_elim, arith}
use Rattle.std.specs.Result.{result_ok}
use Rattle.refusals.specs.Due.{Due, none}
use Rattle.refusals.specs.declared.refusal.Refusal.{Refusal}
use Rattle.ledger.specs.Ledger.{Part}
use Rattle.ledger.specs.Refused.{fit_due}
use Rattle.ledger.proofs.Serving.{no_part_over, proposes_over}
use Rattle.inventory.specs.Fitting.{Best, Fitted}
use Rattle.inventory.specs.Slots.{Held, memory_due}
use Rattle.inventory.specs.declared.proposal.Proposal.{Proposal}
use Rattle.lists.specs.Counting.{Mem}
use Rattle.ledger.specs.Questions.{list_by}
use Rattle.tables.specs.Making.{table_due}
use Rattle.tables.specs.Wirings.{pin}
use Rattle.runs.proofs.Stock.{memory_fits}
use Rattle.rebuild.specs.Stocking.{stood}
use Rattle.rebuild.proofs.stocking.fit_stock.Goals as goal

module _ {R P : Type 0} (same : R → R → Bool) (list : P → ℕ → List R → ℕ → List ℕ) (inputs : ℕ) (card : List R) (pile : P) where
  -- where nothing is refused, fit answers the best proposal, or that there is none
  fitted : (standing : Part R → Type 0) (due : Due) (result : Result Proposal Refusal) → due ≡ none → Fitted same list standing inputs card pile due result
      → Best same list standing inputs card pile (result_ok result)
  fitted standing due (Ok p) nothing h = h.1
  fitted standing due (Err reason) nothing h = ⊎_elim (λ refuses. absurd (cc (nothing, refuses))) (λ x. x.2) h

  best_over : (A B : Part R → Type 0) → ((p : Part R) → A p → B p) → ((p : Part R) → B p → A p) → (best : Option Proposal)
      → Best same list A inputs card pile best → Best same list B inputs card pile best
  best_over A B to from (Some p) h = (h.0, proposes_over same list inputs card A B to from pile p.number (pin p.wiring.pins) p.struck h.1)
  best_over A B to from None h = no_part_over same list inputs card A B to from h

is_table : (inputs rows : ℕ) → inputs ≤ 10 → rows ≡ 2 ^ inputs → table_due inputs rows ≡ none
is_table inputs rows few whole = search rules

fits : (count memory inputs rows : ℕ) → memory ≡ count * 1024 → inputs ≤ 10 → rows ≡ 2 ^ inputs → fit_due (memory_due count memory) inputs rows ≡ none
fits count memory inputs rows long few whole = rw (is_table inputs rows few whole, memory_fits count memory long) refl

pub returns-clause-proposed : goal.returns-clause-proposed
returns-clause-proposed g c =
    let card = c.args.card.now in
    let shelf = c.in_ok-shelf.shelf in
    let memory = c.shelve.new.memory in
    let same = g.R.RowKind.same in
    let list = list_by g.P.Signature.count g.P.Signature.value in
    let shelved = c.in_ok-shelf.ensures in
    let long : length memory ≡ shelf.count * 1024 = omega (arith, shelved.memory, shelved.slots, c.requires) in
    let fine = fits shelf.count (length memory) card.inputs (length card.rows.now) long card.few card.whole in
    let best = fitted same list card.inputs card.rows.now c.args.pile.now (Held shelf.slots memory) _ c.fit.result fine c.fit.ensures in
    rw c.ok.ensures.value
    (best_over same list card.inputs card.rows.now c.args.pile.now (Held shelf.slots memory) (λ part. Mem part (stood c.args.stock.now))
    shelved.held.listed shelved.held.held (result_ok c.fit.result) best)
