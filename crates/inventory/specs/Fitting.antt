-- What fit and spread answer.
use Rattle.std.specs.Prelude.{◌≡◌, ℕ, ◌<◌, ◌≤◌, Bool, ◌⊎◌, List, Some, None, Ok, Err, Option, Result}
use Rattle.refusals.specs.Due.{Due, none, refusal}
use Rattle.refusals.specs.Numbers.{number}
use Rattle.refusals.specs.declared.refusal.Refusal.{Refusal}
use Rattle.tables.specs.Wirings.{pin}
use Rattle.ledger.specs.Ledger.{Part}
use Rattle.ledger.specs.Questions.{NoPart, Proposes}
use Rattle.inventory.specs.declared.label.Label.{Label}
use Rattle.inventory.specs.declared.proposal.Proposal.{Proposal}

module _ {R P : Type 0} (same : R → R → Bool) (list : P → ℕ → List R → ℕ → List ℕ) (standing : Part R → Type 0) (inputs : ℕ) (card : List R) (pile : P) where
  -- the proposal that the standing parts make for the card, or none where no part serves
  abbrev pub Best : Option Proposal → Type 0
  Best (Some p) = (p.wiring.inputs ≡ inputs) × Proposes same list standing inputs card pile p.number (pin p.wiring.pins) p.struck
  Best None = NoPart same list standing inputs card

  -- what fit answers: the refusal that is due, the proposal, or 10 where no standing part serves
  abbrev pub Fitted : Due → Result Proposal Refusal → Type 0
  Fitted due (Ok p) = (due ≡ none) × Best (Some p)
  Fitted due (Err reason) = (due ≡ refusal (number reason)) ⊎ ((due ≡ none) × (number reason ≡ 10) × Best None)

-- whether a slot's part has as many inputs as the card, and a lower number than the best so far
abbrev pub Worth : Option Label → ℕ → Option Proposal → Option Label → Type 0
Worth slot inputs best (Some label) = (slot ≡ Some label) × (label.inputs ≡ inputs) × ((p : Proposal) → best ≡ Some p → label.number < p.number)
Worth slot inputs best None = (label : Label) → slot ≡ Some label → label.inputs ≡ inputs → (p : Proposal) × (best ≡ Some p) × (p.number ≤ label.number)
