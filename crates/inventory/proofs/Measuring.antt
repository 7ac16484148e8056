-- The spread of a card and the part of a slot.
use Rattle.std.proofs.Common.{◌≡◌, ℕ, Bool, true, List, get_or, Some, None, Option}
use Rattle.tables.specs.Agreement.{Agree}
use Rattle.lists.specs.Counting.{AtMost}
use Rattle.lists.specs.Spread.{spread}
use Rattle.ledger.specs.Ledger.{Part}
use Rattle.ledger.specs.Questions.{lists, Spreads}
use Rattle.inventory.specs.Slots.{Held, has}
use Rattle.inventory.specs.declared.label.Label.{Label}
use Rattle.inventory.proofs.Places.{part_at, at_label, at_number}

module _ {R P : Type 0} (same : R → R → Bool) (list : P → ℕ → List R → ℕ → List ℕ) (slots : List (Option Label)) (memory : List R) (slot : ℕ) (label : Label)
    (used : get_or slots slot None ≡ Some label) (number : ℕ) (named : has number (get_or slots slot None) ≡ true) (inputs : ℕ) (card : List R) (pile : P) where
  abbrev part : Part R
  part = part_at memory slot label

  pub slot_spreads : (k : ℕ) → k ≡ spread (lists same list pile inputs card) (lists same list pile part.inputs part.rows) → AtMost (λ w. Agree same inputs w card part.rows) inputs k
      → Spreads same list (Held slots memory) inputs card pile number k
  slot_spreads k formula bound = record {
    part = part;
    stands = (slot, at_label slots memory slot label used);
    named = at_number slots memory slot part number (at_label slots memory slot label used) named;
    formula = formula;
    bound = bound;
  }
