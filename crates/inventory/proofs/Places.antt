-- The part in a slot.
use Rattle.std.proofs.Common.{◌≡◌, ℕ, ◌≤◌, true, List, get_or, Some, None, Option, sym, refl, ap, ◌∙◌}
use Rattle.std.proofs.lemmas.Bool.{eqb-true}
use Rattle.std.proofs.lemmas.Option.{none-some}
use Rattle.ledger.specs.Ledger.{Part}
use Rattle.inventory.specs.Slots.{has, front, At}
use Rattle.inventory.specs.declared.label.Label.{Label}
use Rattle.inventory.proofs.Labels.{has_own, same_label}

pub not_free : (slot : Option Label) (label : Label) → slot ≡ None → slot ≡ Some label → ⊥
not_free slot label free used = none-some label (sym free ∙ used)

module _ {R : Type 0} where
  -- the part that a label in slot k stands for
  abbrev pub part_at : List R → ℕ → Label → Part R
  part_at memory k label = record { number = label.number; inputs = label.inputs; rows = front memory k label.inputs }

  module _ (slots : List (Option Label)) (memory : List R) (k : ℕ) where
    pub at_label : (label : Label) → get_or slots k None ≡ Some label → At slots memory k (part_at memory k label)
    at_label label e = record { label = label; slot = e; number = refl; inputs = refl; rows = refl }

    pub at_is : (p : Part R) (a : At slots memory k p) → p ≡ part_at memory k a.label
    at_is p a = rw (← a.rows, ← a.inputs, ← a.number)

    -- a slot has one part
    pub one_at : (p q : Part R) → At slots memory k p → At slots memory k q → p ≡ q
    one_at p q a b = at_is p a ∙ ap (part_at memory k) (same_label a.label b.label (sym a.slot ∙ b.slot)) ∙ sym (at_is q b)

    pub at_has : (p : Part R) (n : ℕ) → At slots memory k p → p.number ≡ n → has n (get_or slots k None) ≡ true
    at_has p n a e = ap (λ m. has m (get_or slots k None)) (sym e ∙ a.number) ∙ has_own (get_or slots k None) a.label a.slot

    pub at_number : (p : Part R) (n : ℕ) → At slots memory k p → has n (get_or slots k None) ≡ true → p.number ≡ n
    at_number p n a on = a.number ∙ eqb-true a.label.number n (ap (has n) (sym a.slot) ∙ on)

    -- a part stays where its slot and the rows under it stay
    pub at_stays : (slots' : List (Option Label)) (memory' : List R) (p : Part R) → get_or slots' k None ≡ get_or slots k None
        → ((n : ℕ) → n ≤ 10 → front memory' k n ≡ front memory k n) → At slots memory k p → At slots' memory' k p
    at_stays slots' memory' p slot rows a = record {
      label = a.label;
      slot = slot ∙ a.slot;
      number = a.number;
      inputs = a.inputs;
      rows = a.rows ∙ sym (rows a.label.inputs a.label.few);
    }
