-- The parts in the slots, one after the other: every shelf holds them.
use Rattle.std.proofs.Common.{◌≡◌, ℕ, zero, suc, ◌+◌, true, false, cond, List, [], ◌∷◌, length, get_or, eqb, is_some, Some, None, count_by, Option, sym, refl, ap, ◌∙◌, subst, inl, inr, ⊎_elim, arith}
use Rattle.std.proofs.lemmas.Bool.{cases_Bool, eq-eqb, eqb-true}
use Rattle.std.proofs.lemmas.List.Sums.{sum_by-cons}
use Rattle.std.proofs.lemmas.Option.{none-some}
use Rattle.lists.specs.Counting.{Mem}
use Rattle.ledger.specs.Ledger.{Part, stands}
use Rattle.ledger.specs.Fixed.{Once}
use Rattle.ledger.proofs.Standing.{any_some}
use Rattle.inventory.specs.Slots.{share, At, Held}
use Rattle.inventory.specs.declared.label.Label.{Label}
use Rattle.inventory.specs.declared.shelf.Shelf.{Shelf}
use Rattle.inventory.proofs.Labels.{same_label}
use Rattle.inventory.proofs.Places.{part_at, at_label, at_is}
use Rattle.runs.specs.Holding.{Holds}
use Rattle.runs.specs.Playing.{HoldsParts}

module _ {R : Type 0} (memory : List R) where
  -- the parts in these slots, of which the first is slot k
  abbrev parts_from : ℕ → List (Option Label) → List (Part R)
  parts_from k [] = []
  parts_from k (None ∷ slots) = parts_from (suc k) slots
  parts_from k (Some label ∷ slots) = part_at memory k label ∷ parts_from (suc k) slots

  one_on : (k j : ℕ) → suc k + j ≡ k + suc j
  one_on k j = omega arith

  listed_from : (k : ℕ) (slots : List (Option Label)) (j : ℕ) (label : Label) → get_or slots j None ≡ Some label → Mem (part_at memory (k + j) label) (parts_from k slots)
  listed_from k [] j label e = absurd (none-some label e)
  listed_from k (None ∷ slots) zero label e = absurd (none-some label e)
  listed_from k (None ∷ slots) (suc j) label e =
      subst (λ i. Mem (part_at memory i label) (parts_from (suc k) slots)) (one_on k j) (listed_from (suc k) slots j label e)
  listed_from k (Some first ∷ slots) zero label e =
      let here : k + 0 ≡ k = omega arith in
      inl (ap (λ i. part_at memory i label) here ∙ ap (part_at memory k) (sym (same_label first label e)))
  listed_from k (Some first ∷ slots) (suc j) label e =
      inr (subst (λ i. Mem (part_at memory i label) (parts_from (suc k) slots)) (one_on k j) (listed_from (suc k) slots j label e))

  -- the part in one of the slots
  abbrev In : ℕ → List (Option Label) → Part R → Type 0
  In k slots part = (j : ℕ) × (label : Label) × (get_or slots j None ≡ Some label) × (part ≡ part_at memory (k + j) label)

  in_later : (k : ℕ) (slot : Option Label) (slots : List (Option Label)) (part : Part R) → In (suc k) slots part → In k (slot ∷ slots) part
  in_later k slot slots part (j, label, e, is) = (suc j, label, e, is ∙ ap (λ i. part_at memory i label) (one_on k j))

  held_from : (k : ℕ) (slots : List (Option Label)) (part : Part R) → Mem part (parts_from k slots) → In k slots part
  held_from k [] part m = absurd m
  held_from k (None ∷ slots) part m = in_later k None slots part (held_from (suc k) slots part m)
  held_from k (Some label ∷ slots) part (inl e) = let here : k ≡ k + 0 = omega arith in (0, label, refl, e ∙ ap (λ i. part_at memory i label) here)
  held_from k (Some label ∷ slots) part (inr m) = in_later k (Some label) slots part (held_from (suc k) slots part m)

  count_from : (k : ℕ) (slots : List (Option Label)) → length (parts_from k slots) ≡ count_by is_some slots
  count_from k [] = refl
  count_from k (None ∷ slots) = omega (arith, count_from (suc k) slots, sum_by-cons (λ (slot : Option Label). cond (is_some slot) 1 0) None slots)
  count_from k (Some label ∷ slots) = omega (arith, count_from (suc k) slots, sum_by-cons (λ (slot : Option Label). cond (is_some slot) 1 0) (Some label) slots)

  -- no two slots have parts of one number
  abbrev Unshared : List (Option Label) → Type 0
  Unshared slots = (i j : ℕ) → share (get_or slots i None) (get_or slots j None) ≡ true → i ≡ j

  unshared_later : (slot : Option Label) (slots : List (Option Label)) → Unshared (slot ∷ slots) → Unshared slots
  unshared_later slot slots one i j on = let e : suc i ≡ suc j = one (suc i) (suc j) on in omega arith

  new_from : (k : ℕ) (label : Label) (slots : List (Option Label)) → Unshared (Some label ∷ slots) → stands label.number (parts_from (suc k) slots) ≡ false
  new_from k label slots one =
      ⊎_elim
      (λ on.
      let found = any_some (λ (part : Part R). eqb part.number label.number) (parts_from (suc k) slots) on in
      let place = held_from (suc k) slots found.0 found.1 in
      let same : place.1.number ≡ label.number = ap (λ (part : Part R). part.number) (sym place.3) ∙ eqb-true found.0.number label.number found.2 in
      let shared : share (Some label) (get_or slots place.0 None) ≡ true = ap (share (Some label)) place.2 ∙ eq-eqb place.1.number label.number same in
      let e : 0 ≡ suc place.0 = one 0 (suc place.0) shared in
      absurd (omega arith))
      (λ off. off)
      (cases_Bool (stands label.number (parts_from (suc k) slots)))

  once_from : (k : ℕ) (slots : List (Option Label)) → Unshared slots → Once (parts_from k slots)
  once_from k [] one = tt
  once_from k (None ∷ slots) one = once_from (suc k) slots (unshared_later None slots one)
  once_from k (Some label ∷ slots) one = (new_from k label slots one, once_from (suc k) slots (unshared_later (Some label) slots one))

module _ {R : Type 0} (shelf : Shelf) (memory : List R) where
  abbrev parts : List (Part R)
  parts = parts_from memory 0 shelf.slots

  from_none : (j : ℕ) → 0 + j ≡ j
  from_none j = omega arith

  in_slot : (part : Part R) → Mem part parts → Held shelf.slots memory part
  in_slot part m =
      let place = held_from memory 0 shelf.slots part m in
      (place.0, subst (At shelf.slots memory place.0) (sym (place.3 ∙ ap (λ i. part_at memory i place.1) (from_none place.0))) (at_label shelf.slots memory place.0 place.1 place.2))

  in_parts : (part : Part R) → Held shelf.slots memory part → Mem part parts
  in_parts part held = subst (λ p. Mem p parts) (sym (at_is shelf.slots memory held.0 part held.1))
      (subst (λ i. Mem (part_at memory i held.1.label) parts) (from_none held.0) (listed_from memory 0 shelf.slots held.0 held.1.label held.1.slot))

  holds_them : Holds shelf.slots memory parts
  holds_them = record { held = in_slot; listed = in_parts; once = once_from memory 0 shelf.slots shelf.once; count = count_from memory 0 shelf.slots }

pub holds_parts : {R : Type 0} → HoldsParts R
holds_parts shelf memory = (
  parts shelf memory,
  holds_them shelf memory,
  λ others h part. ((λ m. in_parts shelf memory part (h.held part m)), λ m. h.listed part (in_slot shelf memory part m)),
)
