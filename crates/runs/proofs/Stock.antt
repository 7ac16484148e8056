-- What a shelf that holds some parts says of them.
use Rattle.std.proofs.Common.{◌≡◌, ℕ, ◌*◌, Bool, true, false, not, eqb, leb, List, [], length, get_or, replicate, is_some, Some, None, count_by, Option, sym, refl, ap, ◌∙◌}
use Rattle.std.proofs.lemmas.Bool.{eq-eqb, false≢true, not_from_true}
use Rattle.refusals.specs.Due.{none}
use Rattle.ledger.specs.Refused.{enter_due, drop_due}
use Rattle.ledger.specs.Ledger.{Part, some, stands}
use Rattle.ledger.specs.Questions.{Questions}
use Rattle.ledger.proofs.Standing.{any_mem, any_some}
use Rattle.ledger.proofs.Questions.{Lawful}
use Rattle.inventory.specs.Slots.{passes, some_slot, labelled, full, memory_due}
use Rattle.inventory.specs.declared.label.Label.{Label}
use Rattle.refusals.proofs.Dues.{not_due}
use Rattle.inventory.proofs.Labels.{all_free}
use Rattle.inventory.proofs.Scans.{any_here, any_place}
use Rattle.runs.specs.Holding.{Holds}
use Rattle.inventory.proofs.Places.{not_free, part_at, at_label}

-- a shelf of free slots holds no part, whatever the memory holds
pub empty_holds : {R : Type 0} (slots : List (Option Label)) (memory : List R) → slots ≡ replicate 64 None → Holds slots memory []
empty_holds slots memory e = record {
  held = λ p m. absurd m;
  listed = λ p held. let k = held.0 in absurd (not_free (get_or slots k None) held.1.label (ap (λ s. get_or s k None) e ∙ all_free 64 k) held.1.slot);
  once = tt;
  count = ap (count_by is_some) (sym e);
}

same_truth : (a b : Bool) → (a ≡ true → b ≡ true) → (b ≡ true → a ≡ true) → a ≡ b
same_truth true b to from = sym (to refl)
same_truth false true to from = from refl
same_truth false false to from = refl

pub memory_fits : (count rows : ℕ) → rows ≡ count * 1024 → memory_due count rows ≡ none
memory_fits count rows e = not_due (not (eqb rows (count * 1024))) 6 none (not_from_true _ (eq-eqb rows (count * 1024) e))

-- the part of a slot that passes a test
passing : (test : ℕ → ℕ → Bool) (slot : Option Label) → passes test slot ≡ true → (label : Label) × (slot ≡ Some label) × (test label.number label.inputs ≡ true)
passing test None on = absurd (false≢true on)
passing test (Some label) on = (label, refl, on)

module _ {R : Type 0} {slots : List (Option Label)} {memory : List R} {parts : List (Part R)} (h : Holds slots memory parts) where
  -- a part that stands passes a test where the part of a slot does
  module _ (test : ℕ → ℕ → Bool) where
    abbrev of_part : Part R → Bool
    of_part part = test part.number part.inputs

    slot_stands : some_slot slots test ≡ true → some parts test ≡ true
    slot_stands on =
        let place = any_place (passes test) slots None on in
        let k = place.0 in
        let found = passing test (get_or slots k None) place.2 in
        let part = part_at memory k found.0 in
        any_mem of_part part parts (h.listed part (k, at_label slots memory k found.0 found.1)) found.2

    stands_slot : some parts test ≡ true → some_slot slots test ≡ true
    stands_slot on =
        let found = any_some of_part parts on in
        let place = h.held found.0 found.1 in
        let at = place.1 in
        let passed : test at.label.number at.label.inputs ≡ true = rw (← at.number, ← at.inputs) found.2 in
        any_here (passes test) slots place.0 None refl (ap (passes test) at.slot ∙ passed)

    pub some_same : some parts test ≡ some_slot slots test
    some_same = same_truth (some parts test) (some_slot slots test) stands_slot slot_stands

  pub stands_labelled : (n : ℕ) → stands n parts ≡ labelled n slots
  stands_labelled n = some_same (λ m inputs. eqb m n)

  pub labelled_stands : (n : ℕ) → labelled n slots ≡ true → stands n parts ≡ true
  labelled_stands n on = stands_labelled n ∙ on

  pub parts_full : (count : ℕ) → leb count (length parts) ≡ full count slots
  parts_full count = ap (leb count) h.count

  -- what the ledger refuses a call with, the shelf does too
  module _ (count : ℕ) (long : length memory ≡ count * 1024) where
    abbrev fits : memory_due count (length memory) ≡ none
    fits = memory_fits count (length memory) long

    pub enter_same : (n inputs rows : ℕ)
        → enter_due none (stands n parts) (leb count (length parts)) n inputs rows
        ≡ enter_due (memory_due count (length memory)) (labelled n slots) (full count slots) n inputs rows
    enter_same n inputs rows = rw (fits, ← stands_labelled n, ← parts_full count)

    pub drop_same : (n : ℕ) → drop_due none (stands n parts) n ≡ drop_due (memory_due count (length memory)) (labelled n slots) n
    drop_same n = rw (fits, ← stands_labelled n)

    pub question_same : {Q : Type 0} (questions : Questions R Q) → Lawful questions → (question : Q)
        → questions.due none (some parts) question ≡ questions.due (memory_due count (length memory)) (some_slot slots) question
    question_same questions lawful question = rw fits (lawful.steady none (some parts) (some_slot slots) some_same question)
