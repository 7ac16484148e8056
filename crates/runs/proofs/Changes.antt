-- What a shelf holds after a part is entered or dropped.
use Rattle.std.proofs.Common.{◌≡◌, ℕ, ◌+◌, ◌*◌, ◌^◌, ◌<◌, ◌≤◌, true, false, cond, List, ◌∷◌, length, get_or, set, is_some, Some, None, count_by, Option, sym, refl, ap, ◌∙◌, subst, inl, inr, ⊎_elim, arith}
use Rattle.std.proofs.lemmas.List.{get_or-set_same, get_or-set_other}
use Rattle.std.proofs.lemmas.List.Sums.{sum_by-set}
use Rattle.std.proofs.lemmas.Bool.{cases_eq}
use Rattle.ledger.specs.Ledger.{Part, stands, without}
use Rattle.ledger.proofs.Standing.{mem_stays, mem_without, once_without, without_less}
use Rattle.inventory.specs.Slots.{has, share, front, written, At}
use Rattle.inventory.specs.declared.label.Label.{Label}
use Rattle.inventory.proofs.Labels.{label_of, sharing}
use Rattle.inventory.proofs.Scans.{any_here}
use Rattle.inventory.proofs.Writes.{rows_fit}
use Rattle.runs.specs.Holding.{Holds}
use Rattle.runs.proofs.Stretches.{front_new, front_other}
use Rattle.inventory.proofs.Places.{not_free, one_at, at_has, at_number, at_stays}
use Rattle.runs.proofs.Stock.{labelled_stands}

abbrev in_use : Option Label → ℕ
in_use slot = cond (is_some slot) 1 0

module _ {R : Type 0} {slots : List (Option Label)} {memory : List R} {parts : List (Part R)} (h : Holds slots memory parts)
    (k : ℕ) (within : k < length slots) where
  module _ (x : Option Label) where
    put_here : get_or (set slots k x) k None ≡ x
    put_here = get_or-set_same slots k x None within

    put_there : (j : ℕ) → (j ≡ k → ⊥) → get_or (set slots k x) j None ≡ get_or slots j None
    put_there j ne = get_or-set_other slots k j x None ne

    put_count : count_by is_some (set slots k x) + in_use (get_or slots k None) ≡ count_by is_some slots + in_use x
    put_count = sum_by-set in_use slots k x None within

  -- a new part goes into a free slot
  module _ (n inputs : ℕ) (rows : List R) (new : stands n parts ≡ false) (whole : length rows ≡ 2 ^ inputs)
      (free : get_or slots k None ≡ None) (room : k * 1024 ≤ length memory) (label : Label) (named : label.number ≡ n) (sized : label.inputs ≡ inputs) where
    abbrev entry : Part R
    entry = record { number = n; inputs = inputs; rows = rows }

    abbrev labels : List (Option Label)
    labels = set slots k (Some label)

    abbrev stored : List R
    stored = written memory (k * 1024) rows

    same_rows : (j : ℕ) → (j ≡ k → ⊥) → (i : ℕ) → i ≤ 10 → front stored j i ≡ front memory j i
    same_rows j ne i few = front_other memory rows k room j i ne few (omega (arith, rows_fit inputs (omega (arith, label.few, sized))))

    at_new : At labels stored k entry
    at_new = record {
      label = label;
      slot = put_here (Some label);
      number = sym named;
      inputs = sym sized;
      rows = sym (front_new memory rows k room label.inputs (whole ∙ ap (λ i. 2 ^ i) (sym sized)));
    }

    at_kept : (j : ℕ) (p : Part R) → At slots memory j p → At labels stored j p
    at_kept j p a =
        let other : j ≡ k → ⊥ = λ e. not_free (get_or slots j None) a.label (ap (λ i. get_or slots i None) e ∙ free) a.slot in
        at_stays slots memory j labels stored p (put_there (Some label) j other) (same_rows j other) a

    at_old : (j : ℕ) (p : Part R) → (j ≡ k → ⊥) → At labels stored j p → At slots memory j p
    at_old j p ne = at_stays labels stored j slots memory p (sym (put_there (Some label) j ne)) (λ i few. sym (same_rows j ne i few))

    pub enter_holds : Holds labels stored (entry ∷ parts)
    enter_holds = record {
      held = λ p. ⊎_elim
          (λ e. (k, subst (At labels stored k) (sym e) at_new))
          (λ m. let place = h.held p m in (place.0, at_kept place.0 p place.1));
      listed = λ p place. ⊎_elim
          (λ e. inl (one_at labels stored k p entry (subst (λ j. At labels stored j p) e place.1) at_new))
          (λ ne. inr (h.listed p (place.0, at_old place.0 p ne place.1)))
          (cases_eq place.0 k);
      once = (new, h.once);
      count = omega (arith, h.count, put_count (Some label), ap in_use free);
    }

  -- the slot of a part is freed
  module _ (n : ℕ) (has_it : has n (get_or slots k None) ≡ true) (once : (i j : ℕ) → share (get_or slots i None) (get_or slots j None) ≡ true → i ≡ j) where
    abbrev left : List (Option Label)
    left = set slots k None

    at_left : (j : ℕ) (p : Part R) → (j ≡ k → ⊥) → At slots memory j p → At left memory j p
    at_left j p ne = at_stays slots memory j left memory p (put_there None j ne) (λ i few. refl)

    at_before : (j : ℕ) (p : Part R) → (j ≡ k → ⊥) → At left memory j p → At slots memory j p
    at_before j p ne = at_stays left memory j slots memory p (sym (put_there None j ne)) (λ i few. refl)

    pub drop_holds : Holds left memory (without n parts)
    drop_holds = record {
      held = λ p m.
          let stayed = mem_without n parts p m in
          let place = h.held p stayed.0 in
          let j = place.0 in
          (j, at_left j p (λ e. stayed.1 (at_number slots memory j p n place.1 (ap (λ i. has n (get_or slots i None)) e ∙ has_it))) place.1);
      listed = λ p place.
          let j = place.0 in
          let ne : j ≡ k → ⊥ = λ e. not_free (get_or left j None) place.1.label (ap (λ i. get_or left i None) e ∙ put_here None) place.1.slot in
          let a = at_before j p ne place.1 in
          let shared : p.number ≡ n → share (get_or slots j None) (get_or slots k None) ≡ true =
          λ e. sharing (get_or slots j None) (get_or slots k None) n (at_has slots memory j p n a e) has_it in
          mem_stays n parts p (h.listed p (j, a)) (λ e. ne (once j k (shared e)));
      once = once_without n parts h.once;
      count =
          let less = without_less n parts h.once (labelled_stands h n (any_here (has n) slots k None refl has_it)) in
          omega (arith, h.count, put_count None, ap in_use (label_of (get_or slots k None) n has_it).1);
    }
