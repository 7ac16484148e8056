-- What the shelf answers to a call is right, and it then holds what the ledger has.
use Rattle.std.proofs.Common.{◌≡◌, ◌*◌, leb, List, length, Ok, Err, sym, refl, ap, ◌∙◌, subst, arith}
use Rattle.refusals.specs.Due.{Due, none, refusal}
use Rattle.refusals.specs.Numbers.{number}
use Rattle.lists.specs.Counting.{Mem}
use Rattle.ledger.specs.Ledger.{Part, Call, enter, remove, ask, unread, stands, unless, change_due, granted}
use Rattle.ledger.specs.Questions.{Answer, Questions}
use Rattle.ledger.specs.Law.{Right, due, Granted}
use Rattle.ledger.proofs.Dues.{enter_new, enter_whole}
use Rattle.ledger.proofs.Questions.{Lawful}
use Rattle.ledger.proofs.Rights.{right_map}
use Rattle.inventory.specs.Slots.{Held}
use Rattle.inventory.specs.declared.shelf.Shelf.{Shelf}
use Rattle.runs.specs.Calls.{Does}
use Rattle.runs.specs.Holding.{Holds, Leads}
use Rattle.runs.proofs.Stock.{enter_same, drop_same, question_same}
use Rattle.runs.proofs.Changes.{enter_holds, drop_holds}

module _ {R Q : Type 0} (questions : Questions R Q) (lawful : Lawful questions) (before : Shelf) (memory : List R) where
  -- what a call leads to that may change the ledger, by what it is refused with
  module _ (call : Call R Q) (after : Shelf) (memory' : List R) (answer : Answer) where
    abbrev Stepped : List (Part R) → Due → Due → Type 0
    Stepped parts d e = Right d (Granted questions parts call answer) answer × Holds after.slots memory' (unless e (granted parts call) parts)

    step_leads : after.count ≡ before.count
        → ((parts : List (Part R)) → Holds before.slots memory parts
        → (d : Due) × (due questions before.count parts call ≡ d) × (change_due before.count parts call ≡ d) × Stepped parts d d)
        → Leads questions before memory call answer after memory'
    step_leads count step = (
      count,
      λ parts h.
          let so = step parts h in
          subst (λ d. Stepped parts d (change_due before.count parts call)) (sym so.1) (subst (λ e. Stepped parts so.0 e) (sym so.2) so.3),
    )

  module _ (long : length memory ≡ before.count * 1024) where
    pub does_leads : (call : Call R Q) (answer : Answer) (after : Shelf) (memory' : List R)
        → Does questions before memory call answer after memory' → Leads questions before memory call answer after memory'
    does_leads (enter n inputs rows) answer after memory' (Ok _, is, (nothing, (k, label, low, free, named, sized, count, slots, written))) =
        step_leads (enter n inputs rows) after memory' answer count
        (λ parts h.
        let full = leb before.count (length parts) in
        let e = enter_same h before.count long n inputs (length rows) ∙ nothing in
        let new = enter_new none (stands n parts) full n inputs (length rows) e in
        let whole = enter_whole none (stands n parts) full n inputs (length rows) e in
        (none, e, e, (is, rw (slots, written) (enter_holds h k (omega arith) n inputs rows new whole free (omega arith) label named sized))))
    does_leads (enter n inputs rows) answer after memory' (Err reason, is, (refuses, shelf, kept)) =
        step_leads (enter n inputs rows) after memory' answer (ap (λ s. s.count) shelf)
        (λ parts h.
        let e = enter_same h before.count long n inputs (length rows) ∙ refuses in
        (refusal (number reason), e, e, (is, rw (shelf, kept) h)))
    does_leads (remove n) answer after memory' (Ok _, is, kept, (nothing, (k, low, has_it, count, slots))) =
        step_leads (remove n) after memory' answer count
        (λ parts h.
        let e = drop_same h before.count long n ∙ nothing in
        (none, e, e, (is, rw (slots, kept) (drop_holds h k (omega arith) n has_it before.once))))
    does_leads (remove n) answer after memory' (Err reason, is, kept, (refuses, shelf)) =
        step_leads (remove n) after memory' answer (ap (λ s. s.count) shelf)
        (λ parts h.
        let e = drop_same h before.count long n ∙ refuses in
        (refusal (number reason), e, e, (is, rw (shelf, kept) h)))
    does_leads (ask question) answer after memory' (asked, shelf, kept) = (
      ap (λ s. s.count) shelf,
      λ parts h.
          let mem : Part R → Type 0 = λ (part : Part R). Mem part parts in
          let held = Held before.slots memory in
          let over = lawful.over held mem h.listed h.held question answer in
          let right = right_map (questions.right held question answer) answer (questions.right mem question answer) _ over asked in
          (rw (question_same h before.count long questions lawful question) right, rw (shelf, kept) h),
    )
    does_leads (unread k) answer after memory' (is, shelf, kept) =
        step_leads (unread k) after memory' answer (ap (λ s. s.count) shelf) (λ parts h. (refusal k, refl, refl, (is, rw (shelf, kept) h)))
