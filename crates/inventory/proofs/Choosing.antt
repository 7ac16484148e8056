-- The best proposal of the slots so far, and one slot more.
use Rattle.std.proofs.Common.{◌≡◌, ℕ, ◌+◌, ◌<◌, ◌≤◌, Bool, true, ◌⊎◌, List, get_or, Some, None, Option, sym, refl, ap, ◌∙◌, subst, inl, inr, ⊎_elim, arith}
use Rattle.std.specs.Option.{option_or}
use Rattle.std.proofs.lemmas.List.{get_or_default}
use Rattle.std.proofs.lemmas.Option.{none-some}
use Rattle.std.proofs.lemmas.Bool.{cases_eq, cases_lt}
use Rattle.tables.specs.Wirings.{pin}
use Rattle.ledger.specs.Ledger.{Part}
use Rattle.ledger.specs.Questions.{Serves}
use Rattle.ledger.proofs.Serving.{no_part_over, proposes_among, proposes_over}
use Rattle.inventory.specs.Slots.{At, Held, HeldBelow, has, share}
use Rattle.inventory.specs.Fitting.{Best, Worth}
use Rattle.inventory.specs.declared.label.Label.{Label}
use Rattle.inventory.specs.declared.proposal.Proposal.{Proposal}
use Rattle.inventory.specs.declared.shelf.Shelf.{Shelf}
use Rattle.inventory.proofs.Labels.{has_own, sharing}
use Rattle.inventory.proofs.Places.{not_free, part_at, at_label, one_at}

same_proposal : (p q : Proposal) → Some p ≡ Some q → p ≡ q
same_proposal p q e = cc

module _ {R P : Type 0} (same : R → R → Bool) (list : P → ℕ → List R → ℕ → List ℕ) (inputs : ℕ) (card : List R) (pile : P) where
  abbrev Over : (Part R → Type 0) → Option Proposal → Type 0
  Over standing best = Best same list standing inputs card pile best

  abbrev ServesUnder : (Part R → Type 0) → Part R → (ℕ → ℕ) → Type 0
  ServesUnder standing = Serves same list standing inputs card

  -- the parts before, one part here, and both
  module _ (before here after : Part R → Type 0) (grow : (part : Part R) → before part → after part) (add : (part : Part R) → here part → after part)
      (split : (part : Part R) → after part → before part ⊎ here part) where
    -- no part here is better
    pub best_kept : (best : Option Proposal) → Over before best
        → ((other : Part R) (v : ℕ → ℕ) → here other → ServesUnder before other v → (p : Proposal) × (best ≡ Some p) × (p.number < other.number)) → Over after best
    best_kept None none worse = λ part w stands serves.
        ⊎_elim (λ b. none part w b serves) (λ h. let o = worse part w h serves in none-some o.0 o.1) (split part stands)
    best_kept (Some p) found worse =
        let q = found.1 in (
          found.0,
          proposes_among same list inputs card before after pile p.number (pin p.wiring.pins) p.struck q (grow q.part q.stands) (λ other v stands serves.
              ⊎_elim
              (λ b. q.lowest other v b serves)
              (λ h. let o = worse other v h serves in let e = ap (λ x. x.number) (same_proposal p o.0 o.1) in let lt = o.2 in inr (omega arith))
              (split other stands)),
        )

    -- every part before that serves has a higher number than a better proposal
    higher : (best : Option Proposal) (p : Proposal) → Over before best → ((q : Proposal) → best ≡ Some q → p.number < q.number)
        → (other : Part R) (v : ℕ → ℕ) → before other → ServesUnder before other v → p.number < other.number
    higher None p none better other v b serves = absurd (none other v b serves)
    higher (Some q) p old better other v b serves =
        let lower = better q refl in
        let named = old.1.named in
        ⊎_elim (λ e. let alike = ap (λ x. x.number) e in omega arith) (λ lt. omega arith) (old.1.lowest other v b serves)

    -- the part here is better
    pub best_new : (best : Option Proposal) (p : Proposal) → Over before best → Over here (Some p) → ((q : Proposal) → best ≡ Some q → p.number < q.number) → Over after (Some p)
    best_new best p old found better =
        let n = found.1 in (
          found.0,
          proposes_among same list inputs card here after pile p.number (pin p.wiring.pins) p.struck n (add n.part n.stands) (λ other v stands serves.
              ⊎_elim (λ b. inr (higher best p old better other v b serves)) (λ h. n.lowest other v h serves) (split other stands)),
        )

-- the slots below k, slot k, and the slots below k + 1
module _ {R : Type 0} (slots : List (Option Label)) (memory : List R) (k : ℕ) where
  pub held_grow : (part : Part R) → HeldBelow slots memory k part → HeldBelow slots memory (k + 1) part
  held_grow part h = let lt = h.1 in (h.0, omega arith, h.2)

  pub held_add : (part : Part R) → At slots memory k part → HeldBelow slots memory (k + 1) part
  held_add part a = (k, omega arith, a)

  pub held_split : (part : Part R) → HeldBelow slots memory (k + 1) part → HeldBelow slots memory k part ⊎ At slots memory k part
  held_split part h =
      let lt = h.1 in
      ⊎_elim (λ e. inr (subst (λ j. At slots memory j part) e h.2)) (λ ne. inl (h.0, omega arith, h.2)) (cases_eq h.0 k)

  pub only_at : (label : Label) → get_or slots k None ≡ Some label → (part : Part R) → At slots memory k part → part ≡ part_at memory k label
  only_at label e part a = one_at slots memory k part (part_at memory k label) a (at_label slots memory k label e)

module _ {R P : Type 0} (same : R → R → Bool) (list : P → ℕ → List R → ℕ → List ℕ) (slots : List (Option Label)) (memory : List R) (inputs : ℕ) (card : List R) (pile : P)
    (once : (j k : ℕ) → share (get_or slots j None) (get_or slots k None) ≡ true → j ≡ k) where
  abbrev pub Upto : ℕ → Option Proposal → Type 0
  Upto k best = Best same list (HeldBelow slots memory k) inputs card pile best

  kept_slot : (k : ℕ) (best : Option Proposal) → Upto k best
      → ((other : Part R) (v : ℕ → ℕ) → At slots memory k other → ServesUnder same list inputs card pile (HeldBelow slots memory k) other v → (p : Proposal) × (best ≡ Some p) × (p.number < other.number)) → Upto (k + 1) best
  kept_slot k = best_kept same list inputs card pile (HeldBelow slots memory k) (At slots memory k) (HeldBelow slots memory (k + 1)) (held_grow slots memory k) (held_add slots memory k) (held_split slots memory k)

  -- the best proposal's slot is another
  other_slot : (k : ℕ) (p : Proposal) → Upto k (Some p) → (label : Label) → get_or slots k None ≡ Some label → p.number ≡ label.number → ⊥
  other_slot k p found label e n =
      let there = found.1.stands in
      let at_j = there.2 in
      let j = there.0 in
      let has_j : has label.number (get_or slots j None) ≡ true =
      ap (λ m. has m (get_or slots j None)) (sym n ∙ sym found.1.named ∙ at_j.number) ∙ has_own (get_or slots j None) at_j.label at_j.slot in
      let one = once j k (sharing (get_or slots j None) (get_or slots k None) label.number has_j (has_own (get_or slots k None) label e)) in
      let lt = there.1 in
      omega arith

  -- a slot that is not worth a search
  pub slot_passed : (k : ℕ) (best : Option Proposal) → Upto k best → Worth (get_or slots k None) inputs best None → Upto (k + 1) best
  slot_passed k best old passed = kept_slot k best old (λ other v a serves.
      let o = passed a.label a.slot (sym a.inputs ∙ serves.0) in
      let p = o.0 in
      let le = o.2 in
      let n = a.number in
      let ne = other_slot k p (subst (Upto k) o.1 old) a.label a.slot in
      (p, o.1, ⊎_elim (λ e. absurd (ne e)) (λ apart. omega arith) (cases_eq p.number a.label.number)))

  module _ (k : ℕ) (best : Option Proposal) (old : Upto k best) (label : Label) (slot : get_or slots k None ≡ Some label) where
    abbrev Here : Option Proposal → Type 0
    Here r = Best same list (λ x. x ≡ part_at memory k label) inputs card pile r

    -- a slot that was searched: a lower part that serves is taken
    pub slot_searched : (r : Option Proposal) → Here r → ((q : Proposal) → best ≡ Some q → label.number < q.number) → Upto (k + 1) (option_or r best)
    slot_searched None none lower = kept_slot k best old (λ other v a serves. absurd (none other v (only_at slots memory k label slot other a) serves))
    slot_searched (Some p) found lower =
        best_new same list inputs card pile (HeldBelow slots memory k) (At slots memory k) (HeldBelow slots memory (k + 1)) (held_grow slots memory k) (held_add slots memory k) (held_split slots memory k)
        best p old (
          found.0,
          proposes_over same list inputs card (λ x. x ≡ part_at memory k label) (At slots memory k)
              (λ part e. subst (At slots memory k) (sym e) (at_label slots memory k label slot)) (only_at slots memory k label slot) pile p.number (pin p.wiring.pins) p.struck found.1,
        )
        (λ q e. let number = ap (λ x. x.number) found.1.stands in let named = found.1.named in let less = lower q e in omega arith)

-- what stands in a slot, whatever the read takes for a default
pub slot_read : (shelf : Shelf) (k : ℕ) (x : Option Label) → k < 64 → get_or shelf.slots k x ≡ get_or shelf.slots k None
slot_read shelf k x lt = let whole = shelf.whole in get_or_default shelf.slots k x None (omega arith)

-- a slot in use is one of those that the shelf has
pub in_use : (shelf : Shelf) (k : ℕ) (label : Label) → get_or shelf.slots k None ≡ Some label → k < shelf.count
in_use shelf k label e = ⊎_elim (λ lt. lt) (λ le. absurd (not_free (get_or shelf.slots k None) label (shelf.past k le) e)) (cases_lt k shelf.count)

-- past the last slot no part is left
pub all_slots : {R P : Type 0} (same : R → R → Bool) (list : P → ℕ → List R → ℕ → List ℕ) (shelf : Shelf) (memory : List R) (inputs : ℕ) (card : List R) (pile : P) (k : ℕ) (best : Option Proposal)
    → 64 ≤ k → Best same list (HeldBelow shelf.slots memory k) inputs card pile best → Best same list (Held shelf.slots memory) inputs card pile best
all_slots {R} same list shelf memory inputs card pile k best le b = over best b where
  below : (part : Part R) → Held shelf.slots memory part → HeldBelow shelf.slots memory k part
  below part h = let lt = in_use shelf h.0 h.1.label h.1.slot in let few = shelf.few in (h.0, omega arith, h.1)

  all : (part : Part R) → HeldBelow shelf.slots memory k part → Held shelf.slots memory part
  all part h = (h.0, h.2)

  over : (best : Option Proposal) → Best same list (HeldBelow shelf.slots memory k) inputs card pile best → Best same list (Held shelf.slots memory) inputs card pile best
  over None none = no_part_over same list inputs card (HeldBelow shelf.slots memory k) (Held shelf.slots memory) all below none
  over (Some p) found = (found.0, proposes_over same list inputs card (HeldBelow shelf.slots memory k) (Held shelf.slots memory) all below pile p.number (pin p.wiring.pins) p.struck found.1)
