-- The turns of the loop that decides the rows of one input.
use Rattle.std.proofs.Common.{◌≡◌, ℕ, ◌+◌, ◌<◌, Bool, true, List, length, get_or, set, ap, ◌∙◌, arith}
use Rattle.std.proofs.lemmas.List.{get_or-set_same, get_or-set_other}
use borrow.Author.Count.{below_more}
use Rattle.matching.specs.Begun.{Settled, Kept}

module _ {R : Type 0} (same : R → R → Bool) (card part : List R) (h further : ℕ) (before : List ℕ) where
  pub kept_more : (carried : List ℕ) (r v : ℕ) → Kept h before carried → Kept h before (set carried (h + r) v)
  kept_more carried r v kept i lt = get_or-set_other carried (h + r) i v 0 (λ e. omega arith) ∙ kept i lt

  pub settled_more : (carried : List ℕ) (r : ℕ) → Kept h before carried → Settled same card part h r further before carried → r < h → h + r < length carried
      → ((d : R) → same (get_or card (h + r) d) (get_or part (get_or before r 0 + further) d) ≡ true)
      → Settled same card part h (r + 1) further before (set carried (h + r) (get_or carried r 0 + further))
  settled_more carried r kept s lt lm here =
      let v = get_or carried r 0 + further in
      record {
        carries = below_more (λ i. get_or (set carried (h + r) v) (h + i) 0 ≡ get_or before i 0 + further) r
            (λ i l. get_or-set_other carried (h + r) (h + i) v 0 (λ e. omega arith) ∙ s.carries i l)
            (get_or-set_same carried (h + r) v 0 lm ∙ ap (λ z. z + further) (kept r lt));
        alike = λ i d. below_more (λ i. same (get_or card (h + i) d) (get_or part (get_or before i 0 + further) d) ≡ true) r (λ i l. s.alike i d l) (here d) i;
      }
