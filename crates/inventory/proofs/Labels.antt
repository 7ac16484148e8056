-- Slots and what their labels say.
use Rattle.std.proofs.Common.{◌≡◌, ℕ, ◌<◌, ◌≤◌, true, false, List, length, get_or, set, replicate, is_some, Some, None, Option, sym, refl, ap, ◌∙◌, ⊎_elim, arith, get_or-set_other, get_or-set_same}
use Rattle.std.proofs.lemmas.Bool.{true≢false, false≢true, both_ways, cases_eq, eq-eqb, eqb-true}
use Rattle.std.proofs.lemmas.Grind.{common_steps}
use Rattle.inventory.specs.Slots.{has, share, labelled}
use Rattle.inventory.specs.declared.label.Label.{Label}
use Rattle.inventory.proofs.Scans.{any_here}

pub is_free : (slot : Option Label) → is_some slot ≡ false → slot ≡ None
is_free None e = refl
is_free (Some label) e = absurd (true≢false e)

-- a slot of a number has a label of this number
pub label_of : (slot : Option Label) (n : ℕ) → has n slot ≡ true → (label : Label) × (slot ≡ Some label) × (label.number ≡ n)
label_of None n e = absurd (false≢true e)
label_of (Some label) n e = (label, refl, eqb-true label.number n e)

pub has_own : (slot : Option Label) (label : Label) → slot ≡ Some label → has label.number slot ≡ true
has_own slot label e = ap (has label.number) e ∙ eq-eqb label.number label.number refl

-- slots of one number share it
pub sharing : (s t : Option Label) (n : ℕ) → has n s ≡ true → has n t ≡ true → share s t ≡ true
sharing None t n hs ht = absurd (false≢true hs)
sharing (Some label) t n hs ht = ap (λ m. has m t) (eqb-true label.number n hs) ∙ ht

pub all_free : (n k : ℕ) → ◌≡◌ {A = Option Label} (get_or (replicate n None) k None) None
all_free n k = grind (arith, common_steps)

pub unshared : (s t : Option Label) → s ≡ None → share s t ≡ true → ⊥
unshared s t e on = false≢true (sym (ap (λ u. share u t) e) ∙ on)

share_turned : (s t : Option Label) → share s t ≡ true → share t s ≡ true
share_turned None t e = absurd (false≢true e)
share_turned (Some a) None e = absurd (false≢true e)
share_turned (Some a) (Some b) e = eq-eqb a.number b.number (sym (eqb-true b.number a.number e))

-- one label more in a free slot, of a number that no slot has
module _ (slots : List (Option Label)) (slot : ℕ) (label : Label) (within : slot < length slots) (new : labelled label.number slots ≡ false)
    (once : (j k : ℕ) → share (get_or slots j None) (get_or slots k None) ≡ true → j ≡ k) where
  abbrev later : List (Option Label)
  later = set slots slot (Some label)

  here : (j : ℕ) → j ≡ slot → get_or later j None ≡ Some label
  here j e = ap (λ x. get_or later x None) e ∙ get_or-set_same slots slot (Some label) None within

  there : (j : ℕ) → (j ≡ slot → ⊥) → get_or later j None ≡ get_or slots j None
  there j ne = get_or-set_other slots slot j (Some label) None ne

  clash : (j k : ℕ) → j ≡ slot → (k ≡ slot → ⊥) → share (get_or later j None) (get_or later k None) ≡ true → ⊥
  clash j k e ne shared =
      let on : has label.number (get_or slots k None) ≡ true = sym (ap (λ s. share s (get_or later k None)) (here j e) ∙ ap (has label.number) (there k ne)) ∙ shared in
      both_ways (labelled label.number slots) new (any_here (has label.number) slots k None refl on)

  pub put_once : (j k : ℕ) → share (get_or later j None) (get_or later k None) ≡ true → j ≡ k
  put_once j k shared =
      ⊎_elim
      (λ ej. ⊎_elim (λ ek. ej ∙ sym ek) (λ nk. absurd (clash j k ej nk shared)) (cases_eq k slot))
      (λ nj. ⊎_elim
      (λ ek. absurd (clash k j ek nj (share_turned (get_or later j None) (get_or later k None) shared)))
      (λ nk. once j k (sym (ap (λ s. share s (get_or later k None)) (there j nj) ∙ ap (share (get_or slots j None)) (there k nk)) ∙ shared))
      (cases_eq k slot))
      (cases_eq j slot)

pub put_past : (slots : List (Option Label)) (slot count : ℕ) (x : Option Label) → slot < count → ((k : ℕ) → count ≤ k → get_or slots k None ≡ None) → (k : ℕ) → count ≤ k → get_or (set slots slot x) k None ≡ None
put_past slots slot count x lt past k le = grind (arith, common_steps, past k le)

pub same_label : (a b : Label) → Some a ≡ Some b → a ≡ b
same_label a b e = cc
