use Rattle.std.proofs.Common.{◌≡◌, ℕ, ◌^◌, ◌<◌, Bool, true, false, cond, eqb, List, length, get_or, Decides, sym, refl, ap, ◌∙◌, ⊎_elim, arith, eq-eqb}
use Rattle.std.proofs.lemmas.Bool.{cases_eq, ne_eqb, false≢true}
use Rattle.tables.specs.Wirings.{Wires, Inverse}
use Rattle.tables.specs.Agreement.{bit, Agree}
use Rattle.tables.specs.Equivalence.{named, Equivalent}
use Rattle.tables.specs.RowCheck.{Checked}
use Rattle.tables.proofs.Digits.{bit_lt, number_lt, bit_number, bits_ext}
use Rattle.tables.proofs.Onto.{back, back_into, there_back, back_there}

abbrev digit : Bool → ℕ
digit b = cond b 1 0

digit_lt : (b : Bool) → digit b < 2
digit_lt true = omega arith
digit_lt false = omega arith

digit_eqb : (b : ℕ) → b < 2 → digit (eqb b 1) ≡ b
digit_eqb b lt = ⊎_elim (λ e. ap digit (eq-eqb b 1 e) ∙ sym e) (λ ne. let z : b ≡ 0 = omega arith in ap digit (ne_eqb b 1 ne) ∙ sym z) (cases_eq b 1)

pub named_lt : (n : ℕ) (x : ℕ → Bool) → named n x < 2 ^ n
named_lt n x = number_lt (λ i. digit (x i)) (λ i. digit_lt (x i)) n

pub bit_named : (n : ℕ) (x : ℕ → Bool) (i : ℕ) → i < n → bit i (named n x) ≡ digit (x i)
bit_named n x i lt = bit_number (λ i. digit (x i)) (λ i. digit_lt (x i)) n i lt

-- the vector of a row's bits
abbrev pub vector : ℕ → ℕ → Bool
vector r i = eqb (bit i r) 1

pub named_vector : (n r : ℕ) → r < 2 ^ n → named n (vector r) ≡ r
named_vector n r lr = bits_ext n (named n (vector r)) r (named_lt n (vector r)) lr (λ i li. bit_named n (vector r) i li ∙ digit_eqb (bit i r) (bit_lt i r))

pub inverse : (n : ℕ) (w : ℕ → ℕ) → Wires n w → (π : ℕ → ℕ) × Inverse n w π
inverse n w h = (back n w h, (back_there n w h, λ j lj. (back_into n w h j lj, there_back n w h j lj)))

module _ {R : Type 0} (same : R → R → Bool) (n : ℕ) (w π : ℕ → ℕ) (inv : Inverse n w π) (card part : List R) where
  pub agree_equivalent : Agree same n w card part → Equivalent same n π card part
  agree_equivalent a x d = a.rows (named n x) (named n (λ j. x (π j))) d (named_lt n x) (named_lt n (λ j. x (π j))) (λ i li.
      bit_named n (λ j. x (π j)) (w i) (a.wires.0 i li) ∙ ap (λ y. digit (x y)) (inv.0 i li) ∙ sym (bit_named n x i li))

  pub equivalent_agree : Wires n w → length card ≡ 2 ^ n → length part ≡ 2 ^ n → Equivalent same n π card part → Agree same n w card part
  equivalent_agree h lc lp e = record {
    wires = h;
    card_rows = lc;
    part_rows = lp;
    rows = λ r q d lr lq c.
        let x = vector r in
        let er = named_vector n r lr in
        let eq : named n (λ j. x (π j)) ≡ q = bits_ext n (named n (λ j. x (π j))) q (named_lt n (λ j. x (π j))) lq (λ j lj.
        bit_named n (λ j. x (π j)) j lj ∙ digit_eqb (bit (π j) r) (bit_lt (π j) r) ∙ sym (c (π j) (inv.1 j lj).0) ∙ ap (λ y. bit y q) (inv.1 j lj).1) in
        ap (λ y. same (get_or card y d) (get_or part q d)) (sym er) ∙ ap (λ y. same (get_or card (named n x) d) (get_or part y d)) (sym eq) ∙ e x d;
  }

pub not_so : (P : Type 0) → (P → ⊥) → Decides false P
not_so P off = ((λ e. absurd (false≢true e)), λ p. absurd (off p))

pub so : (P : Type 0) → P → Decides true P
so P p = ((λ _. p), λ _. refl)

pub checked : {R : Type 0} (same : R → R → Bool) (n : ℕ) (w : ℕ → ℕ) (card part : List R) (r : Bool) → Wires n w → Decides r (Agree same n w card part) → Checked same n w card part r
checked same n w card part r h x = record {
  agree = x;
  equivalent = λ π inv. ((λ e. let a = x.0 e in (a.card_rows, a.part_rows, agree_equivalent same n w π inv card part a)), λ t. x.1 (equivalent_agree same n w π inv card part h t.0 t.1 t.2));
  turned = inverse n w h;
}
