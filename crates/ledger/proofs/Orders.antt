-- At most one list of pins comes before every other.
use Rattle.std.proofs.Common.{◌≡◌, ℕ, zero, suc, ◌⊎◌, List, length, sym, ap, ◌∙◌, inl, inr, ⊎_elim, arith}
use Rattle.std.proofs.lemmas.List.{ext_get_or}
use Rattle.std.proofs.lemmas.Bool.{cases_eq, cases_order}
use Rattle.tables.specs.Wirings.{pin, Alike, Other, Before}

module _ (v w : ℕ → ℕ) where
  alike_or_other : (n : ℕ) → Alike n v w ⊎ Other n v w
  alike_or_other zero = inl (λ i lt. absurd (omega arith))
  alike_or_other (suc n) =
      ⊎_elim
      (λ alike. ⊎_elim
      (λ same. inl (λ i lt. ⊎_elim (λ e. ap v e ∙ same ∙ ap w (sym e)) (λ ne. alike i (omega arith)) (cases_eq i n)))
      (λ differ. inr (n, omega arith, differ))
      (cases_eq (v n) (w n)))
      (λ other. let lt = other.1 in inr (other.0, omega arith, other.2))
      (alike_or_other n)

  before_one_way : (n : ℕ) → Before n v w → Before n w v → ⊥
  before_one_way n there back =
      let lower = there.3 in
      let higher = back.3 in
      ⊎_elim
      (λ e. omega (arith, ap v e, ap w e))
      (⊎_elim (λ lt. omega (arith, back.2 there.0 lt)) (λ lt. omega (arith, there.2 back.0 lt)))
      (cases_order there.0 back.0)

-- two lists of pins that each come before the other, where they differ, are one
pub first_pins : (n : ℕ) (xs ys : List ℕ) → length xs ≡ n → length ys ≡ n
    → (Other n (pin xs) (pin ys) → Before n (pin xs) (pin ys)) → (Other n (pin ys) (pin xs) → Before n (pin ys) (pin xs)) → xs ≡ ys
first_pins n xs ys lx ly before after =
    ⊎_elim
    (λ alike. ext_get_or 0 xs ys (lx ∙ sym ly) (λ i lt. alike i (omega arith)))
    (λ other. absurd (before_one_way (pin xs) (pin ys) n (before other) (after (other.0, other.1, λ e. other.2 (sym e)))))
    (alike_or_other (pin xs) (pin ys) n)
