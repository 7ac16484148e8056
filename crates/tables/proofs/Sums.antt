use Rattle.std.proofs.Common.{◌≡◌, ℕ, zero, suc, ◌+◌, ◌<◌, ◌≤◌, cond, eqb, sym, refl, ap, ◌∙◌, ⊎_elim, arith, eq-eqb, true-eqb}
use Rattle.std.proofs.lemmas.Bool.{cases_eq, cond-true, cond_both}
use Rattle.tables.specs.Sums.{sum_to}

pub sum_ext : (n : ℕ) (f g : ℕ → ℕ) → ((k : ℕ) → k < n → f k ≡ g k) → sum_to n f ≡ sum_to n g
sum_ext zero f g h = refl
sum_ext (suc n) f g h =
    let a = sum_ext n f g (λ k lt. h k (omega arith)) in
    let b = h n (omega arith) in
    omega arith

pub sum_zero : (n : ℕ) → sum_to n (λ _. 0) ≡ 0
sum_zero zero = refl
sum_zero (suc n) = let a = sum_zero n in omega arith

pub sum_add : (n : ℕ) (f g : ℕ → ℕ) → sum_to n (λ k. f k + g k) ≡ sum_to n f + sum_to n g
sum_add zero f g = refl
sum_add (suc n) f g = let a = sum_add n f g in omega arith

pub sum_le : (n : ℕ) (f g : ℕ → ℕ) → ((k : ℕ) → k < n → f k ≤ g k) → sum_to n f ≤ sum_to n g
sum_le zero f g h = omega arith
sum_le (suc n) f g h = let a = sum_le n f g (λ k lt. h k (omega arith)) in let b = h n (omega arith) in omega arith

pub sum_swap : (m n : ℕ) (f : ℕ → ℕ → ℕ) → sum_to m (λ i. sum_to n (λ j. f i j)) ≡ sum_to n (λ j. sum_to m (λ i. f i j))
sum_swap zero n f = sym (sum_zero n)
sum_swap (suc m) n f = ap (λ x. x + sum_to n (f m)) (sum_swap m n f) ∙ sym (sum_add n (λ j. sum_to m (λ i. f i j)) (f m))

-- the value where k is a
abbrev pub at : ℕ → ℕ → ℕ → ℕ
at a x k = cond (eqb k a) x 0

pub at_yes : (a x k : ℕ) → k ≡ a → at a x k ≡ x
at_yes a x k e = cond-true (eqb k a) x 0 (eq-eqb k a e)

pub at_no : (a x k : ℕ) → (k ≡ a → ⊥) → at a x k ≡ 0
at_no a x k ne = cond_both (eqb k a) x 0 (λ y. y ≡ 0) (λ e. absurd (ne (true-eqb k a (sym e)))) (λ _. refl)

sum_none : (n a x : ℕ) → n ≤ a → sum_to n (at a x) ≡ 0
sum_none zero a x le = refl
sum_none (suc n) a x le =
    let b = sum_none n a x (omega arith) in
    let c = at_no a x n (λ e. omega arith) in
    omega arith

pub sum_single : (n a x : ℕ) → a < n → sum_to n (at a x) ≡ x
sum_single zero a x lt = absurd (omega arith)
sum_single (suc n) a x lt =
    ⊎_elim
    (λ e. let b = sum_none n a x (omega arith) in let c = at_yes a x n e in omega arith)
    (λ ne. let b = sum_single n a x (omega arith) in let c = at_no a x n ne in omega arith)
    (cases_eq n a)

-- the terms in another order
pub sum_reindex : (n : ℕ) (there back : ℕ → ℕ) (f g : ℕ → ℕ)
    → ((r : ℕ) → r < n → there r < n) → ((q : ℕ) → q < n → back q < n)
    → ((r : ℕ) → r < n → back (there r) ≡ r) → ((q : ℕ) → q < n → there (back q) ≡ q)
    → ((r : ℕ) → r < n → f r ≡ g (there r)) → sum_to n f ≡ sum_to n g
sum_reindex n there back f g to from bt tb same =
    sum_ext n f (λ r. sum_to n (at (there r) (f r))) (λ r lt. sym (sum_single n (there r) (f r) (to r lt)))
    ∙ sum_swap n n (λ r q. at (there r) (f r) q)
    ∙ sum_ext n (λ q. sum_to n (λ r. at (there r) (f r) q)) g (λ q lq.
    sum_ext n (λ r. at (there r) (f r) q) (at (back q) (g q)) (λ r lr.
    ⊎_elim
    (λ e. at_yes (there r) (f r) q e ∙ same r lr ∙ ap g (sym e) ∙ sym (at_yes (back q) (g q) r (sym (ap back e ∙ bt r lr))))
    (λ ne. at_no (there r) (f r) q ne ∙ sym (at_no (back q) (g q) r (λ e. ne (sym (ap there e ∙ tb q lq)))))
    (cases_eq q (there r)))
    ∙ sum_single n (back q) (g q) (from q lq))
