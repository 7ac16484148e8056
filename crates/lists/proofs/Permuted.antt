-- What is counted of lists is counted of them in another order.
use Rattle.std.proofs.Common.{◌≡◌, ℕ, zero, suc, ◌+◌, ◌<◌, Bool, not, cond, List, [], ◌∷◌, map, count_by, sym, refl, ap, ◌∙◌, arith}
use Rattle.std.specs.List.{range_with_len}
use Rattle.std.proofs.lemmas.List.Sums.{sum_by-cons}
use Rattle.tables.specs.Sums.{sum_to}
use Rattle.tables.specs.Wirings.{Wires}
use Rattle.tables.proofs.Onto.{back, back_into, there_back, back_there}
use Rattle.tables.proofs.Sums.{sum_ext, sum_reindex}
use Rattle.lists.specs.Lists.{equal}
use Rattle.lists.specs.Pairs.{struck_pairs}

-- the first term apart
sum_first : (n : ℕ) (h : ℕ → ℕ) → sum_to (suc n) h ≡ h 0 + sum_to n (λ i. h (suc i))
sum_first zero h = omega arith
sum_first (suc n) h = let rest = sum_first n h in omega arith

-- how many of n values pass a test
count_values : {X : Type 0} (test : X → Bool) (f : ℕ → X) (a n : ℕ) → count_by test (map f (range_with_len a n)) ≡ sum_to n (λ i. cond (test (f (a + i))) 1 0)
count_values test f a zero = refl
count_values test f a (suc n) =
    let term : ℕ → ℕ = λ i. cond (test (f (a + i))) 1 0 in
    let here : cond (test (f a)) 1 0 ≡ term 0 = ap (λ k. cond (test (f k)) 1 0) (omega arith) in
    let rest : sum_to n (λ i. cond (test (f (a + 1 + i))) 1 0) ≡ sum_to n (λ i. term (suc i)) = sum_ext n _ _ (λ i _. ap (λ k. cond (test (f k)) 1 0) (omega arith)) in
    let first = sum_by-cons (λ x. cond (test x) 1 0) (f a) (map f (range_with_len (a + 1) n)) in
    first
    ∙ ap (λ k. cond (test (f a)) 1 0 + k) (count_values test f (a + 1) n ∙ rest)
    ∙ ap (λ k. k + sum_to n (λ i. term (suc i))) here
    ∙ sym (sum_first n term)

module _ (n : ℕ) (f g : ℕ → List ℕ) (w : ℕ → ℕ) (wires : Wires n w) (kept : (i : ℕ) → i < n → f i ≡ g (w i)) where
  count_kept : (test : List ℕ → Bool) → count_by test (map f (range_with_len 0 n)) ≡ count_by test (map g (range_with_len 0 n))
  count_kept test =
      count_values test f 0 n
      ∙ sum_reindex n w (back n w wires) (λ i. cond (test (f (0 + i))) 1 0) (λ i. cond (test (g (0 + i))) 1 0) wires.0 (back_into n w wires) (back_there n w wires) (there_back n w wires)
      (λ i li. ap (λ x. cond (test x) 1 0) (ap f (omega arith) ∙ kept i li ∙ ap g (omega arith)))
      ∙ sym (count_values test g 0 n)

  -- as many pairs are struck
  pub struck_kept : (xs : List (List ℕ)) → struck_pairs xs (map f (range_with_len 0 n)) ≡ struck_pairs xs (map g (range_with_len 0 n))
  struck_kept [] = refl
  struck_kept (x ∷ xs) =
      let fs = map f (range_with_len 0 n) in
      let gs = map g (range_with_len 0 n) in
      sum_by-cons (λ z. count_by (λ y. not (equal z y)) fs) x xs
      ∙ ap (λ k. k + struck_pairs xs fs) (count_kept (λ y. not (equal x y)))
      ∙ ap (λ k. count_by (λ y. not (equal x y)) gs + k) (struck_kept xs)
      ∙ sym (sum_by-cons (λ z. count_by (λ y. not (equal z y)) gs) x xs)
