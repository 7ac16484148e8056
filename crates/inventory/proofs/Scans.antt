-- What a scan of a list finds out: whether one passes a test, and how many do.
use Rattle.std.proofs.Common.{◌≡◌, ℕ, zero, suc, ◌+◌, ◌<◌, ◌≤◌, Bool, true, false, cond, List, [], ◌∷◌, length, get_or, take, is_some, Some, None, count_by, position, not, ltb, ◌||◌, sym, refl, ap, ◌∙◌, ⊎_elim, arith}
use Rattle.std.specs.List.{position_or_len}
use Rattle.std.proofs.lemmas.List.Sums.{sum_by-cons, count_by-le-length}
use Rattle.std.proofs.lemmas.Bool.{both_ways, false≢true, lt-ltb, or_cases, or_left, or_right}
use Rattle.ledger.specs.Ledger.{any}

abbrev one_if : Bool → ℕ
one_if b = cond b 1 0

less : (a b : ℕ) → ltb (1 + a) (suc b) ≡ ltb a b
less a b = grind arith

module _ {X : Type 0} (test : X → Bool) where
  -- what stands past the end does not pass
  pub any_here : (xs : List X) (k : ℕ) (d : X) → test d ≡ false → test (get_or xs k d) ≡ true → any test xs ≡ true
  any_here [] k d off on = absurd (both_ways (test d) off on)
  any_here (x ∷ xs) zero d off on = or_left (test x) (any test xs) on
  any_here (x ∷ xs) (suc k) d off on = or_right (test x) (any test xs) (any_here xs k d off on)

  pub any_place : (xs : List X) (d : X) → any test xs ≡ true → (k : ℕ) × (k < length xs) × (test (get_or xs k d) ≡ true)
  any_place [] d on = absurd (false≢true on)
  any_place (x ∷ xs) d on =
      ⊎_elim
      (λ here. (0, omega arith, here))
      (λ later. let p = any_place xs d later in (suc p.0, (let lt = p.1 in omega arith), p.2))
      (or_cases (test x) (any test xs) on)

  found_is : (xs : List X) → is_some (position test xs) ≡ ltb (position_or_len test xs) (length xs)
  found_is xs = elim (ltb (position_or_len test xs) (length xs)) as (λ b. is_some (cond b (Some (position_or_len test xs)) None) ≡ b) [ true ↦ refl | false ↦ refl ]

  -- a place is found where one passes
  pub found_any : (xs : List X) → is_some (position test xs) ≡ any test xs
  found_any [] = refl
  found_any (x ∷ xs) =
      found_is (x ∷ xs)
      ∙ elim (test x) as (λ b. ltb (cond (not b) (1 + position_or_len test xs) 0) (length (x ∷ xs)) ≡ (b || any test xs)) [
        | true ↦ lt-ltb 0 (length (x ∷ xs)) (omega arith)
        | false ↦ less (position_or_len test xs) (length xs) ∙ (sym (found_is xs) ∙ found_any xs)
      ]

  -- none passes from some place on
  pub any_front : (xs : List X) (n : ℕ) (d : X) → ((k : ℕ) → n ≤ k → test (get_or xs k d) ≡ false) → any test (take n xs) ≡ any test xs
  any_front [] zero d off = refl
  any_front [] (suc n) d off = refl
  any_front (x ∷ xs) zero d off = any_front xs 0 d (λ k le. off (suc k) (omega arith)) ∙ ap (λ b. b || any test xs) (sym (off 0 (omega arith)))
  any_front (x ∷ xs) (suc n) d off = ap (λ b. test x || b) (any_front xs n d (λ k le. off (suc k) (omega arith)))

  pub count_front : (xs : List X) (n : ℕ) (d : X) → ((k : ℕ) → n ≤ k → test (get_or xs k d) ≡ false) → count_by test (take n xs) ≡ count_by test xs
  count_front [] zero d off = refl
  count_front [] (suc n) d off = refl
  count_front (x ∷ xs) zero d off =
      let here : one_if (test x) ≡ 0 = ap one_if (off 0 (omega arith)) in
      let rest : 0 ≡ count_by test xs = count_front xs 0 d (λ k le. off (suc k) (omega arith)) in
      omega (arith, sum_by-cons (λ y. one_if (test y)) x xs)
  count_front (x ∷ xs) (suc n) d off =
      let rest = count_front xs n d (λ k le. off (suc k) (omega arith)) in
      omega (arith, sum_by-cons (λ y. one_if (test y)) x xs, sum_by-cons (λ y. one_if (test y)) x (take n xs))

-- a place is found where fewer pass than there are
pub found_spare : {X : Type 0} (test : X → Bool) (xs : List X) → is_some (position (λ x. not (test x)) xs) ≡ ltb (count_by test xs) (length xs)
found_spare test [] = refl
found_spare test (x ∷ xs) =
    let rest = sym (found_is (λ y. not (test y)) xs) ∙ found_spare test xs in
    let few = count_by-le-length test xs in
    found_is (λ y. not (test y)) (x ∷ xs)
    ∙ elim (test x) as (λ b. ltb (cond (not (not b)) (1 + position_or_len (λ y. not (test y)) xs) 0) (length (x ∷ xs)) ≡ ltb (one_if b + count_by test xs) (length (x ∷ xs))) [
      | true ↦ less (position_or_len (λ y. not (test y)) xs) (length xs) ∙ rest ∙ sym (less (count_by test xs) (length xs))
      | false ↦ lt-ltb 0 (length (x ∷ xs)) (omega arith) ∙ sym (lt-ltb (0 + count_by test xs) (length (x ∷ xs)) (omega arith))
    ]
    ∙ ap (λ n. ltb n (length (x ∷ xs))) (sym (sum_by-cons (λ y. one_if (test y)) x xs))
