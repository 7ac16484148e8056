-- What stands in a list that is made of others.
use Rattle.std.proofs.Common.{◌≡◌, ℕ, zero, suc, ◌*◌, ◌<◌, ◌≤◌, Bool, true, false, cond, List, [], ◌∷◌, ◌++◌, map, length, get_or, sum_by, filter, sym, refl, ap, ◌∙◌, subst, inl, inr, ⊎_elim, add-mul, arith}
use Rattle.std.specs.List.{flat_map, AllByRecursion as All}
use Rattle.std.proofs.lemmas.List.{length-append}
use Rattle.std.proofs.lemmas.List.Sums.{sum_by-cons}
use Rattle.std.proofs.lemmas.Bool.{cases_Bool, cond-true, cond-false}
use Rattle.lists.specs.Counting.{Mem}

module _ {X : Type 0} where
  pub mem-get_or : (xs : List X) (i : ℕ) (d : X) → i < length xs → Mem (get_or xs i d) xs
  mem-get_or [] i d lt = absurd (omega arith)
  mem-get_or (x ∷ xs) zero d lt = inl refl
  mem-get_or (x ∷ xs) (suc i) d lt = inr (mem-get_or xs i d (omega arith))

  pub mem_all : (P : X → Type 0) (x : X) (xs : List X) → Mem x xs → All P xs → P x
  mem_all P x [] m all = absurd m
  mem_all P x (y ∷ ys) (inl e) all = subst P (sym e) all.0
  mem_all P x (y ∷ ys) (inr m) all = mem_all P x ys m all.1

  pub mem_sum : (f : X → ℕ) (x : X) (xs : List X) → Mem x xs → f x ≤ sum_by f xs
  mem_sum f x [] m = absurd m
  mem_sum f x (y ∷ ys) (inl e) = omega (arith, sum_by-cons f y ys, ap f e)
  mem_sum f x (y ∷ ys) (inr m) = omega (arith, sum_by-cons f y ys, mem_sum f x ys m)

  mem_append_left : (x : X) (xs ys : List X) → Mem x xs → Mem x (xs ++ ys)
  mem_append_left x [] ys m = absurd m
  mem_append_left x (y ∷ xs) ys (inl e) = inl e
  mem_append_left x (y ∷ xs) ys (inr m) = inr (mem_append_left x xs ys m)

  mem_append_right : (x : X) (xs ys : List X) → Mem x ys → Mem x (xs ++ ys)
  mem_append_right x [] ys m = m
  mem_append_right x (y ∷ xs) ys m = inr (mem_append_right x xs ys m)

  pub mem_map : {Y : Type 0} (f : Y → X) (y : Y) (ys : List Y) → Mem y ys → Mem (f y) (map f ys)
  mem_map f y [] m = absurd m
  mem_map f y (z ∷ ys) (inl e) = inl (ap f e)
  mem_map f y (z ∷ ys) (inr m) = inr (mem_map f y ys m)

  pub mem_joined : {Y : Type 0} (f : Y → List X) (x : X) (y : Y) (ys : List Y) → Mem y ys → Mem x (f y) → Mem x (flat_map f ys)
  mem_joined f x y [] m here = absurd m
  mem_joined f x y (z ∷ ys) (inl e) here = mem_append_left x (f z) (flat_map f ys) (subst (λ u. Mem x (f u)) e here)
  mem_joined f x y (z ∷ ys) (inr m) here = mem_append_right x (f z) (flat_map f ys) (mem_joined f x y ys m here)

  pub length-joined : {Y : Type 0} (f : Y → List X) (k : ℕ) (ys : List Y) → ((y : Y) → Mem y ys → length (f y) ≤ k) → length (flat_map f ys) ≤ length ys * k
  length-joined f k [] each = omega arith
  length-joined f k (y ∷ ys) each =
      let rest = length-joined f k ys (λ z m. each z (inr m)) in
      omega (arith, length-append (f y) (flat_map f ys), each y (inl refl), add-mul 1 (length ys) k)

  -- what a filter keeps
  module _ (test : X → Bool) where
    pub mem_kept : (x : X) (xs : List X) → Mem x xs → test x ≡ true → Mem x (filter test xs)
    mem_kept x [] m on = absurd m
    mem_kept x (y ∷ ys) (inl e) on = subst (Mem x) (sym (cond-true (test y) _ _ (ap test (sym e) ∙ on))) (inl e)
    mem_kept x (y ∷ ys) (inr m) on =
        let rest = mem_kept x ys m on in
        elim (test y) as (λ b. Mem x (cond b (y ∷ filter test ys) (filter test ys))) [ true ↦ inr rest | false ↦ rest ]

    pub kept_mem : (x : X) (xs : List X) → Mem x (filter test xs) → Mem x xs × (test x ≡ true)
    kept_mem x [] m = absurd m
    kept_mem x (y ∷ ys) m =
        let below : Mem x (filter test ys) → Mem x (y ∷ ys) × (test x ≡ true) = λ k. let rest = kept_mem x ys k in (inr rest.0, rest.1) in
        ⊎_elim
        (λ on. ⊎_elim (λ e. (inl e, ap test e ∙ on)) below (subst (Mem x) (cond-true (test y) _ _ on) m))
        (λ off. below (subst (Mem x) (cond-false (test y) _ _ off) m))
        (cases_Bool (test y))
