-- Lists of pins compare as dictionary order does.
use Rattle.std.proofs.Common.{◌≡◌, ℕ, ◌<◌, ◌≤◌, Bool, true, false, List, [], ◌∷◌, length, take, Some, zero, suc, refl, sym, ap, ◌∙◌, arith, Ordering}
use Rattle.std.specs.Ordering.{nat_cmp, is_lt, is_some_and, partial_ordering_then}
use Rattle.std.specs.Cmp.Lexicographic.{slice_partial_cmp}
use Rattle.std.proofs.lemmas.Cmp.{ranked, by_ranked}
use Rattle.tables.specs.Wirings.{pin, Alike, Before}

-- whether xs is the lesser
abbrev pub less : List ℕ → List ℕ → Bool
less xs ys = is_some_and is_lt (slice_partial_cmp (λ x y. Some (nat_cmp x y)) xs ys)

-- whether it is where the first items compare so
by_first : List ℕ → List ℕ → Ordering → Bool
by_first xs ys first = is_some_and is_lt (partial_ordering_then (Some first) (slice_partial_cmp (λ x y. Some (nat_cmp x y)) xs ys))

one_more : (k x y : ℕ) (xs ys : List ℕ) → x ≡ y → Alike k (pin xs) (pin ys) → Alike (suc k) (pin (x ∷ xs)) (pin (y ∷ ys))
one_more k x y xs ys e alike zero li = e
one_more k x y xs ys e alike (suc i) li = alike i (omega arith)

-- the first n items of lists that are long enough
pub before_from : (n : ℕ) (xs ys : List ℕ) → n ≤ length xs → n ≤ length ys → less (take n xs) (take n ys) ≡ true → Before n (pin xs) (pin ys)
unfolding by_first
before_from zero xs ys lx ly t = absurd (cc)
before_from (suc n) [] ys lx ly t = absurd (omega arith)
before_from (suc n) (x ∷ xs) [] lx ly t = absurd (omega arith)
before_from (suc n) (x ∷ xs) (y ∷ ys) lx ly t =
    by_ranked (x < y) (x ≡ y) (y < x) (nat_cmp x y) (ranked x y (nat_cmp x y) refl)
    (λ o lt. (0, omega arith, (λ i li. absurd (omega arith)), lt))
    (λ o e.
    let (k, lk, alike, lt) = before_from n xs ys (omega arith) (omega arith) (sym (ap (by_first (take n xs) (take n ys)) o) ∙ t) in
    (suc k, omega arith, one_more k x y xs ys e alike, lt))
    (λ o gt. let f : false ≡ true = sym (ap (by_first (take n xs) (take n ys)) o) ∙ t in absurd (cc))

pub before_to : (n : ℕ) (xs ys : List ℕ) → n ≤ length xs → n ≤ length ys → Before n (pin xs) (pin ys) → less (take n xs) (take n ys) ≡ true
unfolding by_first
before_to zero xs ys lx ly (k, lk, alike, lt) = absurd (omega arith)
before_to (suc n) [] ys lx ly b = absurd (omega arith)
before_to (suc n) (x ∷ xs) [] lx ly b = absurd (omega arith)
before_to (suc n) (x ∷ xs) (y ∷ ys) lx ly (zero, lk, alike, lt) =
    by_ranked (x < y) (x ≡ y) (y < x) (nat_cmp x y) (ranked x y (nat_cmp x y) refl)
    (λ o _. ap (by_first (take n xs) (take n ys)) o)
    (λ o e. absurd (omega arith))
    (λ o gt. absurd (omega arith))
before_to (suc n) (x ∷ xs) (y ∷ ys) lx ly (suc k, lk, alike, lt) =
    let e : x ≡ y = alike 0 (omega arith) in
    by_ranked (x < y) (x ≡ y) (y < x) (nat_cmp x y) (ranked x y (nat_cmp x y) refl)
    (λ o _. ap (by_first (take n xs) (take n ys)) o)
    (λ o _. ap (by_first (take n xs) (take n ys)) o ∙ before_to n xs ys (omega arith) (omega arith) (k, omega arith, (λ i li. alike (suc i) (omega arith)), lt))
    (λ o gt. absurd (omega arith))
