-- Tests of every number below a bound, and of every list of pins below a bound.
use Rattle.std.proofs.Common.{◌≡◌, ℕ, zero, suc, ◌<◌, Bool, true, false, not, ◌&&◌, List, [], ◌∷◌, sym, refl, ap, ◌∙◌, ⊎_elim, suc-le-suc, le_of_suc-le-suc, arith}
use Rattle.std.proofs.lemmas.Bool.{cases_eq, and_parts, and_from, not-true}
use Rattle.tables.specs.Wirings.{pin, Alike}

-- a test at each number below n; what a `let` binds is computed only where it is read
abbrev pub all_below : ℕ → (ℕ → Bool) → Bool
all_below zero f = true
all_below (suc n) f = let before = all_below n f in f n && before

pub all_below_at : (n : ℕ) (f : ℕ → Bool) → all_below n f ≡ true → (k : ℕ) → k < n → f k ≡ true
all_below_at zero f t k lt = absurd (omega arith)
all_below_at (suc n) f t k lt =
    let both = and_parts (f n) (all_below n f) t in
    ⊎_elim (λ e. ap f e ∙ both.0) (λ ne. all_below_at n f both.1 k (omega arith)) (cases_eq k n)

pub all_below_from : (n : ℕ) (f : ℕ → Bool) → ((k : ℕ) → k < n → f k ≡ true) → all_below n f ≡ true
all_below_from zero f h = refl
all_below_from (suc n) f h = and_from (f n) (all_below n f) (h n (omega arith)) (all_below_from n f (λ k lt. h k (omega arith)))

-- the first k pins of v, as a list
abbrev pub first : ℕ → (ℕ → ℕ) → List ℕ
first zero v = []
first (suc k) v = v 0 ∷ first k (λ i. v (suc i))

pub first_alike : (k : ℕ) (v : ℕ → ℕ) → Alike k v (pin (first k v))
first_alike zero v i lt = absurd (omega arith)
first_alike (suc k) v zero lt = refl
first_alike (suc k) v (suc i) lt = first_alike k (λ j. v (suc j)) i (le_of_suc-le-suc lt)

-- a test of each list of k pins below n
abbrev pub all_lists : ℕ → ℕ → (List ℕ → Bool) → Bool
all_lists n zero f = f []
all_lists n (suc k) f = all_below n (λ p. all_lists n k (λ ps. f (p ∷ ps)))

pub all_lists_at : (n k : ℕ) (f : List ℕ → Bool) → all_lists n k f ≡ true → (v : ℕ → ℕ) → ((i : ℕ) → i < k → v i < n) → f (first k v) ≡ true
all_lists_at n zero f t v low = t
all_lists_at n (suc k) f t v low =
    all_lists_at n k (λ ps. f (v 0 ∷ ps)) (all_below_at n (λ p. all_lists n k (λ ps. f (p ∷ ps))) t (v 0) (low 0 (omega arith))) (λ i. v (suc i)) (λ i lt. low (suc i) (suc-le-suc lt))

-- two tests have one answer
abbrev pub same_bool : Bool → Bool → Bool
same_bool true b = b
same_bool false b = not b

pub same_bool_eq : (a b : Bool) → same_bool a b ≡ true → a ≡ b
same_bool_eq true b t = sym t
same_bool_eq false b t = sym (not-true b t)
