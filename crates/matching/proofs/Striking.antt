-- The pairs of an input and a pin, one after the other, and those of them struck that a test tells.
use Rattle.std.proofs.Common.{◌≡◌, ℕ, ◌+◌, ◌<◌, ◌≤◌, Bool, true, false, ◌&&◌, ◌||◌, eqb, ltb, List, ap, ◌∙◌, ⊎_elim, arith}
use Rattle.std.proofs.lemmas.Bool.{cases_eq}
use Rattle.std.proofs.lemmas.Bool.Decides.{nat_tests}
use Rattle.matching.specs.Struck.{struck, Strike}

module _ (base test : ℕ → ℕ → Bool) where
  -- at input i and pin p, the pairs before that the test tells are struck beside those that were, and no other
  abbrev pub Upto : ℕ → ℕ → List (List Bool) → Type 0
  Upto i p strikes = (a b : ℕ) → struck strikes a b ≡ (base a b || ((ltb a i || (eqb a i && ltb b p)) && test a b))

  pub upto_none : (strikes : List (List Bool)) → ((a b : ℕ) → struck strikes a b ≡ base a b) → Upto 0 0 strikes
  upto_none strikes h a b = h a b ∙ grind (arith, nat_tests)

  pub upto_pass : (i p : ℕ) (strikes : List (List Bool)) → Upto i p strikes → test i p ≡ false → Upto i (p + 1) strikes
  upto_pass i p strikes h off a b = h a b ∙ grind (arith, nat_tests)

  pub upto_strike : (i p : ℕ) (before after : List (List Bool)) → Upto i p before → i < 10 → p < 10 → Strike before i p after → test i p ≡ true → Upto i (p + 1) after
  upto_strike i p before after h li lp s on a b =
      ⊎_elim
      (λ ei. ⊎_elim
      (λ ep. ap (λ x. struck after x b) ei ∙ ap (λ x. struck after i x) ep ∙ s.here li lp ∙ grind (arith, nat_tests))
      (λ np. s.elsewhere a b (λ t. np t.1) ∙ h a b ∙ grind (arith, nat_tests))
      (cases_eq b p))
      (λ ni. s.elsewhere a b (λ t. ni t.0) ∙ h a b ∙ grind (arith, nat_tests))
      (cases_eq a i)

  -- the test tells no pair past n inputs and m pins
  module _ (n m : ℕ) (within : (a b : ℕ) → test a b ≡ true → (a < n) × (b < m)) where
    pub upto_row : (i p : ℕ) (strikes : List (List Bool)) → Upto i p strikes → m ≤ p → Upto (i + 1) 0 strikes
    upto_row i p strikes h le a b = let w = within a b in h a b ∙ grind (arith, nat_tests)

    pub upto_all : (i : ℕ) (strikes : List (List Bool)) → Upto i 0 strikes → n ≤ i → (a b : ℕ) → struck strikes a b ≡ (base a b || test a b)
    upto_all i strikes h le a b = let w = within a b in h a b ∙ grind (arith, nat_tests)
