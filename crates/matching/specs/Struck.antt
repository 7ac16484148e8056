use Rattle.std.specs.Prelude.{◌≡◌, ℕ, ◌<◌, ◌≤◌, Bool, true, false, ◌⊎◌, List, [], slice_index_or}

-- whether the pair of input i and pin p is struck
abbrev pub struck : List (List Bool) → ℕ → ℕ → Bool
struck strikes i p = slice_index_or (slice_index_or strikes i []) p false

-- one pair more is struck, if there is such a pair, and nothing else changes
pub record Strike (before : List (List Bool)) (input pin : ℕ) (after : List (List Bool)) : Type 0 where
  pub here : input < 10 → pin < 10 → struck after input pin ≡ true
  pub elsewhere : (i p : ℕ) → ((i ≡ input) × (p ≡ pin) → ⊥) → struck after i p ≡ struck before i p
  pub no_pair : (10 ≤ input) ⊎ (10 ≤ pin) → after ≡ before

-- w gives none of the first k inputs a pin that is struck for it
abbrev pub Spared : List (List Bool) → ℕ → (ℕ → ℕ) → Type 0
Spared strikes k w = (i : ℕ) → i < k → struck strikes i (w i) ≡ false

-- of n inputs and pins, input k is struck with every pin, or pin k with every input: so every wiring uses a struck pair
abbrev pub LeftOut : List (List Bool) → ℕ → ℕ → Type 0
LeftOut strikes n k =
    ((p : ℕ) → p < n → struck strikes k p ≡ true) ⊎ ((i : ℕ) → i < n → struck strikes i k ≡ true)
