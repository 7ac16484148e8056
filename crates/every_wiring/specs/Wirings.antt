-- Every wiring, in this matcher's own words: a wiring is the list of its pins, one for each input.
use Rattle.std.specs.Prelude.{◌≡◌, ◌≢◌, ◌==◌, not, ℕ, zero, suc, ◌<◌, ◌⊎◌, List, [], ◌∷◌, ◌++◌, length, map, filter, All, AllPairs, Contains}
use Rattle.std.specs.List.{list_any}

-- the pins of the last k of n inputs: each below n, and none twice
pub record IsPartial (n k : ℕ) (pins : List ℕ) : Type 0 where
  pub whole : length pins ≡ k
  pub below : All (λ pin. pin < n) pins
  pub apart : AllPairs (λ p q. p ≢ q) pins

-- a wiring of n inputs has a pin for each
abbrev pub IsWiring : ℕ → List ℕ → Type 0
IsWiring n pins = IsPartial n n pins

-- dictionary order: the first pin in which they differ is lower
abbrev pub Before : List ℕ → List ℕ → Type 0
Before v [] = ⊥
Before [] (q ∷ qs) = Unit {0}
Before (p ∷ ps) (q ∷ qs) = (p < q) ⊎ ((p ≡ q) × Before ps qs)

-- every list of pins with P and no other, each before the next in dictionary order
pub record AreAll (P : List ℕ → Type 0) (lists : List (List ℕ)) : Type 0 where
  pub only : All P lists
  pub every : (pins : List ℕ) → P pins → Contains lists pins
  pub ordered : AllPairs Before lists

-- a pin before each of the lists that do not have it
abbrev pub longer_by : List (List ℕ) → ℕ → List (List ℕ)
longer_by lists p = map (λ pins. p ∷ pins) (filter (λ pins. not (list_any (λ q. q == p) pins)) lists)

-- the same with each pin below p
abbrev pub longer_to : List (List ℕ) → ℕ → List (List ℕ)
longer_to lists zero = []
longer_to lists (suc p) = longer_to lists p ++ longer_by lists p

-- the pins of the last k inputs, in every way
abbrev pub partial_to : ℕ → ℕ → List (List ℕ)
partial_to n zero = [] ∷ []
partial_to n (suc k) = longer_to (partial_to n k) n

abbrev pub wirings_to : ℕ → List (List ℕ)
wirings_to n = partial_to n n
