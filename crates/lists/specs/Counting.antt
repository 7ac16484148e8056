use Rattle.std.specs.Prelude.{◌≡◌, ℕ, ◌≤◌, ◌⊎◌, List, [], ◌∷◌, length}
use Rattle.tables.specs.Wirings.{pin}

-- x stands in a list
abbrev pub Mem : {X : Type 0} → X → List X → Type 0
Mem x [] = ⊥
Mem x (y ∷ ys) = (x ≡ y) ⊎ Mem x ys

-- none stands twice
abbrev pub Apart : {X : Type 0} → List X → Type 0
Apart [] = Unit {0}
Apart (x ∷ xs) = (Mem x xs → ⊥) × Apart xs

-- the wirings for n inputs of which P holds number at most k: no more can be listed, each as its n pins and none twice
abbrev pub AtMost : ((ℕ → ℕ) → Type 0) → ℕ → ℕ → Type 0
AtMost P n k = (ws : List (List ℕ)) → Apart ws → ((w : List ℕ) → Mem w ws → (length w ≡ n) × P (pin w)) → length ws ≤ k
