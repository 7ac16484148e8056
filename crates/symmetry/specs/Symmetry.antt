-- Which inputs of a table are symmetric, and the classes that they fall into.
use Rattle.std.specs.Prelude.{◌≡◌, ℕ, ◌*◌, ◌^◌, ◌<◌, ◌≤◌, Bool, true, if◌then◌else◌, List, length, ◌==◌, slice_index, slice_index_or}
use Rattle.tables.specs.Sums.{sum_to}
use Rattle.tables.specs.Agreement.{bit}

-- inputs i and k change places, and every other input keeps its own
abbrev pub swap : ℕ → ℕ → ℕ → ℕ
swap i k j = if j == i then k else (if j == k then i else j)

-- row r with the values of inputs i and k exchanged: bit i is bit k of r, bit k is bit i of r, and the others are r's
abbrev pub exchanged : ℕ → ℕ → ℕ → ℕ → ℕ
exchanged n i k r = sum_to n (λ j. bit (swap i k j) r * 2 ^ j)

module _ {R : Type 0} (same : R → R → Bool) (n : ℕ) (rows : List R) where
  -- every row is the same as the row with the values of i and k exchanged
  abbrev pub Symmetric : ℕ → ℕ → Type 0
  Symmetric i k = (r : ℕ) (d : R) → r < 2 ^ n → same (slice_index_or rows r d) (slice_index_or rows (exchanged n i k r) d) ≡ true

  -- c is the class of input i: the lowest input symmetric with it, itself counted
  pub record Class (i c : ℕ) : Type 0 where
    pub symmetric : Symmetric i c
    pub counted : c ≤ i
    pub lowest : (j : ℕ) → j < n → Symmetric i j → c ≤ j

  -- ten places: the class of each input, and then 255
  pub record Classes (places : List ℕ) : Type 0 where
    pub ten : length places ≡ 10
    pub classes : (i : ℕ) → i < n → Class i (slice_index places i)
    pub rest : (i : ℕ) → n ≤ i → i < 10 → slice_index places i ≡ 255
