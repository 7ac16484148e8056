-- Lists that are written where they lie.
use Rattle.std.specs.Prelude.{◌≡◌, ℕ, ◌-◌, ◌<◌, ◌≤◌, List, [], length, slice_index, slice_index_or}

-- a list of 64, which holds 0 from a place on
pub record Free (from : ℕ) (list : List ℕ) : Type 0 where
  pub len : length list ≡ 64
  pub blank : (p : ℕ) → from ≤ p → slice_index list p ≡ 0

-- the list is as it was before a place, and from there on it has these answers
pub record Appended (from : ℕ) (says : ℕ → ℕ) (old new : List ℕ) : Type 0 where
  pub len : length new ≡ length old
  pub before : (p : ℕ) → p < from → slice_index new p ≡ slice_index old p
  pub after : (p : ℕ) → from ≤ p → p < 64 → slice_index new p ≡ says (p - from)

-- the same of the first n lists
abbrev pub AllFree : ℕ → ℕ → List (List ℕ) → Type 0
AllFree n from lists = (i : ℕ) → i < n → Free from (slice_index_or lists i [])

abbrev pub Written : ℕ → ℕ → (ℕ → ℕ → ℕ) → List (List ℕ) → List (List ℕ) → Type 0
Written n from says old new = (i : ℕ) → i < n → Appended from (says i) (slice_index_or old i []) (slice_index_or new i [])
