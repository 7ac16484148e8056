use Rattle.std.specs.Prelude.{◌≡◌, ℕ, ◌^◌, ◌<◌, Bool, if◌then◌else◌, ◌&&◌, List, [], map, length, ◌==◌, nat_le, nat_lt, slice_index, slice_index_or}
use Rattle.std.specs.List.{range_with_len}
use Rattle.lists.specs.declared.lists.Lists.{Lists}
use Rattle.tables.specs.Agreement.{Agree}

-- value n rows i p: the answer for input i of a table of n inputs, at place p
module _ {R : Type 0} (count : ℕ) (value : ℕ → List R → ℕ → ℕ → ℕ) where
  -- the list of input i: its answers at all places, in order
  abbrev pub list_of : ℕ → List R → ℕ → List ℕ
  list_of n rows i = map (value n rows i) (range_with_len 0 count)

  -- 0 where there is no such input or place
  abbrev pub given : ℕ → List R → ℕ → ℕ → ℕ
  given n rows i p = if nat_lt i n && nat_lt p count then value n rows i p else 0

  -- 0 also where the rows are no table of n inputs
  abbrev pub asked : ℕ → List R → ℕ → ℕ → ℕ
  asked n rows i p = if nat_le n 10 && length rows == 2 ^ n then given n rows i p else 0

  -- the lists of a table's inputs
  pub record GivesLists (n : ℕ) (rows : List R) (lists : Lists) : Type 0 where
    pub inputs : lists.inputs ≡ n
    pub places : lists.places ≡ count
    pub answers : (i p : ℕ) → i < n → slice_index (slice_index_or lists.answers i []) p ≡ given n rows i p
    pub wide : (i : ℕ) → i < n → length (slice_index_or lists.answers i []) ≡ 64

  -- the one law: where card and part agree under w, input i of the card and pin w(i) of the part have equal lists
  abbrev pub Lawful : (R → R → Bool) → Type 0
  Lawful same = (n : ℕ) (card part : List R) (w : ℕ → ℕ) → Agree same n w card part → (i p : ℕ) → i < n → p < count → value n card i p ≡ value n part (w i) p
