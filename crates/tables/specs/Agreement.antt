use Rattle.std.specs.Prelude.{◌≡◌, ℕ, ◌/◌, ◌%◌, ◌^◌, ◌<◌, Bool, true, List, length, slice_index_or}
use Rattle.tables.specs.Wirings.{Wires}

-- bit i of r: the value of input i in row r
abbrev pub bit : ℕ → ℕ → ℕ
bit i r = r / (2 ^ i) % 2

-- w carries card row r to part row q: pin w(i) has in q the value that input i has in r
abbrev pub Carried : ℕ → (ℕ → ℕ) → ℕ → ℕ → Type 0
Carried n w r q = (i : ℕ) → i < n → bit (w i) q ≡ bit i r

-- card and part agree under w: both have n inputs, and each card row is the same as the part row that it is carried to
pub record Agree {R : Type 0} (same : R → R → Bool) (n : ℕ) (w : ℕ → ℕ) (card part : List R) : Type 0 where
  pub wires : Wires n w
  pub card_rows : length card ≡ 2 ^ n
  pub part_rows : length part ≡ 2 ^ n
  pub rows : (r q : ℕ) (d : R) → r < 2 ^ n → q < 2 ^ n → Carried n w r q → same (slice_index_or card r d) (slice_index_or part q d) ≡ true
