-- What a wired sample reads.
use Rattle.std.specs.Prelude.{◌≡◌, ℕ, ◌^◌, ◌<◌, List, length, slice_index_or}
use Rattle.tables.specs.Agreement.{Carried}

-- each reading is what the part has in the row that the card's row is carried to
pub record IsWired {R : Type 0} (n : ℕ) (w : ℕ → ℕ) (part readings : List R) : Type 0 where
  pub count : length readings ≡ 2 ^ n
  pub rows : (r : ℕ) (d : R) → r < 2 ^ n → (q : ℕ) × (q < 2 ^ n) × Carried n w r q × (slice_index_or readings r d ≡ slice_index_or part q d)
