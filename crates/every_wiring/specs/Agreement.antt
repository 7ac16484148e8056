-- When a card and a part agree, in this matcher's own words: a row is the number of what it does.
use Rattle.std.specs.Prelude.{◌≡◌, ℕ, ◌+◌, ◌*◌, ◌/◌, ◌%◌, ◌^◌, ◌<◌, List, [], ◌∷◌, length, slice_get}

-- the row in which the pin of each input has the value that the input has in this row
abbrev pub part_row : List ℕ → ℕ → ℕ
part_row [] row = 0
part_row (pin ∷ pins) row = row % 2 * 2 ^ pin + part_row pins (row / 2)

-- each row of the card does what the part does in the row that it is carried to
abbrev pub Agrees : List ℕ → List ℕ → List ℕ → Type 0
Agrees card part pins =
    (length card ≡ length part) × ((row : ℕ) → row < length card → slice_get part (part_row pins row) ≡ slice_get card row)
