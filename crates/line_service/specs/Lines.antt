-- The lines of some bytes.
use Rattle.std.specs.Prelude.{ℕ, List, [], ◌∷◌, ◌++◌, fold, take, if◌then◌else◌, ◌==◌}

-- the lines that are whole, each with its newline, and the bytes of the line that is begun
pub record Split : Type 0 where
  pub whole : List (List ℕ)
  pub begun : List ℕ

abbrev pub add : Split → ℕ → Split
add so byte =
    if byte == 10 then record { whole = so.whole ++ (so.begun ++ byte ∷ []) ∷ []; begun = [] }
    else record { whole = so.whole; begun = so.begun ++ byte ∷ [] }

abbrev pub split : List ℕ → Split
split bytes = fold add (record { whole = []; begun = [] }) bytes

-- a last line without a newline is a line
abbrev pub last : List ℕ → List (List ℕ)
last [] = []
last (byte ∷ bytes) = (byte ∷ bytes) ∷ []

abbrev pub lines : List ℕ → List (List ℕ)
lines bytes = (split bytes).whole ++ last (split bytes).begun

-- the same where of each line only so many bytes are kept
abbrev pub keep : ℕ → Split → ℕ → Split
keep most so byte =
    if byte == 10 then record { whole = so.whole ++ take most (so.begun ++ byte ∷ []) ∷ []; begun = [] }
    else record { whole = so.whole; begun = take most (so.begun ++ byte ∷ []) }

-- what is kept of some bytes that come after a begun line
abbrev pub kept : ℕ → (begun bytes : List ℕ) → Split
kept most begun bytes = fold (keep most) (record { whole = []; begun = begun }) bytes
