use Rattle.std.specs.Prelude.{◌≡◌, ℕ, ◌<◌, Bool, true, false, ◌&&◌, List, [], ◌∷◌, map, take, ◌==◌, slice_index_or}
use Rattle.lists.specs.declared.lists.Lists.{Lists}

-- the lists of all inputs, in order
abbrev pub lists : Lists → List (List ℕ)
lists t = map (take t.places) (take t.inputs t.answers)

-- the list of input i; past the last input it is empty
abbrev pub list : Lists → ℕ → List ℕ
list t i = slice_index_or (lists t) i []

-- whether two lists are equal
abbrev pub equal : List ℕ → List ℕ → Bool
equal [] [] = true
equal [] (y ∷ ys) = false
equal (x ∷ xs) [] = false
equal (x ∷ xs) (y ∷ ys) = x == y && equal xs ys

-- w gives each of the first n inputs of the card a pin of the part with an equal list
abbrev pub Keeps : ℕ → Lists → Lists → (ℕ → ℕ) → Type 0
Keeps n card part w = (i : ℕ) → i < n → list card i ≡ list part (w i)
