use Rattle.std.specs.Prelude.{ℕ, zero, suc, ◌*◌, Bool, if◌then◌else◌, List, [], ◌∷◌, ◌++◌, map, count_by, ◌==◌, nat_eq}
use Rattle.std.specs.List.{list_all}
use Rattle.lists.specs.Lists.{equal}

-- how often a list occurs
abbrev pub times : List ℕ → List (List ℕ) → ℕ
times x xs = count_by (equal x) xs

-- each list that occurs on either side occurs as often on both
abbrev pub level : List (List ℕ) → List (List ℕ) → Bool
level inputs pins = list_all (λ x. nat_eq (times x inputs) (times x pins)) (inputs ++ pins)

-- the lists that occur, each once
abbrev pub once : List (List ℕ) → List (List ℕ)
once [] = []
once (x ∷ xs) = if times x xs == 0 then x ∷ once xs else once xs

abbrev pub factorial : ℕ → ℕ
factorial zero = 1
factorial (suc n) = suc n * factorial n

abbrev pub product : List ℕ → ℕ
product [] = 1
product (x ∷ xs) = x * product xs

-- the product, over the lists that occur, of the factorial of how often, which is 1 where none occurs; 0 unless each
-- occurs as often on both sides
abbrev pub spread : List (List ℕ) → List (List ℕ) → ℕ
spread inputs pins = if level inputs pins then product (map (λ x. factorial (times x inputs)) (once inputs)) else 0
