use Rattle.std.specs.Prelude.{ℕ, Bool, not, ◌&&◌, List, map, nat_lt}
use Rattle.std.specs.List.{range_with_len}
use Rattle.lists.specs.Lists.{equal}
use Rattle.signatures.specs.Law.{list_of}

-- the lists of all inputs of a table, in order
abbrev pub all_lists : {R : Type 0} → ℕ → (ℕ → List R → ℕ → ℕ → ℕ) → ℕ → List R → List (List ℕ)
all_lists count value n rows = map (list_of count value n rows) (range_with_len 0 n)

-- whether the card has an input i and the part a pin p, and their lists are unequal
abbrev pub tells_apart : ℕ → ℕ → (ℕ → List ℕ) → (ℕ → List ℕ) → ℕ → ℕ → Bool
tells_apart inputs pins input_list pin_list i p = nat_lt i inputs && nat_lt p pins && not (equal (input_list i) (pin_list p))
