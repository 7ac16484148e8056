use Rattle.std.specs.Prelude.{ℕ, Bool, not, ◌&&◌, List, sum_by, count_by, nat_lt}
use Rattle.lists.specs.Lists.{list, equal}
use Rattle.lists.specs.declared.lists.Lists.{Lists}

-- whether the card has an input i, the part has a pin p, and their lists are unequal
abbrev pub unequal : Lists → Lists → ℕ → ℕ → Bool
unequal card part i p = nat_lt i card.inputs && nat_lt p part.inputs && not (equal (list card i) (list part p))

-- how many of the pairs of an input and a pin have unequal lists
abbrev pub struck_pairs : List (List ℕ) → List (List ℕ) → ℕ
struck_pairs inputs pins = sum_by (λ x. count_by (λ y. not (equal x y)) pins) inputs
