-- The lists of the inputs, by number.
use Rattle.std.proofs.Common.{◌≡◌, ℕ, zero, suc, ◌+◌, ◌-◌, ◌<◌, List, [], length, get_or, take, drop, sum_by, sym, ap, ◌∙◌, arith}
use Rattle.std.specs.List.{range_with_len}
use Rattle.std.proofs.lemmas.List.{length-map, length-take-le, get_or-map, get_or-take, at_drop_all}
use Rattle.std.proofs.lemmas.List.Sums.{sum_by-cons, sum_by-drop_more}
use Rattle.lists.specs.Lists.{list, lists}
use Rattle.lists.specs.declared.lists.Lists.{Lists}

pub length-lists : (t : Lists) → length (lists t) ≡ t.inputs
length-lists t = length-map (take t.inputs t.answers) (take t.places) ∙ length-take-le t.inputs t.answers (omega arith)

pub list_here : (t : Lists) (i : ℕ) → i < t.inputs → list t i ≡ take t.places (get_or t.answers i [])
list_here t i lt =
    let within : i < length (take t.inputs t.answers) = omega (arith, length-take-le t.inputs t.answers (omega arith)) in
    get_or-map (take t.places) (take t.inputs t.answers) i [] [] within ∙ ap (take t.places) (get_or-take t.inputs t.answers i [] lt)

-- a sum over the numbers from a on is a sum over what stands there
pub sum_from : {X : Type 0} (f : X → ℕ) (d : X) (xs : List X) (a n : ℕ) → length xs - a ≡ n → sum_by (λ i. f (get_or xs i d)) (range_with_len a n) ≡ sum_by f (drop a xs)
sum_from f d xs a zero e = sym (at_drop_all (sum_by f) xs a (omega arith))
sum_from f d xs a (suc n) e =
    sum_by-cons (λ i. f (get_or xs i d)) a (range_with_len (a + 1) n) ∙ ap (λ k. f (get_or xs a d) + k) (sum_from f d xs (a + 1) n (omega arith)) ∙ sym (sum_by-drop_more f xs a d (omega arith))
