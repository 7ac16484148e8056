use Rattle.std.proofs.Common.{◌≡◌, ℕ, ◌-◌, not, List, [], get_or, sum_by, count_by, ◌∙◌, arith, rules, tests}
use Rattle.std.specs.List.{range_with_len}
use Rattle.std.proofs.lemmas.Iterator.{YieldsList-from_range, YieldsList-from_map}
use Rattle.std.proofs.lemmas.Iterator.Consumers.{sum_by_from_yields_List, fits_by_from_yields_list}
use Rattle.std.proofs.lemmas.List.Sums.{sum_by-le, count_by-le-length}
use Rattle.lists.specs.Lists.{list, lists, equal}
use Rattle.lists.specs.Spread.{times}
use Rattle.lists.specs.declared.lists.Lists.{Lists}
use Rattle.lists.proofs.Rows.{length-lists, sum_from}
use Rattle.lists.proofs.Times.{times_others}
use Rattle.lists.proofs.striking.struck_count.Goals as goal

-- how many pins have another list than x
abbrev others : Lists → List ℕ → ℕ
others part x = count_by (λ y. not (equal x y)) (lists part)

others_is : (part : Lists) (x : List ℕ) (r : ℕ) → r ≡ part.inputs - times x (lists part) → r ≡ others part x
others_is part x r e = omega (arith, times_others x (lists part), length-lists part)

all_pairs : (card part : Lists) → sum_by (λ i. others part (list card i)) (range_with_len 0 card.inputs) ≡ sum_by (others part) (lists card)
all_pairs card part = sum_from (others part) [] (lists card) 0 card.inputs (omega (arith, length-lists card))

pub sum-requires-clause-fits : goal.sum-requires-clause-fits
sum-requires-clause-fits c =
    let card = c.args.card.now in
    let part = c.args.part.now in
    let few = sum_by-le (others part) 10 (lists card) (λ i d _. omega (arith, count_by-le-length (λ y. not (equal (get_or (lists card) i d) y)) (lists part), length-lists part)) in
    fits_by_from_yields_list _ _ c.map.result _
    (YieldsList-from_map _ (λ i. others part (list card i)) (YieldsList-from_range 0 card.inputs card.inputs (cc) (omega arith)) c.map.ensures.closure (λ i r q k. (search (rules, tests), others_is part (list card i) r (search (rules, tests)))))
    (omega (arith, few, length-lists card, all_pairs card part))

pub returns : goal.returns
returns c =
    let card = c.args.card.now in
    let part = c.args.part.now in
    sum_by_from_yields_List _ _ c.map.result c.sum.result c.sum.ensures.ran
    (YieldsList-from_map _ (λ i. others part (list card i)) (YieldsList-from_range 0 card.inputs card.inputs (cc) (omega arith)) c.map.ensures.closure (λ i r q k. (search (rules, tests), others_is part (list card i) r (search (rules, tests)))))
    ∙ all_pairs card part
