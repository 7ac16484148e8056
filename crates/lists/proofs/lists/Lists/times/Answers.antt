use Rattle.std.proofs.Common.{ℕ, ◌-◌, Bool, [], refl, ◌∙◌, arith, rules, tests}
use Rattle.std.specs.List.{range_with_len}
use Rattle.std.proofs.lemmas.Iterator.{YieldsList-from_range}
use Rattle.std.proofs.lemmas.Iterator.Consumers.{YieldsList-from_filter, count_from_yields_List}
use Rattle.std.proofs.lemmas.List.Sums.{length-filter}
use Rattle.lists.specs.Lists.{list, lists, equal}
use Rattle.lists.proofs.Rows.{length-lists, sum_from}
use Rattle.lists.proofs.Times.{equal_from_eq, one}
use Rattle.lists.proofs.lists.Lists.times.Goals as goal

pub returns-clause-count : goal.returns-clause-count
returns-clause-count c =
    let x = c.args.sought.now in
    let t = c.args.self.now in
    let from = c.args.from in
    let held : ℕ → Bool = λ i. equal x (list t i) in
    count_from_yields_List c.filter.result c.count.result c.count.ensures.ran
    (YieldsList-from_filter _ held (YieldsList-from_range from t.inputs (t.inputs - from) (cc) refl) c.filter.ensures.closure
    (λ i r q k. (search (rules, tests), equal_from_eq x (list t i) (list t i) r (search (rules, tests)) refl)))
    ∙ length-filter held (range_with_len from (t.inputs - from))
    ∙ sum_from (one x) [] (lists t) from (t.inputs - from) (omega (arith, length-lists t))
