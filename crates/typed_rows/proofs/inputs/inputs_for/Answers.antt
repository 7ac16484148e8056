use Rattle.std.proofs.Common.{rules, ℕ, ◌^◌, ◌<◌, ◌≤◌}
use Rattle.std.specs.Option.{MatchOption}
use Rattle.std.proofs.lemmas.Iterator.{first_from_Range}
use borrow.Author.Tests.{tests}
use Rattle.typed_rows.proofs.inputs.inputs_for.Goals as goal

-- each number below the answer gives too few rows, and where there is none, each below eleven
first : (c : goal.After-find) → MatchOption c.find.result ((k : ℕ) → 0 ≤ k → k < 11 → k < 11 → 2 ^ k < c.args.rows) (λ n. (0 ≤ n) × (n < 11) × (n < 11 → c.args.rows ≤ 2 ^ n) × ((k : ℕ) → 0 ≤ k → k < n → k < 11 → 2 ^ k < c.args.rows))
first c = first_from_Range _ _ _ c.find.result (λ n. n < 11 → c.args.rows ≤ 2 ^ n) (λ n. n < 11 → 2 ^ n < c.args.rows) c.find.ensures.ran (λ n q k lt. search (rules, tests)) (λ n q k. (search (rules, tests), λ lt. search (rules, tests)))

pub returns-clause-least : goal.returns-clause-least
returns-clause-least c = search (rules, first c)
