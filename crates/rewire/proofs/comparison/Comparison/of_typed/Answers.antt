use Rattle.std.proofs.Common.{rules}
use Rattle.rewire.proofs.comparison.Comparison.of_typed.Goals as goal

pub returns-clause-compared : goal.returns-clause-compared
returns-clause-compared g c = (c.in_ok-card.card, c.in_ok-part.part, search rules, search rules, c.of.ensures)
