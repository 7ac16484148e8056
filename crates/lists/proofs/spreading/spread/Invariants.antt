use Rattle.std.proofs.Common.{◌≡◌, ℕ, ◌*◌, ◌<◌, drop}
use Rattle.lists.specs.Lists.{list, lists}
use Rattle.lists.specs.Spread.{times}
use Rattle.lists.proofs.Running.{running}
use Rattle.lists.proofs.spreading.spread.Given as goal

abbrev pub invariant-loop-input : goal.invariant-loop-input
invariant-loop-input l =
    (l.product * running (drop l.input (lists l.card)) ≡ running (lists l.card))
    × ((i : ℕ) → i < l.input → times (list l.card i) (lists l.card) ≡ times (list l.card i) (lists l.part))
