use Rattle.std.proofs.Common.{rules, ◌≡◌, false}
use Rattle.matching.specs.Struck.{struck}
use Rattle.matching.proofs.Choosing.{in_part, placed, differs_barred}
use Rattle.matching.proofs.search.Search.place.Goals as goal
use Rattle.matching.proofs.search.Search.place.Goals.{then-is_struck-via-then-is_struck, then-is_struck-via-else-is_struck+then-not-takes, then-is_struck-via-else-is_struck+else-not-takes+then-not-settle}

pub settle-requires-clause-targets : goal.settle-requires-clause-targets
settle-requires-clause-targets g c = rw c.len-input.ensures (in_part c.requires.begun c.args.pin (c.takes.ensures.0 c.if-not-takes.false))

pub returns-then-is_struck-clause-answer : goal.returns-then-is_struck-clause-answer
returns-then-is_struck-clause-answer g c = elim c.then-is_struck.branch [
  | then-is_struck-via-then-is_struck w ↦ search rules
  | then-is_struck-via-else-is_struck+then-not-takes w ↦ search rules
  | then-is_struck-via-else-is_struck+else-not-takes+then-not-settle w ↦
      differs_barred c.requires.begun g.met.R.RowKind.laws.alike c.args.pin c.requires.open (rw c.len-input.ensures at (rw w.if-not-settle.true at w.settle.ensures.answer))
]

pub returns-clause-answer : goal.returns-clause-answer
returns-clause-answer g c =
    let self = c.args.self.now in
    let free : struck self.strikes.now.struck c.args.begun.now.len c.args.pin ≡ false = cc in
    placed c.requires.begun c.args.pin (c.takes.ensures.0 c.if-not-takes.false) free c.settle.new.self
    (rw c.len-input.ensures at c.settle.ensures.same) (rw c.len-input.ensures at (rw c.if-not-settle.false at c.settle.ensures.answer)) c.with.result c.with.ensures
