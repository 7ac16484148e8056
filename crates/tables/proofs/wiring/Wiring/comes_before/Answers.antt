use Rattle.std.proofs.Common.{◌≡◌, ◌≤◌, length, take, arith, rules}
use Rattle.tables.proofs.Dictionary.{less, before_from, before_to}
use Rattle.tables.proofs.wiring.Wiring.comes_before.Goals as goal

pub returns-then-self-other : goal.returns-then-self-other
returns-then-self-other c =
    let v = c.args.self.now in
    let w = c.args.other.now in
    let n = v.inputs in
    let inputs : n ≡ w.inputs = c.if-self-other.true in
    let few : n ≤ length v.pins = omega (arith, v.few, v.whole) in
    let few' : n ≤ length w.pins = omega (arith, inputs, w.few, w.whole) in
    let tested : c.lt.result ≡ less (take n v.pins) (take n w.pins) = search rules in
    ((λ t. (inputs, before_from n v.pins w.pins few few' (rw (← tested) t))), (λ b. rw tested (before_to n v.pins w.pins few few' b.1)))
