use Rattle.std.proofs.Common.{◌≡◌, ℕ, ◌+◌, ◌*◌, ◌≤◌, length, drop, sym, refl, ap, ◌∙◌, mul-one, arith, below_more}
use Rattle.std.proofs.lemmas.List.{at_drop_all}
use Rattle.tables.specs.Wirings.{Wires}
use Rattle.lists.specs.Lists.{list, lists, Keeps}
use Rattle.lists.specs.Spread.{times, spread}
use Rattle.lists.specs.Counting.{AtMost}
use Rattle.lists.specs.declared.lists.Lists.{Lists}
use Rattle.lists.proofs.Rows.{length-lists}
use Rattle.lists.proofs.Times.{level_length, level_from_inputs}
use Rattle.lists.proofs.Running.{running, running_fits, running_more, spread_running, spread_zero}
use Rattle.lists.proofs.Ways.{spread_bound}
use Rattle.lists.proofs.spreading.spread.Goals as goal

bound : (card part : Lists) (r : ℕ) → r ≡ spread (lists card) (lists part) → (n : ℕ) → card.inputs ≡ n → part.inputs ≡ n → AtMost (λ w. Wires n w × Keeps n card part w) n r
bound card part r e n inputs pins ws a each = omega (arith, spread_bound card part n inputs pins ws a each)

pub returns-then-card-part : goal.returns-then-card-part
returns-then-card-part c =
    let card = c.args.card.now in
    let part = c.args.part.now in
    let e = sym (spread_zero (lists card) (lists part) (λ h. omega (arith, length-lists card, length-lists part, level_length (lists card) (lists part) h, c.if-card-part.true))) in
    record { formula = e; uneven = λ _. refl; bound = bound card part 0 e }

pub returns-then-times : goal.returns-then-times
returns-then-times c =
    let card = c.args.card.now in
    let part = c.args.part.now in
    let e = sym (spread_zero (lists card) (lists part) (λ h. omega (arith, c.times.ensures.count, h c.list-list.result.now, c.times-in-loop-input.ensures.count, c.if-times.true))) in
    record { formula = e; uneven = λ _. refl; bound = bound card part 0 e }

-- the turn of an input
later : (c : goal.After-times-later) → c.times-later.result ≡ times (list c.args.card.now c.loop-input.input) (drop (c.loop-input.input + 1) (lists c.args.card.now))
later c = c.times-later.ensures.count ∙ ap (λ x. times x (drop (c.loop-input.input + 1) (lists c.args.card.now))) c.list-list.ensures

more : (c : goal.After-times-later) → c.loop-input.product * (1 + c.times-later.result) * running (drop (c.loop-input.input + 1) (lists c.args.card.now)) ≡ running (lists c.args.card.now)
more c = running_more (lists c.args.card.now) c.loop-input.input c.loop-input.product c.times-later.result (omega (arith, length-lists c.args.card.now)) (later c) c.loop-input.invariant.0

pub overflow_mul-product : goal.overflow_mul-product
overflow_mul-product c =
    let xs = lists c.args.card.now in
    omega (arith, running_fits xs (drop (c.loop-input.input + 1) xs) (c.loop-input.product * (1 + c.times-later.result)) (omega (arith, length-lists c.args.card.now)) (more c))

pub loop-input-preserved : goal.loop-input-preserved
loop-input-preserved c = (
  more c,
  below_more _ _ c.loop-input.invariant.1
      (ap (λ x. times x (lists c.args.card.now)) (sym c.list-list.ensures) ∙ sym c.times.ensures.count ∙ c.if-times.false
      ∙ c.times-in-loop-input.ensures.count ∙ ap (λ x. times x (lists c.args.part.now)) c.list-list.ensures),
)

pub returns : goal.returns
returns c =
    let card = c.args.card.now in
    let part = c.args.part.now in
    let xs = lists card in
    let product = c.loop-input.product in
    let done : length xs ≤ c.loop-input.input = omega (arith, length-lists card, c.loop-input-test.false) in
    let level = level_from_inputs xs (lists part) (omega (arith, length-lists card, length-lists part, c.if-card-part.false)) (λ i li. c.loop-input.invariant.1 i (omega arith)) in
    let e : product ≡ spread xs (lists part) =
    sym (mul-one product) ∙ ap (λ n. product * n) (sym (at_drop_all running xs c.loop-input.input done)) ∙ c.loop-input.invariant.0 ∙ sym (spread_running xs (lists part) level) in
    record { formula = e; uneven = λ ne. absurd (ne c.if-card-part.false); bound = bound card part product e }
