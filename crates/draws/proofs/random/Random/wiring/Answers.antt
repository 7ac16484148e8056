use Rattle.std.proofs.Common.{◌≡◌, ℕ, suc, ◌+◌, ◌-◌, ◌<◌, List, ap, ◌∙◌, arith}
use Rattle.std.specs.Fn.{iterate}
use Rattle.std.specs.List.{SwappedAt}
use Rattle.tables.specs.Wirings.{pin, Wires}
use Rattle.draws.specs.Draws.{next}
use Rattle.draws.proofs.random.Random.wiring.Goals as goal

-- exchanging two pins of a wiring leaves a wiring
wires_swapped : (n : ℕ) (from to : List ℕ) (i j : ℕ) → i < n → j < n → SwappedAt from to i j → Wires n (pin from) → Wires n (pin to)
wires_swapped n from to i j li lj x h = (
  (λ k lk. grind (arith, x.0 0, x.1 0, x.2 k 0, h.0 i li, h.0 j lj, h.0 k lk)),
  (λ a b t. grind (arith, x.0 0, x.1 0, x.2 a 0, x.2 b 0, h.1 a b, h.1 a i, h.1 a j, h.1 i b, h.1 j b, h.1 i j)),
)

-- one step done leaves one less
one_less : (f : ℕ → ℕ) (n i x y : ℕ) → i < n → y ≡ f x → iterate f (n - (i + 1)) y ≡ iterate f (n - i) x
one_less f n i x y li e =
    let left : suc (n - (i + 1)) ≡ n - i = omega arith in
    ap (iterate f (n - (i + 1))) e ∙ ap (λ k. iterate f k x) left

pub loop-i-preserved : goal.loop-i-preserved
loop-i-preserved c = record {
  whole = c.swap.ensures.len ∙ c.loop-i.invariant.whole;
  wires = wires_swapped c.args.inputs c.loop-i.pins c.swap.new.self c.loop-i.i _ c.loop-i-test.true (omega arith) c.swap.ensures.by_index c.loop-i.invariant.wires;
  state = one_less next c.args.inputs c.loop-i.i _ _ c.loop-i-test.true c.below.ensures.state ∙ c.loop-i.invariant.state;
}
