use Rattle.std.proofs.Common.{◌≡◌, ℕ, suc, ◌+◌, ◌-◌, ◌*◌, ◌%◌, ◌^◌, ◌<◌, ◌≤◌, List, length, get_or, take, drop, sym, ap, ◌∙◌, arith}
use Rattle.std.proofs.lemmas.List.{get_or-take, get_or-drop}
use Rattle.std.proofs.Math.Nat.{two-pow-succ}
use Rattle.tables.specs.Above.{sum_above}
use Rattle.tables.proofs.Shifts.{pow_small, shift}
use Rattle.tables.proofs.SumsAbove.{sum_above_light, sum_joined}
use Rattle.tables.proofs.above.+sum_up.Goals as goal

-- the halves of what stands at the rows of n inputs
record Half (n : ℕ) (xs : List ℕ) : Type 0 where
  inputs : n ≡ suc (n - 1)
  is : 1 * 2 ^ (n - 1) % 18446744073709551616 ≡ 2 ^ (n - 1)
  two : 2 ^ n ≡ 2 ^ (n - 1) + 2 ^ (n - 1)
  few : 2 ^ (n - 1) ≤ 512
  low : (s : ℕ) → s < 2 ^ (n - 1) → get_or (take (2 ^ (n - 1)) xs) s 0 < 256
  high : (s : ℕ) → s < 2 ^ (n - 1) → get_or (drop (2 ^ (n - 1)) xs) s 0 < 256

half : (n : ℕ) (xs : List ℕ) → n ≤ 10 → (n ≡ 0 → ⊥) → ((s : ℕ) → s < 2 ^ n → get_or xs s 0 < 256) → Half n xs
half n xs few some light =
    let e : n ≡ suc (n - 1) = omega arith in
    let two : 2 ^ n ≡ 2 ^ (n - 1) + 2 ^ (n - 1) = ap (λ m. 2 ^ m) e ∙ two-pow-succ (n - 1) in
    record {
      inputs = e;
      is = shift (n - 1) 18446744073709551616 (omega arith) (omega arith);
      two = two;
      few = pow_small (n - 1) (omega arith);
      low = λ s l. omega (arith, get_or-take (2 ^ (n - 1)) xs s 0 l, light s (omega arith));
      high = λ s l. omega (arith, get_or-drop (2 ^ (n - 1)) xs s 0, light (2 ^ (n - 1) + s) (omega arith));
    }

pub split_at_mut-low-requires : goal.split_at_mut-low-requires
split_at_mut-low-requires t c =
    let h = half c.args.inputs c.args.sums.now c.requires.few c.if-inputs-eq0.false c.requires.light in
    omega (arith, h.is, h.two, c.requires.whole)

pub sum_up-requires-2 : goal.sum_up-requires-2
sum_up-requires-2 t c =
    let xs = c.args.sums.now in
    let k = c.args.inputs - 1 in
    let h = half c.args.inputs xs c.requires.few c.if-inputs-eq0.false c.requires.light in
    let back : c.split_at_mut-low.result.1.now ≡ drop (2 ^ k) xs = c.split_at_mut-low.ensures.back ∙ ap (λ m. drop m xs) h.is in
    (omega arith, (omega arith, (omega (arith, c.split_at_mut-low.ensures.back_len, h.is, h.two, c.requires.whole), rw back h.high)))

pub add_each-requires-clause-same : goal.add_each-requires-clause-same
add_each-requires-clause-same t c =
    let h = half c.args.inputs c.args.sums.now c.requires.few c.if-inputs-eq0.false c.requires.light in
    omega (arith, c.sum_up.ensures.len, c.sum_up-2.ensures.len, c.split_at_mut-low.ensures.front_len, c.split_at_mut-low.ensures.back_len, h.is, h.two, c.requires.whole)

pub add_each-requires-clause-fits : goal.add_each-requires-clause-fits
add_each-requires-clause-fits t c = λ s lt.
    let xs = c.args.sums.now in
    let k = c.args.inputs - 1 in
    let h = half c.args.inputs xs c.requires.few c.if-inputs-eq0.false c.requires.light in
    let front : c.split_at_mut-low.result.0.now ≡ take (2 ^ k) xs = c.split_at_mut-low.ensures.front ∙ ap (λ m. take m xs) h.is in
    let back : c.split_at_mut-low.result.1.now ≡ drop (2 ^ k) xs = c.split_at_mut-low.ensures.back ∙ ap (λ m. drop m xs) h.is in
    let l : s < 2 ^ k = omega (arith, c.sum_up.ensures.len, c.split_at_mut-low.ensures.front_len, h.is) in
    let low = c.sum_up.ensures.sums s l ∙ ap (λ ys. sum_above ys k s) front in
    let high = c.sum_up-2.ensures.sums s l ∙ ap (λ ys. sum_above ys k s) back in
    omega (arith, low, high, sum_above_light (take (2 ^ k) xs) k s h.low, sum_above_light (drop (2 ^ k) xs) k s h.high, h.few)

pub returns-clause-sums : goal.returns-clause-sums
returns-clause-sums t c = λ s lt.
    let xs = c.args.sums.now in
    let n = c.args.inputs in
    let k = n - 1 in
    let h = half n xs c.requires.few c.if-inputs-eq0.false c.requires.light in
    let front : c.split_at_mut-low.result.0.now ≡ take (2 ^ k) xs = c.split_at_mut-low.ensures.front ∙ ap (λ m. take m xs) h.is in
    let back : c.split_at_mut-low.result.1.now ≡ drop (2 ^ k) xs = c.split_at_mut-low.ensures.back ∙ ap (λ m. drop m xs) h.is in
    let len : length c.sum_up.new.sums ≡ 2 ^ k = omega (arith, c.sum_up.ensures.len, c.split_at_mut-low.ensures.front_len, h.is) in
    let len2 : length c.add_each.new.sums ≡ 2 ^ k = omega (arith, c.add_each.ensures.len, len) in
    let high : (l : ℕ) → l < 2 ^ k → get_or c.sum_up-2.new.sums l 0 ≡ sum_above (drop (2 ^ k) xs) k l = λ l ll. c.sum_up-2.ensures.sums l ll ∙ ap (λ ys. sum_above ys k l) back in
    let low : (l : ℕ) → l < 2 ^ k → get_or c.add_each.new.sums l 0 ≡ sum_above (take (2 ^ k) xs) k l + sum_above (drop (2 ^ k) xs) k l =
    λ l ll. c.add_each.ensures.added l (omega arith) ∙ ap (λ y. y + get_or c.sum_up-2.new.sums l 0) (c.sum_up.ensures.sums l ll ∙ ap (λ ys. sum_above ys k l) front) ∙ ap (λ y. sum_above (take (2 ^ k) xs) k l + y) (high l ll) in
    sum_joined k xs c.add_each.new.sums c.sum_up-2.new.sums len2 low high s (omega (arith, ap (λ m. 2 ^ m) h.inputs))
    ∙ ap (λ m. sum_above xs m s) (sym h.inputs)
