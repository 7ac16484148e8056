-- Two inputs are both on in a quarter of the rows, so what they share weighs at most 65,280.
use Rattle.std.proofs.Common.{◌≡◌, ℕ, zero, suc, ◌+◌, ◌*◌, ◌^◌, ◌<◌, ◌≤◌, List, sym, refl, ap, ◌∙◌, arith, pow_mono}
use Rattle.std.proofs.lemmas.Bool.Decides.{nat_tests}
use Rattle.tables.specs.Sums.{sum_to}
use Rattle.tables.specs.Agreement.{bit}
use Rattle.tables.proofs.Sums.{sum_ext, sum_add, sum_le}
use Rattle.tables.proofs.Digits.{bit_lt}
use Rattle.signatures.specs.Values.{where_on, weight_at, paired}
use Rattle.signatures.proofs.Flips.{flip, flip_own, flip_other, flip_sum}
use Rattle.signatures.proofs.Turns.{weight_small}

sum_ones : (n : ℕ) → sum_to n (λ _. 1) ≡ n
sum_ones zero = refl
sum_ones (suc n) = let a = sum_ones n in omega arith

sum_times : (n : ℕ) (f : ℕ → ℕ) → sum_to n (λ k. 255 * f k) ≡ 255 * sum_to n f
sum_times zero f = refl
sum_times (suc n) f = let a = sum_times n f in omega arith

-- a bit is set in half of the rows
one_bit : (n k : ℕ) → k < n → sum_to (2 ^ n) (bit k) + sum_to (2 ^ n) (bit k) ≡ 2 ^ n
one_bit n k lk =
    ap (λ x. x + sum_to (2 ^ n) (bit k)) (sym (flip_sum n k lk (bit k)))
    ∙ sym (sum_add (2 ^ n) (λ r. bit k (flip n k r)) (bit k))
    ∙ sum_ext (2 ^ n) (λ r. bit k (flip n k r) + bit k r) (λ _. 1) (λ r _. let a = flip_own n k r lk in let b = bit_lt k r in omega arith)
    ∙ sum_ones (2 ^ n)

abbrev both : ℕ → ℕ → ℕ → ℕ
both i k r = where_on i r (bit k r)

-- another bit is set in half of those
two_bits : (n i k : ℕ) → i < n → k < n → (k ≡ i → ⊥) → sum_to (2 ^ n) (both i k) + sum_to (2 ^ n) (both i k) ≡ sum_to (2 ^ n) (bit k)
two_bits n i k li lk ne =
    ap (λ x. x + sum_to (2 ^ n) (both i k)) (sym (flip_sum n i li (both i k)))
    ∙ sym (sum_add (2 ^ n) (λ r. both i k (flip n i r)) (both i k))
    ∙ sum_ext (2 ^ n) (λ r. both i k (flip n i r) + both i k r) (bit k) (λ r _.
    let kept = flip_other n i r k lk ne in
    let turned = flip_own n i r li in
    let small = bit_lt i r in
    grind (arith, nat_tests))

module _ {R : Type 0} (weight : R → ℕ) (light : (x : R) → weight x < 256) where
  both_small : (rows : List R) (i k r : ℕ) → where_on i r (where_on k r (weight_at weight rows r)) ≤ 255 * both i k r
  both_small rows i k r = let s = weight_small weight light rows r in grind (arith, nat_tests)

  pub paired_small : (n : ℕ) (rows : List R) (i k : ℕ) → n ≤ 10 → i < n → k < n → (k ≡ i → ⊥) → paired weight n rows i k ≤ 65280
  paired_small n rows i k le li lk ne =
      let a = sum_le (2 ^ n) (λ r. where_on i r (where_on k r (weight_at weight rows r))) (λ r. 255 * both i k r) (λ r _. both_small rows i k r) in
      let b = sum_times (2 ^ n) (both i k) in
      let half = one_bit n k lk in
      let quarter = two_bits n i k li lk ne in
      let full : 2 ^ n ≤ 2 ^ 10 = pow_mono le in
      omega (arith, a, b, half, quarter, full)
