use Rattle.std.proofs.Common.{◌≡◌, ℕ, zero, suc, ◌+◌, ◌-◌, ◌*◌, ◌/◌, ◌%◌, ◌^◌, ◌<◌, sym, ap, ◌∙◌, ⊎_elim, mod-lt, mod-eq_of_lt, mul_assoc, add_comm, pow-suc, one-add, arith, pow_pos, pow-add}
use native.Mathlib.Nat.{mod-one, mul-add-div_right, mul-add-mod_self_right}
use lib.Arith.{digits_lt, digits_div}
use lib.Pow.{mod-pow-add}
use Rattle.std.proofs.lemmas.Bool.{cases_eq}
use Rattle.tables.specs.Sums.{sum_to}
use Rattle.tables.specs.Agreement.{bit}
use Rattle.tables.proofs.Sums.{sum_ext}

-- the number whose bits are b
abbrev pub number : ℕ → (ℕ → ℕ) → ℕ
number n b = sum_to n (λ j. b j * 2 ^ j)

pub bit_lt : (i r : ℕ) → bit i r < 2
bit_lt i r = mod-lt (r / 2 ^ i) (omega arith)

module _ (b : ℕ → ℕ) (small : (j : ℕ) → b j < 2) where
  pub number_lt : (n : ℕ) → number n b < 2 ^ n
  number_lt zero = pow_pos 0
  number_lt (suc n) =
      let d : b n * 2 ^ n + number n b < 2 * 2 ^ n = digits_lt (small n) (number_lt n) in
      let e : 2 ^ suc n ≡ 2 ^ n * 2 = pow-suc 2 n in
      omega arith

  pub low_bit : (c x j d : ℕ) → bit j (c * 2 ^ (suc d + j) + x) ≡ bit j x
  low_bit c x j d =
      let e : c * 2 ^ (suc d + j) ≡ (c * 2 ^ d * 2) * 2 ^ j =
      ap (λ y. c * y) (pow-add 2 (suc d) j ∙ ap (λ y. y * 2 ^ j) (pow-suc 2 d)) ∙ sym (mul_assoc c (2 ^ d * 2) (2 ^ j)) ∙ ap (λ y. y * 2 ^ j) (sym (mul_assoc c (2 ^ d) 2)) in
      ap (λ y. (y + x) / 2 ^ j % 2) e ∙ ap (λ y. y % 2) (mul-add-div_right (pow_pos j) (c * 2 ^ d * 2) x) ∙ mul-add-mod_self_right (c * 2 ^ d) 2 (x / 2 ^ j)

  pub bit_number : (n j : ℕ) → j < n → bit j (number n b) ≡ b j
  bit_number zero j lt = absurd (omega arith)
  bit_number (suc n) j lt =
      ⊎_elim
      (λ e. ap (λ i. bit i (number (suc n) b)) e ∙ ap (λ y. y / 2 ^ n % 2) (add_comm (number n b) (b n * 2 ^ n)) ∙ ap (λ y. y % 2) (digits_div (b n) (number_lt n)) ∙ mod-eq_of_lt (small n) ∙ ap b (sym e))
      (λ ne.
      let split : n ≡ suc (n - suc j) + j = omega arith in
      ap (λ y. bit j y) (add_comm (number n b) (b n * 2 ^ n)) ∙ ap (λ y. bit j (b n * 2 ^ y + number n b)) split ∙ low_bit (b n) (number n b) j (n - suc j) ∙ bit_number n j (omega arith))
      (cases_eq j n)

pub number_ext : (n : ℕ) (a b : ℕ → ℕ) → ((j : ℕ) → j < n → a j ≡ b j) → number n a ≡ number n b
number_ext n a b h = sum_ext n (λ j. a j * 2 ^ j) (λ j. b j * 2 ^ j) (λ j lt. ap (λ y. y * 2 ^ j) (h j lt))

pub number_bits : (n r : ℕ) → number n (λ j. bit j r) ≡ r % 2 ^ n
number_bits zero r = sym (mod-one r)
number_bits (suc n) r = ap (λ y. y + bit n r * 2 ^ n) (number_bits n r) ∙ add_comm (r % 2 ^ n) (bit n r * 2 ^ n) ∙ sym (ap (λ y. r % 2 ^ y) (sym (one-add n)) ∙ mod-pow-add r 1 n)

pub bits_ext : (n r q : ℕ) → r < 2 ^ n → q < 2 ^ n → ((j : ℕ) → j < n → bit j r ≡ bit j q) → r ≡ q
bits_ext n r q lr lq h =
    sym (mod-eq_of_lt lr) ∙ sym (number_bits n r) ∙ number_ext n (λ j. bit j r) (λ j. bit j q) h ∙ number_bits n q ∙ mod-eq_of_lt lq
