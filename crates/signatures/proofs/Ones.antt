-- How many bits of a row are set.
use Rattle.std.proofs.Common.{◌≡◌, ℕ, zero, suc, ◌+◌, ◌*◌, ◌^◌, ◌<◌, ◌≤◌, sym, ap, ◌∙◌, ⊎_elim, mod-eq_of_lt, add_comm, arith}
use lib.Count.{ones, ones_cat}
use Rattle.std.proofs.lemmas.Bool.{cases_eq}
use Rattle.tables.specs.Sums.{sum_to}
use Rattle.tables.specs.Wirings.{Wires}
use Rattle.tables.specs.Agreement.{bit}
use Rattle.tables.proofs.Sums.{sum_reindex}
use Rattle.tables.proofs.Digits.{number, number_lt, number_bits, bit_lt}
use Rattle.tables.proofs.Onto.{back, back_into, there_back, back_there}
use Rattle.tables.proofs.Reindex.{row_there, there_lt, carried}

ones_of_bit : (b : ℕ) → b < 2 → ones b ≡ b
unfolding ones
ones_of_bit b lt = ⊎_elim (λ e. ap ones e ∙ sym e) (λ ne. let z : b ≡ 0 = omega arith in ap ones z ∙ sym z) (cases_eq b 1)

ones_number : (b : ℕ → ℕ) → ((j : ℕ) → b j < 2) → (n : ℕ) → ones (number n b) ≡ sum_to n b
ones_number b small zero = ones_of_bit 0 (omega arith)
ones_number b small (suc n) =
    ap ones (add_comm (number n b) (b n * 2 ^ n)) ∙ ones_cat n (b n) (number n b) (number_lt b small n)
    ∙ ap (λ x. x + ones (number n b)) (ones_of_bit (b n) (small n)) ∙ ap (λ x. b n + x) (ones_number b small n) ∙ add_comm (b n) (sum_to n b)

-- as many as there are inputs on
pub ones_sum : (n r : ℕ) → r < 2 ^ n → ones r ≡ sum_to n (λ j. bit j r)
ones_sum n r lt = ap ones (sym (number_bits n r ∙ mod-eq_of_lt lt)) ∙ ones_number (λ j. bit j r) (λ j. bit_lt j r) n

sum_some : (n i : ℕ) (f : ℕ → ℕ) → i < n → f i ≤ sum_to n f
sum_some zero i f lt = absurd (omega arith)
sum_some (suc n) i f lt =
    ⊎_elim (λ e. let x : f i ≡ f n = ap f e in omega arith) (λ ne. let rest = sum_some n i f (omega arith) in omega arith) (cases_eq i n)

pub ones_some : (n i r : ℕ) → r < 2 ^ n → i < n → bit i r ≡ 1 → 1 ≤ ones r
ones_some n i r lr li on = let s = sum_some n i (λ j. bit j r) li in let e = ones_sum n r lr in omega arith

-- a wiring carries a row to one with as many
pub ones_there : (n : ℕ) (w : ℕ → ℕ) (h : Wires n w) (r : ℕ) → r < 2 ^ n → ones r ≡ ones (row_there n w h r)
ones_there n w h r lr =
    ones_sum n r lr
    ∙ sum_reindex n w (back n w h) (λ i. bit i r) (λ j. bit j (row_there n w h r)) h.0 (back_into n w h) (back_there n w h) (there_back n w h) (λ i li. sym (carried n w h r i li))
    ∙ sym (ones_sum n (row_there n w h r) (there_lt n w h r))
