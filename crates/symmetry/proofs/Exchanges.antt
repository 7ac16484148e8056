-- Inputs that change places, and rows in which they have each other's values.
use Rattle.std.proofs.Common.{◌≡◌, ℕ, ◌+◌, ◌-◌, ◌*◌, ◌%◌, ◌^◌, ◌<◌, ◌≤◌, ◌≢◌, sym, ap, ◌∙◌, ⊎_elim, arith, mod-eq_of_lt}
use Rattle.std.proofs.lemmas.Bool.{cases_eq}
use Rattle.std.proofs.lemmas.Bool.Decides.{nat_tests}
use Rattle.tables.specs.Sums.{sum_to}
use Rattle.tables.specs.Agreement.{bit}
use Rattle.tables.proofs.Sums.{sum_ext, sum_add, sum_single, at, at_yes, at_no}
use Rattle.tables.proofs.Digits.{bit_lt, number_lt, bit_number, number_bits, bits_ext}
use Rattle.tables.proofs.Shifts.{shift}
use Rattle.symmetry.specs.Symmetry.{swap, exchanged}

module _ (i k : ℕ) where
  pub swap_here : (j : ℕ) → j ≡ i → swap i k j ≡ k
  swap_here j e = grind (arith, nat_tests)

  pub swap_there : (j : ℕ) → j ≡ k → swap i k j ≡ i
  swap_there j e = grind (arith, nat_tests)

  pub swap_other : (j : ℕ) → j ≢ i → j ≢ k → swap i k j ≡ j
  swap_other j ni nk = grind (arith, nat_tests)

  pub swap_in : (n j : ℕ) → i < n → k < n → j < n → swap i k j < n
  swap_in n j li lk lj = grind (arith, nat_tests)

  pub swap_back : (j : ℕ) → swap i k (swap i k j) ≡ j
  swap_back j = grind (arith, nat_tests)

  pub swap_turned : (j : ℕ) → swap i k j ≡ swap k i j
  swap_turned j = grind (arith, nat_tests)

-- two exchanges round a third
pub swap_round : (i k j l : ℕ) → i ≢ j → k ≢ j → swap i k (swap k j (swap i k l)) ≡ swap i j l
swap_round i k j l ij kj = grind (arith, nat_tests)

module _ (n i k : ℕ) where
  pub exchanged_lt : (r : ℕ) → exchanged n i k r < 2 ^ n
  exchanged_lt r = number_lt (λ j. bit (swap i k j) r) (λ j. bit_lt (swap i k j) r) n

  pub bit_exchanged : (r j : ℕ) → j < n → bit j (exchanged n i k r) ≡ bit (swap i k j) r
  bit_exchanged r j lj = bit_number (λ j. bit (swap i k j) r) (λ j. bit_lt (swap i k j) r) n j lj

  -- a row with these bits is the exchanged one
  pub exchanged_is : (r q : ℕ) → q < 2 ^ n → ((j : ℕ) → j < n → bit j q ≡ bit (swap i k j) r) → exchanged n i k r ≡ q
  exchanged_is r q lq bits = bits_ext n (exchanged n i k r) q (exchanged_lt r) lq (λ j lj. bit_exchanged r j lj ∙ sym (bits j lj))

  pub exchanged_alike : (r : ℕ) → r < 2 ^ n → bit i r ≡ bit k r → exchanged n i k r ≡ r
  exchanged_alike r lr e = exchanged_is r r lr (λ j lj. ⊎_elim
      (λ ei. ap (λ x. bit x r) ei ∙ e ∙ ap (λ x. bit x r) (sym (swap_here i k j ei)))
      (λ ni. ⊎_elim
      (λ ek. ap (λ x. bit x r) ek ∙ sym e ∙ ap (λ x. bit x r) (sym (swap_there i k j ek)))
      (λ nk. ap (λ x. bit x r) (sym (swap_other i k j ni nk)))
      (cases_eq j k))
      (cases_eq j i))

  pub exchanged_turned : (r : ℕ) → exchanged n k i r ≡ exchanged n i k r
  exchanged_turned r = sum_ext n (λ j. bit (swap k i j) r * 2 ^ j) (λ j. bit (swap i k j) r * 2 ^ j) (λ j lj. ap (λ x. bit x r * 2 ^ j) (swap_turned k i j))

  module _ (li : i < n) (lk : k < n) where
    pub exchanged_back : (r : ℕ) → r < 2 ^ n → exchanged n i k (exchanged n i k r) ≡ r
    exchanged_back r lr = exchanged_is (exchanged n i k r) r lr (λ j lj.
        sym (bit_exchanged r (swap i k j) (swap_in i k n j li lk lj) ∙ ap (λ x. bit x r) (swap_back i k j)))

    -- where i is on and k off, one bit is taken away and the other put
    pub exchanged_moved : (r : ℕ) → r < 2 ^ n → bit i r ≡ 1 → bit k r ≡ 0 → exchanged n i k r + 2 ^ i ≡ r + 2 ^ k
    exchanged_moved r lr on off =
        let f : ℕ → ℕ = λ j. bit (swap i k j) r * 2 ^ j in
        let g : ℕ → ℕ = λ j. bit j r * 2 ^ j in
        let one : sum_to n (λ j. f j + at i (2 ^ i) j) ≡ sum_to n (λ j. g j + at k (2 ^ k) j) = sum_ext n (λ j. f j + at i (2 ^ i) j) (λ j. g j + at k (2 ^ k) j) (λ j lj. ⊎_elim
        (λ ei.
        let ne : j ≢ k = λ ek. omega (arith, on, off, ap (λ x. bit x r) (sym ei ∙ ek)) in
        let a : f j ≡ 0 * 2 ^ j = ap (λ y. y * 2 ^ j) (ap (λ x. bit x r) (swap_here i k j ei) ∙ off) in
        let b : g j ≡ 1 * 2 ^ j = ap (λ y. y * 2 ^ j) (ap (λ x. bit x r) ei ∙ on) in
        omega (arith, a, b, at_yes i (2 ^ i) j ei, at_no k (2 ^ k) j ne, ap (λ y. 2 ^ y) ei))
        (λ ni. ⊎_elim
        (λ ek.
        let a : f j ≡ 1 * 2 ^ j = ap (λ y. y * 2 ^ j) (ap (λ x. bit x r) (swap_there i k j ek) ∙ on) in
        let b : g j ≡ 0 * 2 ^ j = ap (λ y. y * 2 ^ j) (ap (λ x. bit x r) ek ∙ off) in
        omega (arith, a, b, at_no i (2 ^ i) j ni, at_yes k (2 ^ k) j ek, ap (λ y. 2 ^ y) ek))
        (λ nk.
        let a : f j ≡ g j = ap (λ x. bit x r * 2 ^ j) (swap_other i k j ni nk) in
        omega (arith, a, at_no i (2 ^ i) j ni, at_no k (2 ^ k) j nk))
        (cases_eq j k))
        (cases_eq j i)) in
        let left = sum_add n f (at i (2 ^ i)) in
        let right = sum_add n g (at k (2 ^ k)) in
        let row : sum_to n g ≡ r = number_bits n r ∙ mod-eq_of_lt lr in
        omega (arith, one, left, right, row, sum_single n i (2 ^ i) li, sum_single n k (2 ^ k) lk)

    -- and so it is computed
    pub moved_is : (r : ℕ) → n ≤ 10 → r < 2 ^ n → bit i r ≡ 1 → bit k r ≡ 0 → r + 1 * 2 ^ k % 18446744073709551616 - 1 * 2 ^ i % 18446744073709551616 ≡ exchanged n i k r
    moved_is r few lr on off =
        let ei = shift i 18446744073709551616 (omega arith) (omega arith) in
        let ek = shift k 18446744073709551616 (omega arith) (omega arith) in
        omega (arith, ei, ek, exchanged_moved r lr on off)

-- an exchange of i and j is one of k and j between two of i and k
pub exchanged_round : (n i k j r : ℕ) → i < n → k < n → j < n → i ≢ j → k ≢ j → exchanged n i k (exchanged n k j (exchanged n i k r)) ≡ exchanged n i j r
exchanged_round n i k j r li lk lj ij kj = exchanged_is n i k (exchanged n k j (exchanged n i k r)) (exchanged n i j r) (exchanged_lt n i j r) (λ l ll.
    let l1 = swap_in i k n l li lk ll in
    let l2 = swap_in k j n (swap i k l) lk lj l1 in
    bit_exchanged n i j r l ll ∙ sym (bit_exchanged n k j (exchanged n i k r) (swap i k l) l1 ∙ bit_exchanged n i k r (swap k j (swap i k l)) l2 ∙ ap (λ x. bit x r) (swap_round i k j l ij kj)))
