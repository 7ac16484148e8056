-- A row with one bit turned over.
use Rattle.std.proofs.Common.{◌≡◌, ℕ, ◌+◌, ◌-◌, ◌*◌, ◌^◌, ◌<◌, cond, eqb, sym, refl, ap, ◌∙◌, ⊎_elim, mod-eq_of_lt, arith, eq-eqb}
use Rattle.std.proofs.lemmas.Bool.{cases_eq, ne_eqb}
use Rattle.std.proofs.lemmas.Bool.Decides.{nat_tests}
use Rattle.tables.specs.Sums.{sum_to}
use Rattle.tables.specs.Wirings.{Wires}
use Rattle.tables.specs.Agreement.{bit}
use Rattle.tables.proofs.Sums.{sum_ext, sum_reindex, sum_add, sum_single, at, at_yes, at_no}
use Rattle.tables.proofs.Digits.{number, bit_lt, number_lt, bit_number, number_bits, bits_ext}
use Rattle.tables.proofs.Onto.{back, back_into, there_back, back_there}
use Rattle.tables.proofs.Reindex.{row_there, there_lt, bit_there}

abbrev turn : ℕ → ℕ → ℕ → ℕ
turn i r j = cond (eqb j i) (1 - bit j r) (bit j r)

turn_lt : (i r j : ℕ) → turn i r j < 2
turn_lt i r j = let a = bit_lt j r in grind (arith, nat_tests)

turn_own : (i r j : ℕ) → j ≡ i → turn i r j ≡ 1 - bit j r
turn_own i r j e = ap (λ t. cond t (1 - bit j r) (bit j r)) (eq-eqb j i e)

turn_other : (i r j : ℕ) → (j ≡ i → ⊥) → turn i r j ≡ bit j r
turn_other i r j ne = ap (λ t. cond t (1 - bit j r) (bit j r)) (ne_eqb j i ne)

-- row r with bit i turned over
abbrev pub flip : ℕ → ℕ → ℕ → ℕ
flip n i r = number n (turn i r)

pub flip_lt : (n i r : ℕ) → flip n i r < 2 ^ n
flip_lt n i r = number_lt (turn i r) (turn_lt i r) n

flip_bit : (n i r j : ℕ) → j < n → bit j (flip n i r) ≡ turn i r j
flip_bit n i r j lt = bit_number (turn i r) (turn_lt i r) n j lt

pub flip_own : (n i r : ℕ) → i < n → bit i (flip n i r) ≡ 1 - bit i r
flip_own n i r lt = flip_bit n i r i lt ∙ turn_own i r i refl

pub flip_other : (n i r j : ℕ) → j < n → (j ≡ i → ⊥) → bit j (flip n i r) ≡ bit j r
flip_other n i r j lt ne = flip_bit n i r j lt ∙ turn_other i r j ne

flip-flip : (n i : ℕ) → i < n → (r : ℕ) → r < 2 ^ n → flip n i (flip n i r) ≡ r
flip-flip n i li r lr = bits_ext n (flip n i (flip n i r)) r (flip_lt n i (flip n i r)) lr (λ j lj.
    let twice = flip_bit n i (flip n i r) j lj in
    let once = flip_bit n i r j lj in
    let small = bit_lt j r in
    grind (arith, nat_tests))

-- a sum over the rows, each with its bit i turned over
pub flip_sum : (n i : ℕ) → i < n → (f : ℕ → ℕ) → sum_to (2 ^ n) (λ r. f (flip n i r)) ≡ sum_to (2 ^ n) f
flip_sum n i li f = sum_reindex (2 ^ n) (flip n i) (flip n i) (λ r. f (flip n i r)) f (λ r _. flip_lt n i r) (λ r _. flip_lt n i r) (flip-flip n i li) (flip-flip n i li) (λ r _. refl)

-- where the bit is set, the row is 2^i less
pub flip_less : (n i r : ℕ) → i < n → r < 2 ^ n → bit i r ≡ 1 → flip n i r + 2 ^ i ≡ r
flip_less n i r li lr on =
    ap (λ x. flip n i r + x) (sym (sum_single n i (2 ^ i) li))
    ∙ sym (sum_add n (λ j. turn i r j * 2 ^ j) (at i (2 ^ i)))
    ∙ sum_ext n (λ j. turn i r j * 2 ^ j + at i (2 ^ i) j) (λ j. bit j r * 2 ^ j) (λ j lj.
    ⊎_elim
    (λ e.
    let z = at_yes i (2 ^ i) j e in
    rw e (grind (arith, nat_tests)))
    (λ ne. let x : turn i r j * 2 ^ j ≡ bit j r * 2 ^ j = ap (λ y. y * 2 ^ j) (turn_other i r j ne) in let z = at_no i (2 ^ i) j ne in omega arith)
    (cases_eq j i))
    ∙ number_bits n r ∙ mod-eq_of_lt lr

-- a wiring carries neighbours to neighbours
pub flip_there : (n : ℕ) (w : ℕ → ℕ) (h : Wires n w) (i r : ℕ) → i < n → row_there n w h (flip n i r) ≡ flip n (w i) (row_there n w h r)
flip_there n w h i r li =
    bits_ext n (row_there n w h (flip n i r)) (flip n (w i) (row_there n w h r)) (there_lt n w h (flip n i r)) (flip_lt n (w i) (row_there n w h r)) (λ j lj.
    let b = back n w h j in
    let own : j ≡ w i → b ≡ i = λ e. ap (back n w h) e ∙ back_there n w h i li in
    let other : b ≡ i → j ≡ w i = λ e. sym (there_back n w h j lj) ∙ ap w e in
    let left = bit_there n w h (flip n i r) j lj ∙ flip_bit n i r b (back_into n w h j lj) in
    let right = flip_bit n (w i) (row_there n w h r) j lj in
    let carry = bit_there n w h r j lj in
    grind (arith, nat_tests))
