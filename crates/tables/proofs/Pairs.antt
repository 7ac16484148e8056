-- The rows above two inputs are those that have both on.
use Rattle.std.proofs.Common.{◌≡◌, ℕ, suc, ◌+◌, ◌^◌, ◌<◌, ◌≤◌, Bool, true, false, ◌&&◌, cond, eqb, List, get_or, refl, ap, ◌∙◌, ⊎_elim, add_comm, arith, pow_pos, pow_mono}
use lib.Pow.{pow-lt}
use Rattle.std.proofs.lemmas.Bool.{cases_eq, cases_lt}
use Rattle.std.proofs.lemmas.Bool.Decides.{same_from_decides, Decides-like, Decides-and, Decides-eqb}
use Rattle.std.proofs.Math.Nat.{two-pow-succ}
use Rattle.tables.specs.Sums.{sum_to}
use Rattle.tables.specs.Agreement.{bit}
use Rattle.tables.specs.Above.{is_above, sum_above}
use Rattle.tables.proofs.Sums.{sum_ext}
use Rattle.tables.proofs.Digits.{bit_lt}
use Rattle.tables.proofs.Carries.{bit_above, bit_top, bit_under}
use Rattle.tables.proofs.SumsAbove.{above_is}

bit_zero : (j : ℕ) → bit j 0 ≡ 0
bit_zero j = bit_above j 0 (pow_pos j)

with_zero : (i : ℕ) → 2 ^ i ≡ 2 ^ i + 0
with_zero i = omega arith

-- a power of two has one bit
own_bit : (i : ℕ) → bit i (2 ^ i) ≡ 1
own_bit i = ap (λ y. bit i y) (with_zero i) ∙ bit_top i 0 (pow_pos i)

other_bit : (i j : ℕ) → (j ≡ i → ⊥) → bit j (2 ^ i) ≡ 0
other_bit i j ne =
    ⊎_elim
    (λ l. ap (λ y. bit j y) (with_zero i) ∙ bit_under i 0 j l ∙ bit_zero j)
    (λ ge. bit_above j (2 ^ i) (pow-lt (omega arith)))
    (cases_lt j i)

-- in row s inputs i and k are on, and no others
record Two (i k s : ℕ) : Type 0 where
  first : bit i s ≡ 1
  second : bit k s ≡ 1
  others : (j : ℕ) → (j ≡ i → ⊥) → (j ≡ k → ⊥) → bit j s ≡ 0

two_up : (i k : ℕ) → i < k → Two i k (2 ^ k + 2 ^ i)
two_up i k lt =
    let low : 2 ^ i < 2 ^ k = pow-lt lt in
    record {
      first = bit_under k (2 ^ i) i lt ∙ own_bit i;
      second = bit_top k (2 ^ i) low;
      others = λ j ni nk.
          ⊎_elim
          (λ l. bit_under k (2 ^ i) j l ∙ other_bit i j ni)
          (λ ge. let up : 2 ^ suc k ≤ 2 ^ j = pow_mono (omega arith) in bit_above j (2 ^ k + 2 ^ i) (omega (arith, two-pow-succ k)))
          (cases_lt j k);
    }

two : (i k : ℕ) → (k ≡ i → ⊥) → Two i k (2 ^ i + 2 ^ k)
two i k ne =
    ⊎_elim
    (λ l.
    let t = two_up i k l in
    let e : 2 ^ i + 2 ^ k ≡ 2 ^ k + 2 ^ i = add_comm (2 ^ i) (2 ^ k) in
    record { first = ap (λ y. bit i y) e ∙ t.first; second = ap (λ y. bit k y) e ∙ t.second; others = λ j ni nk. ap (λ y. bit j y) e ∙ t.others j ni nk })
    (λ ge.
    let t = two_up k i (omega arith) in
    record { first = t.second; second = t.first; others = λ j ni nk. t.others j nk ni })
    (cases_lt i k)

above_two : (n i k r : ℕ) → i < n → k < n → (k ≡ i → ⊥) → is_above n (2 ^ i + 2 ^ k) r ≡ (eqb (bit i r) 1 && eqb (bit k r) 1)
above_two n i k r li lk ne =
    let s = 2 ^ i + 2 ^ k in
    let t = two i k ne in
    same_from_decides (is_above n s r) (eqb (bit i r) 1 && eqb (bit k r) 1)
    (Decides-like (is_above n s r)
    (λ above. (omega (arith, above i li, t.first, bit_lt i r), omega (arith, above k lk, t.second, bit_lt k r)))
    (λ on j lj.
    ⊎_elim
    (λ e. omega (arith, ap (λ y. bit y s) e, ap (λ y. bit y r) e, t.first, on.0))
    (λ ni. ⊎_elim
    (λ e. omega (arith, ap (λ y. bit y s) e, ap (λ y. bit y r) e, t.second, on.1))
    (λ nk. omega (arith, t.others j ni nk))
    (cases_eq j k))
    (cases_eq j i))
    (above_is n s r))
    (Decides-and (eqb (bit i r) 1) (eqb (bit k r) 1) (Decides-eqb (bit i r) 1) (Decides-eqb (bit k r) 1))

nested : (a b : Bool) (x : ℕ) → cond (a && b) x 0 ≡ cond a (cond b x 0) 0
nested true b x = refl
nested false b x = refl

-- the sum above two inputs is the weight that they share
pub sum_above_two : (weights : List ℕ) (n i k : ℕ) → i < n → k < n → (k ≡ i → ⊥)
    → sum_above weights n (2 ^ i + 2 ^ k) ≡ sum_to (2 ^ n) (λ r. cond (eqb (bit i r) 1) (cond (eqb (bit k r) 1) (get_or weights r 0) 0) 0)
sum_above_two weights n i k li lk ne =
    sum_ext (2 ^ n) (λ r. cond (is_above n (2 ^ i + 2 ^ k) r) (get_or weights r 0) 0) (λ r. cond (eqb (bit i r) 1) (cond (eqb (bit k r) 1) (get_or weights r 0) 0) 0)
    (λ r _.
    ap (λ b. cond b (get_or weights r 0) 0) (above_two n i k r li lk ne) ∙ nested (eqb (bit i r) 1) (eqb (bit k r) 1) (get_or weights r 0))

-- two inputs of a table are a row of it
pub two_in : (n i k : ℕ) → i < n → k < n → (k ≡ i → ⊥) → 2 ^ i + 2 ^ k < 2 ^ n
two_in n i k li lk ne =
    ⊎_elim
    (λ l.
    let a : 2 ^ i < 2 ^ k = pow-lt l in
    let up : 2 ^ suc k ≤ 2 ^ n = pow_mono (omega arith) in
    omega (arith, two-pow-succ k))
    (λ ge.
    let a : 2 ^ k < 2 ^ i = pow-lt (omega arith) in
    let up : 2 ^ suc i ≤ 2 ^ n = pow_mono (omega arith) in
    omega (arith, two-pow-succ i))
    (cases_lt i k)
