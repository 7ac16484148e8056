use Rattle.std.proofs.Common.{◌≡◌, ℕ, zero, suc, ◌+◌, ◌-◌, ◌*◌, ◌/◌, ◌%◌, ◌^◌, ◌<◌, ◌≤◌, Bool, true, List, length, get_or, sym, refl, ap, ◌∙◌, ⊎_elim, one-mul, pow-suc, add-one, arith, pow_mono}
use native.Mathlib.Nat.{div-eq_of_lt}
use lib.Arith.{digits_div}
use Rattle.std.proofs.lemmas.Nat.{mul-le}
use Rattle.std.proofs.lemmas.Bool.{cases_eq}
use Rattle.tables.specs.Sums.{sum_to}
use Rattle.tables.specs.Wirings.{Placed, Wires, Alike}
use Rattle.tables.specs.Agreement.{bit, Carried, Agree}
use Rattle.tables.specs.Carry.{carry}
use Rattle.tables.proofs.Sums.{sum_ext, sum_reindex, sum_zero, sum_le, sum_swap, sum_single, at, at_yes, at_no}
use Rattle.tables.proofs.Digits.{bit_lt, low_bit, bits_ext}
use Rattle.tables.proofs.Onto.{back, back_into, there_back, back_there}
use Rattle.tables.proofs.Reindex.{row_there, there_lt, carried, bit_there}

pub carry_there : (n : ℕ) (w : ℕ → ℕ) (h : Wires n w) (r : ℕ) → carry n w r ≡ row_there n w h r
carry_there n w h r =
    sum_reindex n w (back n w h) (λ i. bit i r * 2 ^ w i) (λ j. bit (back n w h j) r * 2 ^ j) h.0 (back_into n w h) (back_there n w h) (there_back n w h) (λ i li. ap (λ y. bit y r * 2 ^ w i) (sym (back_there n w h i li)))

-- the bits of a row
pub bit_above : (k r : ℕ) → r < 2 ^ k → bit k r ≡ 0
bit_above k r lt = ap (λ y. y % 2) (div-eq_of_lt lt)

pub bit_top : (k r : ℕ) → r < 2 ^ k → bit k (2 ^ k + r) ≡ 1
bit_top k r lt = ap (λ y. (y + r) / 2 ^ k % 2) (sym (one-mul (2 ^ k))) ∙ ap (λ y. y % 2) (digits_div 1 lt)

pub bit_under : (k r i : ℕ) → i < k → bit i (2 ^ k + r) ≡ bit i r
bit_under k r i lt =
    let split : k ≡ suc (k - suc i) + i = omega arith in
    ap (λ y. bit i (y + r)) (sym (one-mul (2 ^ k)) ∙ ap (λ y. 1 * 2 ^ y) split) ∙ low_bit (λ _. 0) (λ _. omega arith) 1 r i (k - suc i)

-- carrying
pub carry_ext : (k : ℕ) (v w : ℕ → ℕ) (r : ℕ) → Alike k v w → carry k v r ≡ carry k w r
carry_ext k v w r h = sum_ext k (λ i. bit i r * 2 ^ v i) (λ i. bit i r * 2 ^ w i) (λ i lt. ap (λ y. bit i r * 2 ^ y) (h i lt))

pub carry_low : (k : ℕ) (w : ℕ → ℕ) (r : ℕ) → r < 2 ^ k → carry (suc k) w r ≡ carry k w r
carry_low k w r lt = let z : bit k r * 2 ^ w k ≡ 0 * 2 ^ w k = ap (λ y. y * 2 ^ w k) (bit_above k r lt) in omega arith

pub carry_high : (k : ℕ) (w : ℕ → ℕ) (r : ℕ) → r < 2 ^ k → carry (suc k) w (2 ^ k + r) ≡ carry k w r + 2 ^ w k
carry_high k w r lt =
    let z : bit k (2 ^ k + r) * 2 ^ w k ≡ 1 * 2 ^ w k = ap (λ y. y * 2 ^ w k) (bit_top k r lt) in
    let s : sum_to k (λ i. bit i (2 ^ k + r) * 2 ^ w i) ≡ sum_to k (λ i. bit i r * 2 ^ w i) = sum_ext k (λ i. bit i (2 ^ k + r) * 2 ^ w i) (λ i. bit i r * 2 ^ w i) (λ i li. ap (λ y. y * 2 ^ w i) (bit_under k r i li)) in
    omega arith

carry_up' : (d k : ℕ) (w : ℕ → ℕ) (r : ℕ) → r < 2 ^ k → carry (d + k) w r ≡ carry k w r
carry_up' zero k w r lt = ap (λ y. carry y w r) (omega arith)
carry_up' (suc d) k w r lt =
    let le : k ≤ d + k = omega arith in
    let p : 2 ^ k ≤ 2 ^ (d + k) = pow_mono le in
    let s : suc d + k ≡ suc (d + k) = omega arith in
    ap (λ y. carry y w r) s ∙ carry_low (d + k) w r (omega arith) ∙ carry_up' d k w r lt

pub carry_up : (k n : ℕ) (w : ℕ → ℕ) (r : ℕ) → k ≤ n → r < 2 ^ k → carry n w r ≡ carry k w r
carry_up k n w r le lt = let s : n ≡ (n - k) + k = omega arith in ap (λ y. carry y w r) s ∙ carry_up' (n - k) k w r lt

-- a carried row is in the table
at_most_one : (k : ℕ) (w f : ℕ → ℕ) (j m : ℕ) → ((i : ℕ) → i < k → f i ≤ 2 ^ w i) → ((i l : ℕ) → (i < k) × (l < k) × (w i ≡ w l) → i ≡ l)
    → sum_to k (λ i. at (w i) (f i) j) ≤ 2 ^ j
at_most_one zero w f j m small apart = omega arith
at_most_one (suc k) w f j m small apart =
    ⊎_elim
    (λ e.
    let none : sum_to k (λ i. at (w i) (f i) j) ≡ sum_to k (λ _. 0) =
    sum_ext k (λ i. at (w i) (f i) j) (λ _. 0) (λ i li. at_no (w i) (f i) j (λ same. let x : i ≡ k = apart i k (omega arith, omega arith, sym same ∙ e) in omega arith)) in
    let z = sum_zero k in
    let here = at_yes (w k) (f k) j e in
    let s = small k (omega arith) in
    let p : 2 ^ w k ≡ 2 ^ j = ap (λ y. 2 ^ y) (sym e) in
    omega arith)
    (λ ne.
    let before = at_most_one k w f j m (λ i li. small i (omega arith)) (λ i l h. apart i l (let a = h.0 in omega arith, let a = h.1 in omega arith, h.2)) in
    let here = at_no (w k) (f k) j ne in
    omega arith)
    (cases_eq j (w k))

pow_sum : (n : ℕ) → sum_to n (λ j. 2 ^ j) + 1 ≡ 2 ^ n
pow_sum zero = refl
pow_sum (suc n) = let a = pow_sum n in let b = pow-suc 2 n in omega arith

pub carry_lt : (n k : ℕ) (w : ℕ → ℕ) (r : ℕ) → Placed n k w → carry k w r < 2 ^ n
carry_lt n k w r h =
    let f : ℕ → ℕ = λ i. bit i r * 2 ^ w i in
    let spread : sum_to k f ≡ sum_to n (λ j. sum_to k (λ i. at (w i) (f i) j)) =
    sum_ext k f (λ i. sum_to n (λ j. at (w i) (f i) j)) (λ i li. sym (sum_single n (w i) (f i) (h.0 i li))) ∙ sum_swap k n (λ i j. at (w i) (f i) j) in
    let bound : sum_to n (λ j. sum_to k (λ i. at (w i) (f i) j)) ≤ sum_to n (λ j. 2 ^ j) =
    sum_le n (λ j. sum_to k (λ i. at (w i) (f i) j)) (λ j. 2 ^ j) (λ j lj. at_most_one k w f j 0 (λ i li. let b = bit_lt i r in let le : bit i r ≤ 1 = omega arith in let m : bit i r * 2 ^ w i ≤ 1 * 2 ^ w i = mul-le (bit i r) (2 ^ w i) 1 (2 ^ w i) le (omega arith) in omega arith) h.1) in
    let p = pow_sum n in
    omega (arith, spread, bound, p)

-- one bit more
module _ (n k : ℕ) (w : ℕ → ℕ) (r : ℕ) where
  pub carry_more : bit k r ≡ 1 → carry (k + 1) w r ≡ carry k w r + 2 ^ w k
  carry_more on = rw add-one (let z : bit k r * 2 ^ w k ≡ 1 * 2 ^ w k = ap (λ y. y * 2 ^ w k) on in omega arith)

  -- what is carried so far lies in the table
  pub carry_small : Wires n w → k ≤ n → n ≤ 10 → carry k w r < 1024
  carry_small h le few =
      let c = carry_lt n k w r ((λ i li. h.0 i (omega arith)), (λ i j t. let a = t.0 in let b = t.1 in h.1 i j (omega arith, omega arith, t.2))) in
      let top : 2 ^ n ≤ 2 ^ 10 = pow_mono few in
      omega arith

pub carry_carried : (n : ℕ) (w : ℕ → ℕ) (h : Wires n w) (r : ℕ) → Carried n w r (carry n w r)
carry_carried n w h r i li = ap (λ q. bit (w i) q) (carry_there n w h r) ∙ carried n w h r i li

-- no other row has the same bits
pub carried_only : (n : ℕ) (w : ℕ → ℕ) (h : Wires n w) (r q : ℕ) → q < 2 ^ n → Carried n w r q → q ≡ carry n w r
carried_only n w h r q lq c =
    bits_ext n q (row_there n w h r) lq (there_lt n w h r) (λ j lj. ap (λ y. bit y q) (sym (there_back n w h j lj)) ∙ c (back n w h j) (back_into n w h j lj) ∙ sym (bit_there n w h r j lj))
    ∙ sym (carry_there n w h r)

-- agreement, by the carried rows
module _ {R : Type 0} (same : R → R → Bool) (n : ℕ) (card part : List R) (w : ℕ → ℕ) where
  pub agree_row : Agree same n w card part → (r : ℕ) (d : R) → r < 2 ^ n → same (get_or card r d) (get_or part (carry n w r) d) ≡ true
  agree_row a r d lr =
      ap (λ q. same (get_or card r d) (get_or part q d)) (carry_there n w a.wires r) ∙ a.rows r (row_there n w a.wires r) d lr (there_lt n w a.wires r) (carried n w a.wires r)

  pub rows_agree : Wires n w → length card ≡ 2 ^ n → length part ≡ 2 ^ n → ((r : ℕ) (d : R) → r < 2 ^ n → same (get_or card r d) (get_or part (carry n w r) d) ≡ true) → Agree same n w card part
  rows_agree h lc lp rows = record {
    wires = h;
    card_rows = lc;
    part_rows = lp;
    rows = λ r q d lr lq c.
        ap (λ y. same (get_or card r d) (get_or part y d)) (carried_only n w h r q lq c) ∙ rows r d lr;
  }
