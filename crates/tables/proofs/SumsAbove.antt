-- The sums of the weights above a row: in tables that agree, and by halves.
use Rattle.std.proofs.Common.{◌≡◌, ℕ, zero, suc, ◌+◌, ◌-◌, ◌*◌, ◌^◌, ◌<◌, ◌≤◌, Bool, true, false, ◌&&◌, cond, ◌++◌, ⊎_elim, Decides, List, map, length, get_or, take, drop, sym, refl, ap, ◌∙◌, arith, pow_pos}
use Rattle.std.proofs.lemmas.Bool.{leb-true, le-leb, lt-leb, cond_both, cases_lt}
use Rattle.std.proofs.lemmas.Bool.Decides.{same_from_decides, Decides-like, Decides-below_and}
use Rattle.std.proofs.lemmas.List.{get_or-take, get_or-drop, get_or-append_right}
use Rattle.std.proofs.Math.ListN.{get_or-append}
use Rattle.std.proofs.Math.Nat.{two-pow-succ}
use Rattle.std.specs.Prelude.{nat_le}
use Rattle.tables.specs.Sums.{sum_to}
use Rattle.tables.specs.Wirings.{Wires}
use Rattle.tables.specs.Agreement.{bit, Carried, Agree}
use Rattle.tables.specs.Above.{is_above, sum_above}
use Rattle.tables.proofs.Sums.{sum_ext, sum_le, sum_zero}
use Rattle.tables.proofs.Onto.{back, back_into, there_back}
use Rattle.tables.proofs.Reindex.{row_there, carried, sum_rows, weight_there}
use Rattle.tables.proofs.Carries.{bit_above, bit_top, bit_under}

-- what the test tells
abbrev pub IsAbove : ℕ → ℕ → ℕ → Type 0
IsAbove n s r = (i : ℕ) → i < n → bit i s ≤ bit i r

pub above_is : (n s r : ℕ) → Decides (is_above n s r) (IsAbove n s r)
above_is n s r =
    Decides-below_and (λ i. nat_le (bit i s) (bit i r)) (λ i. bit i s ≤ bit i r) (λ m. is_above m s r)
    (λ i. (leb-true (bit i s) (bit i r), le-leb (bit i s) (bit i r))) refl (λ _. refl) n

-- a row lies above where the row that it is carried to does
module _ (n : ℕ) (w : ℕ → ℕ) (h : Wires n w) (s q : ℕ) (c : Carried n w s q) where
  above_there : (r : ℕ) → is_above n s r ≡ is_above n q (row_there n w h r)
  above_there r =
      let t = row_there n w h r in
      same_from_decides (is_above n s r) (is_above n q t) (above_is n s r)
      (Decides-like (is_above n q t)
      (λ above i li. omega (arith, c i li, carried n w h r i li, above (w i) (h.0 i li)))
      (λ above j lj.
      let i = back n w h j in
      let li = back_into n w h j lj in
      let e : w i ≡ j = there_back n w h j lj in
      omega (arith, ap (λ y. bit y q) e, ap (λ y. bit y t) e, c i li, carried n w h r i li, above i li))
      (above_is n q t))

module _ {R : Type 0} (same : R → R → Bool) (weight : R → ℕ) (alike : (x y : R) → same x y ≡ true → weight x ≡ weight y) where
  -- tables that agree weigh alike above a row and above the row that it is carried to
  pub sum_there : (n : ℕ) (card part : List R) (w : ℕ → ℕ) → Agree same n w card part → (s q : ℕ) → Carried n w s q → sum_above (map weight card) n s ≡ sum_above (map weight part) n q
  sum_there n card part w a s q c =
      sum_rows n w a.wires (λ r. cond (is_above n s r) (get_or (map weight card) r 0) 0) (λ r. cond (is_above n q r) (get_or (map weight part) r 0) 0)
      (λ r lr.
      ap (λ y. cond (is_above n s r) y 0) (weight_there same weight alike n card part w a r lr)
      ∙ ap (λ b. cond b (get_or (map weight part) (row_there n w a.wires r) 0) 0) (above_there n w a.wires s q c r))

-- above row 0 lie all rows
above_all : (n r : ℕ) → is_above n 0 r ≡ true
above_all n r = (above_is n 0 r).1 (λ i li. omega (arith, bit_above i 0 (pow_pos i)))

pub sum_above_all : (weights : List ℕ) (n : ℕ) → sum_above weights n 0 ≡ sum_to (2 ^ n) (λ r. get_or weights r 0)
sum_above_all weights n = sum_ext (2 ^ n) (λ r. cond (is_above n 0 r) (get_or weights r 0) 0) (λ r. get_or weights r 0) (λ r lr. ap (λ b. cond b (get_or weights r 0) 0) (above_all n r))

-- sums of weights that are as large
pub sum_above_ext : (xs ys : List ℕ) (n s : ℕ) → ((r : ℕ) → r < 2 ^ n → get_or xs r 0 ≡ get_or ys r 0) → sum_above xs n s ≡ sum_above ys n s
sum_above_ext xs ys n s h = sum_ext (2 ^ n) (λ r. cond (is_above n s r) (get_or xs r 0) 0) (λ r. cond (is_above n s r) (get_or ys r 0) 0) (λ r lr. ap (λ y. cond (is_above n s r) y 0) (h r lr))

sum_most : (n : ℕ) → sum_to n (λ _. 255) ≡ 255 * n
sum_most zero = omega arith
sum_most (suc n) = let a = sum_most n in omega arith

pub sum_above_light : (xs : List ℕ) (n s : ℕ) → ((r : ℕ) → r < 2 ^ n → get_or xs r 0 < 256) → sum_above xs n s ≤ 255 * 2 ^ n
sum_above_light xs n s h =
    let most = sum_most (2 ^ n) in
    let below : sum_above xs n s ≤ sum_to (2 ^ n) (λ _. 255) =
    sum_le (2 ^ n) (λ r. cond (is_above n s r) (get_or xs r 0) 0) (λ _. 255)
    (λ r lr. cond_both (is_above n s r) (get_or xs r 0) 0 (λ y. y ≤ 255) (λ _. omega (arith, h r lr)) (λ _. omega arith)) in
    omega arith

sum_split : (a b : ℕ) (f : ℕ → ℕ) → sum_to (a + b) f ≡ sum_to a f + sum_to b (λ i. f (a + i))
sum_split a zero f = let e : a + 0 ≡ a = omega arith in ap (λ m. sum_to m f) e ∙ omega arith
sum_split a (suc b) f =
    let e : a + suc b ≡ suc (a + b) = omega arith in
    let r = sum_split a b f in
    ap (λ m. sum_to m f) e ∙ omega arith

above_ext : (k s t r q : ℕ) → ((i : ℕ) → i < k → bit i s ≡ bit i t) → ((i : ℕ) → i < k → bit i r ≡ bit i q) → is_above k s r ≡ is_above k t q
above_ext zero s t r q es er = refl
above_ext (suc k) s t r q es er =
    ap (λ y. nat_le y (bit k r) && is_above k s r) (es k (omega arith))
    ∙ ap (λ y. nat_le (bit k t) y && is_above k s r) (er k (omega arith))
    ∙ ap (λ b. nat_le (bit k t) (bit k q) && b) (above_ext k s t r q (λ i li. es i (omega arith)) (λ i li. er i (omega arith)))

-- the rows of one input more, by halves
module _ (k l : ℕ) (lt : l < 2 ^ k) where
  low_low : (r : ℕ) → is_above (suc k) l r ≡ is_above k l r
  low_low r = ap (λ b. b && is_above k l r) (le-leb (bit k l) (bit k r) (omega (arith, bit_above k l lt)))

  low_high : (r : ℕ) → r < 2 ^ k → is_above (suc k) l (2 ^ k + r) ≡ is_above k l r
  low_high r lr = low_low (2 ^ k + r) ∙ above_ext k l l (2 ^ k + r) r (λ i li. refl) (λ i li. bit_under k r i li)

  high_low : (r : ℕ) → r < 2 ^ k → is_above (suc k) (2 ^ k + l) r ≡ false
  high_low r lr = ap (λ b. b && is_above k (2 ^ k + l) r) (lt-leb (bit k (2 ^ k + l)) (bit k r) (omega (arith, bit_above k r lr, bit_top k l lt)))

  high_high : (r : ℕ) → r < 2 ^ k → is_above (suc k) (2 ^ k + l) (2 ^ k + r) ≡ is_above k l r
  high_high r lr =
      ap (λ b. b && is_above k (2 ^ k + l) (2 ^ k + r)) (le-leb (bit k (2 ^ k + l)) (bit k (2 ^ k + r)) (omega (arith, bit_top k l lt, bit_top k r lr)))
      ∙ above_ext k (2 ^ k + l) l (2 ^ k + r) r (λ i li. bit_under k l i li) (λ i li. bit_under k r i li)

  module _ (xs : List ℕ) where
    abbrev low : List ℕ
    low = take (2 ^ k) xs

    abbrev high : List ℕ
    high = drop (2 ^ k) xs

    in_low : (r : ℕ) → r < 2 ^ k → get_or low r 0 ≡ get_or xs r 0
    in_low r lr = get_or-take (2 ^ k) xs r 0 lr

    in_high : (r : ℕ) → get_or high r 0 ≡ get_or xs (2 ^ k + r) 0
    in_high r = get_or-drop (2 ^ k) xs r 0

    halved : (s : ℕ) → sum_above xs (suc k) s ≡ sum_to (2 ^ k) (λ r. cond (is_above (suc k) s r) (get_or xs r 0) 0) + sum_to (2 ^ k) (λ r. cond (is_above (suc k) s (2 ^ k + r)) (get_or xs (2 ^ k + r) 0) 0)
    halved s =
        ap (λ m. sum_to m (λ r. cond (is_above (suc k) s r) (get_or xs r 0) 0)) (two-pow-succ k) ∙ sum_split (2 ^ k) (2 ^ k) (λ r. cond (is_above (suc k) s r) (get_or xs r 0) 0)

    -- above a row of the lower half lie rows of both
    pub sum_low : sum_above xs (suc k) l ≡ sum_above low k l + sum_above high k l
    sum_low =
        let here : sum_to (2 ^ k) (λ r. cond (is_above (suc k) l r) (get_or xs r 0) 0) ≡ sum_above low k l =
        sum_ext (2 ^ k) (λ r. cond (is_above (suc k) l r) (get_or xs r 0) 0) (λ r. cond (is_above k l r) (get_or low r 0) 0)
        (λ r lr. ap (λ b. cond b (get_or xs r 0) 0) (low_low r) ∙ ap (λ y. cond (is_above k l r) y 0) (sym (in_low r lr))) in
        let there : sum_to (2 ^ k) (λ r. cond (is_above (suc k) l (2 ^ k + r)) (get_or xs (2 ^ k + r) 0) 0) ≡ sum_above high k l =
        sum_ext (2 ^ k) (λ r. cond (is_above (suc k) l (2 ^ k + r)) (get_or xs (2 ^ k + r) 0) 0) (λ r. cond (is_above k l r) (get_or high r 0) 0)
        (λ r lr. ap (λ b. cond b (get_or xs (2 ^ k + r) 0) 0) (low_high r lr) ∙ ap (λ y. cond (is_above k l r) y 0) (sym (in_high r))) in
        omega (arith, halved l, here, there)

    -- above a row of the upper half, rows of that half alone
    pub sum_high : sum_above xs (suc k) (2 ^ k + l) ≡ sum_above high k l
    sum_high =
        let here : sum_to (2 ^ k) (λ r. cond (is_above (suc k) (2 ^ k + l) r) (get_or xs r 0) 0) ≡ sum_to (2 ^ k) (λ _. 0) =
        sum_ext (2 ^ k) (λ r. cond (is_above (suc k) (2 ^ k + l) r) (get_or xs r 0) 0) (λ _. 0)
        (λ r lr. ap (λ b. cond b (get_or xs r 0) 0) (high_low r lr)) in
        let there : sum_to (2 ^ k) (λ r. cond (is_above (suc k) (2 ^ k + l) (2 ^ k + r)) (get_or xs (2 ^ k + r) 0) 0) ≡ sum_above high k l =
        sum_ext (2 ^ k) (λ r. cond (is_above (suc k) (2 ^ k + l) (2 ^ k + r)) (get_or xs (2 ^ k + r) 0) 0) (λ r. cond (is_above k l r) (get_or high r 0) 0)
        (λ r lr. ap (λ b. cond b (get_or xs (2 ^ k + r) 0) 0) (high_high r lr) ∙ ap (λ y. cond (is_above k l r) y 0) (sym (in_high r))) in
        omega (arith, halved (2 ^ k + l), here, there, sum_zero (2 ^ k))

-- the sums of a table, from those of its halves
pub sum_joined : (k : ℕ) (xs low high : List ℕ) → length low ≡ 2 ^ k
    → ((l : ℕ) → l < 2 ^ k → get_or low l 0 ≡ sum_above (take (2 ^ k) xs) k l + sum_above (drop (2 ^ k) xs) k l)
    → ((l : ℕ) → l < 2 ^ k → get_or high l 0 ≡ sum_above (drop (2 ^ k) xs) k l)
    → (s : ℕ) → s < 2 ^ suc k → get_or (low ++ high) s 0 ≡ sum_above xs (suc k) s
sum_joined k xs low high len in_low in_high s lt =
    ⊎_elim
    (λ l. get_or-append low high 0 s (omega arith) ∙ in_low s l ∙ sym (sum_low k s l xs))
    (λ ge.
    let l : s - 2 ^ k < 2 ^ k = omega (arith, two-pow-succ k) in
    let e : 2 ^ k + (s - 2 ^ k) ≡ s = omega arith in
    get_or-append_right low high (2 ^ k) s 0 len ge ∙ in_high (s - 2 ^ k) l ∙ sym (sum_high k (s - 2 ^ k) l xs) ∙ ap (λ y. sum_above xs (suc k) y) e)
    (cases_lt s (2 ^ k))
