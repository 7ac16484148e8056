-- The product of factorials, an input at a time.
use Rattle.std.proofs.Common.{◌≡◌, ℕ, zero, suc, ◌+◌, ◌*◌, ◌^◌, ◌<◌, ◌≤◌, min, eqb, List, [], ◌∷◌, map, length, get_or, drop, sym, refl, ap, ◌∙◌, ⊎_elim, mul_assoc, mul-le-mul, mul-pos, one-mul, mul-one, le-mul_of_pos_right, mul_left_comm, one-add, arith}
use native.Mathlib.Nat.{mul-mul-mul_comm, pow-zero, pow-succ'}
use Rattle.std.proofs.lemmas.List.{at_drop_more}
use Rattle.std.proofs.lemmas.List.Sums.{count_by-le-length}
use Rattle.std.proofs.lemmas.Bool.{cases_Bool, cases_eq, cond-true, cond-false, cond_both, eqb-true}
use Rattle.std.proofs.lemmas.Bool.Decides.{nat_tests}
use Rattle.lists.specs.Lists.{equal}
use Rattle.lists.specs.Spread.{times, once, factorial, product, level, spread}
use Rattle.lists.proofs.Times.{cases_list, one_same, one_other, times_cons, Level, level_decides}

-- an input can go to as many pins as it and the later inputs have its list
abbrev pub running : List (List ℕ) → ℕ
running [] = 1
running (x ∷ xs) = suc (times x xs) * running xs

-- a factor k for each x of the list
product_grows : (k : ℕ) (x : List ℕ) (f g : List ℕ → ℕ) → g x ≡ k * f x → ((y : List ℕ) → (x ≡ y → ⊥) → g y ≡ f y) → (ys : List (List ℕ)) → product (map g ys) ≡ k ^ times x ys * product (map f ys)
product_grows k x f g at off [] = sym (ap (λ n. n * 1) (pow-zero k))
product_grows k x f g at off (y ∷ ys) =
    let t = times x ys in
    let rest = product (map f ys) in
    ap (λ n. g y * n) (product_grows k x f g at off ys)
    ∙ ⊎_elim
    (λ same.
    let here : g y ≡ k * f y = ap g (sym same) ∙ at ∙ ap (λ z. k * f z) same in
    let more : times x (y ∷ ys) ≡ suc t = omega (arith, times_cons x y ys, one_same x y same) in
    ap (λ n. n * (k ^ t * rest)) here ∙ mul-mul-mul_comm k (f y) (k ^ t) rest ∙ ap (λ n. n * (f y * rest)) (sym (ap (λ n. k ^ n) more ∙ pow-succ' k t)))
    (λ other.
    let none : times x (y ∷ ys) ≡ t = omega (arith, times_cons x y ys, one_other x y other) in
    ap (λ n. n * (k ^ t * rest)) (off y other) ∙ mul_left_comm (f y) (k ^ t) rest ∙ ap (λ n. k ^ n * (f y * rest)) (sym none))
    (cases_list x y)

once_times : (x : List ℕ) (xs : List (List ℕ)) → times x (once xs) ≡ min (times x xs) 1
once_times x [] = refl
once_times x (z ∷ zs) =
    let rest = once_times x zs in
    let all = times_cons x z zs in
    let more = times_cons x z (once zs) in
    let here = one_same x z in
    let there = one_other x z in
    let same : x ≡ z → times x zs ≡ times z zs = λ e. ap (λ y. times y zs) e in
    ⊎_elim (λ e. grind (arith, nat_tests)) (λ ne. grind (arith, nat_tests)) (cases_list x z)

-- x brings a factor only if it is new
once_more : (f : List ℕ → ℕ) (x : List ℕ) (xs : List (List ℕ)) → (times x xs ≡ 0 → f x ≡ 1) → product (map f (once (x ∷ xs))) ≡ product (map f (once xs))
once_more f x xs new =
    cond_both (eqb (times x xs) 0) (x ∷ once xs) (once xs) (λ l. product (map f l) ≡ product (map f (once xs)))
    (λ none. ap (λ n. n * product (map f (once xs))) (new (eqb-true (times x xs) 0 none)) ∙ one-mul (product (map f (once xs))))
    (λ _. refl)

running_is : (xs : List (List ℕ)) → running xs ≡ product (map (λ x. factorial (times x xs)) (once xs))
running_is [] = refl
running_is (x ∷ xs) =
    let k : ℕ = suc (times x xs) in
    let f : List ℕ → ℕ = λ y. factorial (times y xs) in
    let g : List ℕ → ℕ = λ y. factorial (times y (x ∷ xs)) in
    let more : times x (x ∷ xs) ≡ suc (times x xs) = omega (arith, times_cons x x xs, one_same x x refl) in
    let single : times x (once (x ∷ xs)) ≡ 1 = omega (arith, once_times x (x ∷ xs)) in
    let grows = product_grows k x f g (ap factorial more) (λ y other. ap factorial (omega (arith, times_cons y x xs, one_other y x (λ e. other (sym e))))) (once (x ∷ xs)) in
    let power : k ^ times x (once (x ∷ xs)) ≡ k = ap (λ n. k ^ n) single ∙ pow-succ' k 0 ∙ ap (λ n. k * n) (pow-zero k) ∙ mul-one k in
    ap (λ n. k * n) (running_is xs ∙ sym (once_more f x xs (ap factorial)))
    ∙ sym (grows ∙ ap (λ n. n * product (map f (once (x ∷ xs)))) power)

module _ (xs ps : List (List ℕ)) where
  pub spread_running : Level xs ps → spread xs ps ≡ running xs
  spread_running h = cond-true (level xs ps) _ 0 ((level_decides xs ps).1 h) ∙ sym (running_is xs)

  pub spread_zero : (Level xs ps → ⊥) → spread xs ps ≡ 0
  spread_zero off = ⊎_elim (λ t. absurd (off ((level_decides xs ps).0 t))) (cond-false (level xs ps) _ 0) (cases_Bool (level xs ps))

-- the product fits: at most 10! ways
factorial_up : (n m : ℕ) → n ≤ m → factorial n ≤ factorial m
factorial_up n zero h = let e : n ≡ 0 = omega arith in rw e (omega arith)
factorial_up n (suc m) h =
    ⊎_elim
    (λ e. rw e (omega arith))
    (λ ne.
    let below = factorial_up n m (omega arith) in
    let more : 1 * factorial m ≤ suc m * factorial m = mul-le-mul (omega arith) (omega arith) in
    omega arith)
    (cases_eq n (suc m))

running_le : (xs : List (List ℕ)) → running xs ≤ factorial (length xs)
running_le [] = omega arith
running_le (x ∷ xs) = mul-le-mul (omega (arith, count_by-le-length (equal x) xs)) (running_le xs)

running_pos : (xs : List (List ℕ)) → 0 < running xs
running_pos [] = omega arith
running_pos (x ∷ xs) = mul-pos (omega arith) (running_pos xs)

pub running_fits : (xs rest : List (List ℕ)) (p : ℕ) → length xs ≤ 10 → p * running rest ≡ running xs → p ≤ 3628800
running_fits xs rest p few e = omega (arith, le-mul_of_pos_right p (running_pos rest), running_le xs, factorial_up (length xs) 10 few)

-- an input more
pub running_more : (xs : List (List ℕ)) (i p t : ℕ) → i < length xs → t ≡ times (get_or xs i []) (drop (i + 1) xs) → p * running (drop i xs) ≡ running xs → p * (1 + t) * running (drop (i + 1) xs) ≡ running xs
running_more xs i p t lt e h =
    mul_assoc p (1 + t) (running (drop (i + 1) xs)) ∙ ap (λ n. p * (n * running (drop (i + 1) xs))) (one-add t ∙ ap suc e) ∙ ap (λ n. p * n) (sym (at_drop_more running xs i [] lt)) ∙ h
