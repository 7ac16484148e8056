-- The law of neighbour, and what a pair of rows adds to it.
use Rattle.std.proofs.Common.{◌≡◌, ℕ, zero, suc, ◌-◌, ◌^◌, ◌<◌, ◌≤◌, Bool, true, cond, eqb, List, [], ◌∷◌, length, get_or, drop, sym, ap, ◌∙◌, ⊎_elim, arith, drop-cons, pow_pos}
use Rattle.std.proofs.lemmas.List.{get_or_read}
use Rattle.std.proofs.lemmas.Bool.{cases_eq}
use Rattle.tables.specs.Agreement.{bit, Agree}
use Rattle.tables.proofs.Reindex.{row_there, there_lt, carried, sum_rows}
use Rattle.signatures.specs.Law.{Lawful}
use Rattle.signatures.specs.Values.{where_on, of_first, of_pair, compared, neighbour}
use Rattle.signatures.proofs.Flips.{flip, flip_lt, flip_less, flip_there}
use Rattle.signatures.proofs.Turns.{on_yes, on_no, cond_most}

pub of_pair_is : {R : Type 0} (f : R → R → ℕ) (rows : List R) (q r : ℕ) (d : R) → q < length rows → r < length rows → of_pair f rows q r ≡ f (get_or rows q d) (get_or rows r d)
of_pair_is f rows q r d lq lr =
    ap (of_first (λ x. of_first (λ y. f x y) (drop r rows))) (drop-cons rows q d lq)
    ∙ ap (of_first (λ y. f (get_or rows q d) y)) (drop-cons rows r d lr)

module _ {R : Type 0} (same : R → R → Bool) (weight : R → ℕ)
    (symmetric : (x y : R) → same x y ≡ true → same y x ≡ true)
    (transitive : (x y z : R) → same x y ≡ true → same y z ≡ true → same x z ≡ true)
    (alike : (x y : R) → same x y ≡ true → weight x ≡ weight y) where
  both_true : (a b : Bool) → (a ≡ true → b ≡ true) → (b ≡ true → a ≡ true) → a ≡ b
  both_true a b to from = grind arith

  -- rows that are the same compare alike
  compares : (x y u v : R) → same x u ≡ true → same y v ≡ true → (p : ℕ) → compared same weight p x y ≡ compared same weight p u v
  compares x y u v xu yv zero =
      both_true (same x y) (same u v) (λ xy. transitive u y v (transitive u x y (symmetric x u xu) xy) yv) (λ uv. transitive x v y (transitive x u v xu uv) (symmetric y v yv))
  compares x y u v xu yv (suc zero) = let one = alike x u xu in let two = alike y v yv in cc
  compares x y u v xu yv (suc (suc p)) = let one = alike x u xu in let two = alike y v yv in cc

  abbrev tally : ℕ → R → R → ℕ
  tally p off on = cond (compared same weight p off on) 1 0

  pair_there : (n : ℕ) (card part : List R) (w : ℕ → ℕ) (a : Agree same n w card part) (p q r : ℕ) → q < 2 ^ n → r < 2 ^ n
      → of_pair (tally p) card q r ≡ of_pair (tally p) part (row_there n w a.wires q) (row_there n w a.wires r)
  pair_there n [] part w a p q r lq lr = let pos = pow_pos n in let e = a.card_rows in absurd (omega arith)
  pair_there n (d ∷ card) part w a p q r lq lr =
      let to = row_there n w a.wires in
      let there = there_lt n w a.wires in
      let alike_at : (k : ℕ) → k < 2 ^ n → same (get_or (d ∷ card) k d) (get_or part (to k) d) ≡ true = λ k lk. a.rows k (to k) d lk (there k) (carried n w a.wires k) in
      let in_card : (k : ℕ) → k < 2 ^ n → k < length (d ∷ card) = λ k lk. (let e = a.card_rows in omega arith) in
      let in_part : (k : ℕ) → to k < length part = λ k. (let l = there k in let e = a.part_rows in omega arith) in
      of_pair_is (tally p) (d ∷ card) q r d (in_card q lq) (in_card r lr)
      ∙ ap (λ t. cond t 1 0) (compares _ _ _ _ (alike_at q lq) (alike_at r lr) p)
      ∙ sym (of_pair_is (tally p) part (to q) (to r) d (in_part q) (in_part r))

  pub neighbour_lawful : Lawful 3 (neighbour same weight) same
  neighbour_lawful n card part w a i p li lp = sum_rows n w a.wires _ _ (λ r lr.
      let to = row_there n w a.wires in
      let here = carried n w a.wires r i li in
      ⊎_elim
      (λ on.
      let on' : bit (w i) (to r) ≡ 1 = here ∙ on in
      let less : flip n i r ≡ r - 2 ^ i = (let e = flip_less n i r li lr on in omega arith) in
      let less' : flip n (w i) (to r) ≡ to r - 2 ^ w i = (let e = flip_less n (w i) (to r) (a.wires.0 i li) (there_lt n w a.wires r) on' in omega arith) in
      on_yes i r _ on
      ∙ ap (λ q. of_pair (tally p) card q r) (sym less)
      ∙ pair_there n card part w a p (flip n i r) r (flip_lt n i r) lr
      ∙ ap (λ q. of_pair (tally p) part q (to r)) (flip_there n w a.wires i r li ∙ less')
      ∙ sym (on_yes (w i) (to r) _ on'))
      (λ off. on_no i r _ off ∙ sym (on_no (w i) (to r) _ (λ e. off (sym here ∙ e))))
      (cases_eq (bit i r) 1))

-- what row r adds at place p
of_first_most : {R : Type 0} (f : R → ℕ) (m : ℕ) → ((x : R) → f x ≤ m) → (xs : List R) → of_first f xs ≤ m
of_first_most f m small [] = omega arith
of_first_most f m small (x ∷ xs) = small x

module _ {R : Type 0} (same : R → R → Bool) (weight : R → ℕ) (rows : List R) (i : ℕ) where
  abbrev pub term : ℕ → ℕ → ℕ
  term p r = where_on i r (of_pair (λ off on. cond (compared same weight p off on) 1 0) rows (r - 2 ^ i) r)

  pub term_small : (p r : ℕ) → term p r ≤ 1
  term_small p r =
      cond_most (eqb (bit i r) 1) _ 1 (of_first_most _ 1 (λ x. of_first_most _ 1 (λ y. cond_most (compared same weight p x y) 1 1 (omega arith)) (drop r rows)) (drop (r - 2 ^ i) rows))

  pub term_is : (p r half : ℕ) (d y : R) → bit i r ≡ 1 → half ≡ 2 ^ i → r < length rows → y ≡ get_or rows r y → term p r ≡ cond (compared same weight p (get_or rows (r - half) d) y) 1 0
  term_is p r half d y on e lr is =
      on_yes i r _ on ∙ of_pair_is (λ off on. cond (compared same weight p off on) 1 0) rows (r - 2 ^ i) r d (omega arith) lr
      ∙ ap (λ y. cond (compared same weight p (get_or rows (r - 2 ^ i) d) y) 1 0) (sym (get_or_read rows r y lr is d))
      ∙ ap (λ h. cond (compared same weight p (get_or rows (r - h) d) y) 1 0) (sym e)
