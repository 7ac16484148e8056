-- What each signature answers, for a table of n inputs, an input i and a place p.
use Rattle.std.specs.Prelude.{ℕ, zero, suc, ◌+◌, ◌-◌, ◌*◌, ◌%◌, ◌^◌, min, Bool, if◌then◌else◌, List, [], ◌∷◌, map, drop, ◌==◌, count_ones, nat_le, nat_lt, slice_index, slice_index_or}
use Rattle.tables.specs.Sums.{sum_to}
use Rattle.tables.specs.Agreement.{bit}

-- x where bit i of r is 1, and else 0
abbrev pub where_on : ℕ → ℕ → ℕ → ℕ
where_on i r x = if bit i r == 1 then x else 0

-- what a row r of this weight adds to what breakup answers for input i, at place p of a list where its answers begin at from
abbrev pub adds : ℕ → ℕ → ℕ → ℕ → ℕ → ℕ
adds from weight i r p = if nat_le from p then where_on i r (if count_ones r == p - from + 1 then weight else 0) else 0

-- over all inputs but i: what pairs it with i, times what its answer gives
abbrev pub refined_sum : ℕ → ℕ → (ℕ → ℕ) → (ℕ → ℕ) → ℕ
refined_sum n i pair answer = sum_to n (λ k. if k == i then 0 else pair k * (1 + answer k % 4096))

-- over the sums of a table and the lists below: each other input's answer, by the sum above the two inputs
abbrev pub refined_from : List ℕ → List (List ℕ) → ℕ → ℕ → ℕ → ℕ
refined_from sums below n i p = refined_sum n i (λ k. slice_index sums (2 ^ i + 2 ^ k)) (λ k. slice_index (slice_index_or below k []) p)

module _ {R : Type 0} (weight : R → ℕ) where
  -- the weight of row r
  abbrev pub weight_at : List R → ℕ → ℕ
  weight_at rows r = slice_index (map weight rows) r

  -- the sum of the weights over the rows whose bit i is 1
  abbrev pub cofactor : ℕ → List R → ℕ → ℕ → ℕ
  cofactor n rows i p = sum_to (2 ^ n) (λ r. where_on i r (weight_at rows r))

  -- the same over those of them that have exactly p + 1 bits set
  abbrev pub breakup : ℕ → List R → ℕ → ℕ → ℕ
  breakup n rows i p = sum_to (2 ^ n) (λ r. where_on i r (if count_ones r == p + 1 then weight_at rows r else 0))

  -- the sum of the weights over the rows whose bits i and k are both 1
  abbrev pub paired : ℕ → List R → ℕ → ℕ → ℕ
  paired n rows i k = sum_to (2 ^ n) (λ r. where_on i r (where_on k r (weight_at rows r)))

  -- over what a signature below answers: each other input's answer, by the weight that it shares with i
  abbrev pub refined : (ℕ → List R → ℕ → ℕ → ℕ) → ℕ → List R → ℕ → ℕ → ℕ
  refined below n rows i p = refined_sum n i (paired n rows i) (λ k. below n rows k p)

-- f of two rows of a table
abbrev pub of_first : {R : Type 0} → (R → ℕ) → List R → ℕ
of_first f [] = 0
of_first f (x ∷ xs) = f x

abbrev pub of_pair : {R : Type 0} → (R → R → ℕ) → List R → ℕ → ℕ → ℕ
of_pair f rows q r = of_first (λ x. of_first (λ y. f x y) (drop r rows)) (drop q rows)

module _ {R : Type 0} (same : R → R → Bool) (weight : R → ℕ) where
  -- what the three places of neighbour ask of a row and the row with one bit more: the same, heavier, lighter
  abbrev pub compared : ℕ → R → R → Bool
  compared zero off on = same off on
  compared (suc zero) off on = nat_lt (weight off) (weight on)
  compared (suc (suc p)) off on = nat_lt (weight on) (weight off)

  -- over the pairs of rows that differ only in bit i, how many compare so
  abbrev pub neighbour : ℕ → List R → ℕ → ℕ → ℕ
  neighbour n rows i p = sum_to (2 ^ n) (λ r. where_on i r (of_pair (λ off on. if compared p off on then 1 else 0) rows (r - 2 ^ i) r))

-- the places of two, cut off after 64
abbrev pub piled_count : ℕ → ℕ → ℕ
piled_count a b = min (a + b) 64

-- the first's answer at its a places, and the second's from there on
abbrev pub piled : {R : Type 0} → ℕ → (ℕ → List R → ℕ → ℕ → ℕ) → (ℕ → List R → ℕ → ℕ → ℕ) → ℕ → List R → ℕ → ℕ → ℕ
piled a first second n rows i p = if nat_lt p a then first n rows i p else second n rows i (p - a)
