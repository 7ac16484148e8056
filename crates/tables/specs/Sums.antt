use Rattle.std.specs.Prelude.{ℕ, zero, suc, ◌+◌, List, map, slice_index}

-- f 0 + f 1 + .. + f (n - 1)
abbrev pub sum_to : ℕ → (ℕ → ℕ) → ℕ
sum_to zero f = 0
sum_to (suc n) f = sum_to n f + f n

-- the sum of the weights of the first k rows
abbrev pub weighed : {R : Type 0} → (R → ℕ) → List R → ℕ → ℕ
weighed weight rows k = sum_to k (λ r. slice_index (map weight rows) r)
