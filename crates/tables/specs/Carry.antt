use Rattle.std.specs.Prelude.{ℕ, ◌*◌, ◌^◌}
use Rattle.tables.specs.Sums.{sum_to}
use Rattle.tables.specs.Agreement.{bit}

-- the part row that the first k inputs carry card row r to
abbrev pub carry : ℕ → (ℕ → ℕ) → ℕ → ℕ
carry k w r = sum_to k (λ i. bit i r * 2 ^ w i)
