-- The names of two signatures are the literature's: at on/off rows they count on-rows.
use Rattle.std.specs.Prelude.{◌≡◌, ℕ, ◌+◌, ◌^◌, ◌<◌, ◌≤◌, Bool, true, false, ◌&&◌, List, count_by, ◌==◌, count_ones, slice_index_or}
use Rattle.std.specs.List.{range_with_len}
use Rattle.rows.specs.Kinds.{on_off_weight}
use Rattle.rows.specs.declared.on_off.OnOff.{OnOff}
use Rattle.rows.specs.declared.on_off.OnOff.TheVariants.{Off, On}
use Rattle.tables.specs.Agreement.{bit}
use Rattle.tables.specs.Sums.{sum_to}
use Rattle.signatures.specs.Values.{cofactor, breakup}

abbrev pub is_on : OnOff → Bool
is_on Off = false
is_on On = true

-- row r is an on-row of the positive cofactor of input i
abbrev pub on_with : List OnOff → ℕ → ℕ → Bool
on_with rows i r = is_on (slice_index_or rows r Off) && bit i r == 1

-- the cofactor satisfy count: how many on-rows have the input on
abbrev pub CofactorCounts : Type 0
CofactorCounts = (n : ℕ) (rows : List OnOff) (i p : ℕ) → cofactor on_off_weight n rows i p ≡ count_by (on_with rows i) (range_with_len 0 (2 ^ n))

-- the cofactor breakup: how many of them have p + 1 inputs on
abbrev pub BreakupCounts : Type 0
BreakupCounts = (n : ℕ) (rows : List OnOff) (i p : ℕ) → breakup on_off_weight n rows i p ≡ count_by (λ r. on_with rows i r && count_ones r == p + 1) (range_with_len 0 (2 ^ n))

-- the breakup breaks up the cofactor, for rows of any kind
abbrev pub BreakupSums : {R : Type 0} → (R → ℕ) → Type 0
BreakupSums {R} weight = (n : ℕ) (rows : List R) (i : ℕ) → n ≤ 10 → i < n → sum_to 10 (λ p. breakup weight n rows i p) ≡ cofactor weight n rows i 0
