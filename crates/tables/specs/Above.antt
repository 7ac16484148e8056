-- A row number as a set of inputs: those that are on in the row.
use Rattle.std.specs.Prelude.{◌≡◌, ℕ, zero, suc, ◌^◌, ◌<◌, Bool, true, ◌&&◌, if◌then◌else◌, List, map, nat_le, slice_index}
use Rattle.tables.specs.Sums.{sum_to}
use Rattle.tables.specs.Agreement.{bit}
use Rattle.tables.specs.declared.table.Table.{Table}

-- whether each of the n inputs that is on in row s is on in row r too
abbrev pub is_above : ℕ → ℕ → ℕ → Bool
is_above zero s r = true
is_above (suc n) s r = nat_le (bit n s) (bit n r) && is_above n s r

-- of the weights of 2^n rows, the sum over the rows in which each input that is on in row s is on
abbrev pub sum_above : List ℕ → ℕ → ℕ → ℕ
sum_above weights n s = sum_to (2 ^ n) (λ r. if is_above n s r then slice_index weights r else 0)

-- at each row of the table stands the sum of the weights above it
abbrev pub SumsAbove : {R : Type 0} → (R → ℕ) → Table R → List ℕ → Type 0
SumsAbove weight table sums = (s : ℕ) → s < 2 ^ table.inputs → slice_index sums s ≡ sum_above (map weight table.rows.now) table.inputs s
