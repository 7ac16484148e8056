-- What an input shares with the other inputs, from the sums of the weights above the rows.
use Rattle.std.specs.Prelude.{ℕ, ◌+◌, ◌*◌, ◌%◌, ◌^◌, Bool, ◌&&◌, not, if◌then◌else◌, List, ◌==◌, nat_lt, slice_index}
use Rattle.tables.specs.Sums.{sum_to}

-- what an input adds that shares the weight both, and weighs own itself
abbrev pub share : ℕ → ℕ → ℕ
share both own = both * (1 + (both + own) % 4096)

-- what input i shares with the other inputs: over each of them, the weight that the two share, with its own weight mixed in
abbrev pub shared : List ℕ → ℕ → ℕ → ℕ
shared sums n i = sum_to n (λ k. if k == i then 0 else share (slice_index sums (2 ^ i + 2 ^ k)) (slice_index sums (2 ^ k)))

-- whether input i and pin p share otherwise with the others
abbrev pub unlike : List ℕ → List ℕ → ℕ → ℕ → ℕ → Bool
unlike card_sums part_sums n i p = nat_lt i n && nat_lt p n && not (shared card_sums n i == shared part_sums n p)
