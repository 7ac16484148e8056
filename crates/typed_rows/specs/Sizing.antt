-- Rows as tables.
use Rattle.std.specs.Prelude.{◌≡◌, ◌≢◌, ℕ, ◌^◌, ◌<◌, ◌≤◌, ◌⊎◌, List, length, Ok, Err, Result}
use Rattle.refusals.specs.declared.refusal.Refusal.{Refusal}
use Rattle.refusals.specs.Numbers.{number}
use Rattle.tables.specs.declared.table.Table.{Table}

-- so many rows are refused as a table: more than 1,024 with 3, and others that are 2^n for no n with 4
abbrev pub NoTable : ℕ → Refusal → Type 0
NoTable rows refusal =
    ((2 ^ 10 < rows) × (number refusal ≡ 3))
    ⊎ ((rows ≤ 2 ^ 10) × ((n : ℕ) → rows ≢ 2 ^ n) × (number refusal ≡ 4))

-- the table of these rows, or why there is none
abbrev pub IsSized : {R : Type 0} → List R → Result (Table R) Refusal → Type 0
IsSized rows (Ok table) = table.rows.now ≡ rows
IsSized rows (Err refusal) = NoTable (length rows) refusal
