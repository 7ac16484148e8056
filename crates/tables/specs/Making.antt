use Rattle.std.specs.Prelude.{◌≡◌, ℕ, ◌+◌, ◌^◌, ◌<◌, ◌≤◌, not, ◌⊎◌, List, length, Some, None, Ok, Err, Option, Result, ◌==◌, ◌≢◌, nat_lt}
use Rattle.refusals.specs.Due.{Due, none, first}
use Rattle.refusals.specs.Numbers.{number}
use Rattle.refusals.specs.declared.refusal.Refusal.{Refusal}
use Rattle.tables.specs.Wirings.{pin, Wires, Alike}
use Rattle.tables.specs.declared.partial_wiring.PartialWiring.{PartialWiring}
use Rattle.tables.specs.declared.table.Table.{Table}
use Rattle.tables.specs.declared.wiring.Wiring.{Wiring}

-- a table of n inputs and so many rows: more than ten inputs is refused with 3, then rows that are not 2^n with 4
abbrev pub table_due : ℕ → ℕ → Due
table_due n rows = first (nat_lt 10 n) 3 (first (not (rows == 2 ^ n)) 4 none)

-- the table of n inputs with these rows
abbrev pub IsTable : {R : Type 0} → ℕ → List R → Table R → Type 0
IsTable n rows table = (table.inputs ≡ n) × (table.rows.now ≡ rows)

-- a wiring of more than ten inputs is refused with 3
abbrev pub wiring_due : ℕ → Due
wiring_due n = first (nat_lt 10 n) 3 none

-- the pins name a wiring for n inputs: as many pins as inputs, each below n, and none twice
abbrev pub Names : ℕ → List ℕ → Type 0
Names n pins = (length pins ≡ n) × Wires n (pin pins)

-- a wiring from a list of pins: more than ten inputs is refused with 3, then pins that name no wiring with 14
abbrev pub WiringMade : ℕ → List ℕ → Result Wiring Refusal → Type 0
WiringMade n pins (Ok w) = (n ≤ 10) × (w.inputs ≡ n) × (length pins ≡ n) × Alike n (pin w.pins) (pin pins)
WiringMade n pins (Err reason) =
    ((10 < n) × (number reason ≡ 3)) ⊎ ((n ≤ 10) × (Names n pins → ⊥) × (number reason ≡ 14))

-- a wiring for n inputs of which no input has its pin yet
abbrev pub IsEmpty : ℕ → PartialWiring → Type 0
IsEmpty n w = (w.inputs ≡ n) × (w.len ≡ 0)

-- there is a next input, and it can have pin p: one below n that no input has
abbrev pub Takes : PartialWiring → ℕ → Type 0
Takes w p = (w.len < w.inputs) × (p < w.inputs) × ((i : ℕ) → i < w.len → pin w.pins i ≢ p)

-- with a pin for the next input, or none where that cannot have it
abbrev pub Extended : PartialWiring → ℕ → Option PartialWiring → Type 0
Extended w p (Some longer) =
    (longer.inputs ≡ w.inputs) × (longer.len ≡ w.len + 1) × Alike w.len (pin longer.pins) (pin w.pins)
    × (pin longer.pins w.len ≡ p)
Extended w p None = Takes w p → ⊥

-- the wiring with these pins, once there is one for each input
abbrev pub Finished : PartialWiring → Option Wiring → Type 0
Finished w (Some wiring) = (w.len ≡ w.inputs) × (wiring.inputs ≡ w.inputs) × (wiring.pins ≡ w.pins)
Finished w None = w.len < w.inputs
