use Rattle.std.proofs.Common.{◌≡◌, ℕ, ◌^◌, ◌<◌, length, get_or, vec_items}
use Rattle.tables.specs.Wirings.{pin}
use Rattle.tables.specs.Agreement.{Carried}
use Rattle.rebuild.proofs.sample.readings_of.Given as goal

abbrev pub invariant-loop-row : goal.invariant-loop-row
invariant-loop-row g l =
    (length (vec_items l.readings) ≡ l.row)
    × ((r : ℕ) (d : g.row.R.Denot) → r < l.row → (q : ℕ) × (q < 2 ^ l.part.inputs) × Carried l.part.inputs (pin l.wiring.pins) r q × (get_or (vec_items l.readings) r d ≡ get_or l.part.rows.now q d))
