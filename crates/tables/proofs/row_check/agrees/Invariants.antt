use Rattle.std.proofs.Common.{◌≡◌, ℕ, ◌<◌, true, get_or}
use Rattle.tables.specs.Wirings.{pin}
use Rattle.tables.specs.Carry.{carry}
use Rattle.tables.proofs.row_check.agrees.Given as goal

abbrev pub invariant-loop-r : goal.invariant-loop-r
invariant-loop-r g l =
    (k : ℕ) (d : g.row.R.Denot) → k < l.r
    → g.R.RowKind.same (get_or l.card.rows.now k d) (get_or l.part.rows.now (carry l.wiring.inputs (pin l.wiring.pins) k) d) ≡ true
