use Rattle.std.proofs.Common.{◌≡◌, ℕ, ◌<◌, true, get_or}
use Rattle.tables.specs.Agreement.{bit}
use Rattle.symmetry.specs.Symmetry.{exchanged}
use Rattle.symmetry.proofs.exchange.are_symmetric.Given as goal

abbrev pub invariant-loop-r : goal.invariant-loop-r
invariant-loop-r g l =
    (q : ℕ) (d : g.row.R.Denot) → q < l.r → bit l.i q ≡ 1 → bit l.k q ≡ 0
    → g.R.RowKind.same (get_or l.table.rows.now q d) (get_or l.table.rows.now (exchanged l.table.inputs l.i l.k q) d) ≡ true
