use Rattle.std.proofs.Common.{◌^◌, ◌≤◌, length, arith, pow_mono}
use Rattle.tables.specs.declared.table.Table.{Table}
use Rattle.matching.proofs.search.fits.Goals as goal

few : {R : Type 0} (table : Table R) → length table.rows.now ≤ 1024
few table = let top : 2 ^ table.inputs ≤ 2 ^ 10 = pow_mono table.few in omega (arith, table.whole)

pub bounds-card_sums-row : goal.bounds-card_sums-row
bounds-card_sums-row g c = omega (arith, few c.args.card.now)

pub bounds-part_sums-there : goal.bounds-part_sums-there
bounds-part_sums-there g c = omega (arith, few c.args.part.now)
