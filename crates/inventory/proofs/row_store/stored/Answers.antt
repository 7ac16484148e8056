use Rattle.std.proofs.Common.{arith}
use Rattle.inventory.proofs.Writes.{shift_rows, rows_fit}
use Rattle.inventory.proofs.row_store.stored.Goals as goal

pub slice_bounds-rows-end : goal.slice_bounds-rows-end
slice_bounds-rows-end g c =
    let small = rows_fit c.args.inputs c.requires.inputs_few in
    omega (arith, shift_rows c.args.inputs c.requires.inputs_few, c.requires.slot_few, c.requires.stretch_in)
