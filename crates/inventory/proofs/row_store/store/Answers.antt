use Rattle.std.proofs.Common.{◌+◌, ◌-◌, ◌*◌, arith}
use Rattle.inventory.proofs.Writes.{put_front}
use Rattle.inventory.proofs.row_store.store.Goals as goal

pub returns : goal.returns
returns g c =
    let start = c.args.slot * 1024 in
    put_front c.args.memory.now c.args.rows.now c.copy_rows.new.stretch start (start + 1024 - start) (omega arith) (omega arith) c.copy_rows.ensures
