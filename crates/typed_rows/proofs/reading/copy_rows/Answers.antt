use Rattle.std.proofs.Common.{◌<◌, length, get_or, inl, arith}
use Rattle.std.proofs.lemmas.List.{get_or_default}
use Rattle.typed_rows.proofs.Spelling.{spells_none}
use Rattle.typed_rows.proofs.reading.copy_rows.Goals as goal

pub returns-in_err-room : goal.returns-in_err-room
returns-in_err-room c =
    let digits = c.args.digits.now in
    let i = c.loop-i.i in
    let byte = get_or digits i 0 in
    let within : i < length digits = omega arith in
    rw c.from_residual.ensures (inl (spells_none digits i byte (within, get_or_default digits i 0 byte within) c.in_err-room.ensures, c.loop-i.invariant.kept))
