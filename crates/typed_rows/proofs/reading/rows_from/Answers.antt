use Rattle.std.proofs.Common.{◌≡◌, None}
use Rattle.std.proofs.lemmas.Iterator.Consumers.{YieldsList-turn}
use Rattle.std.proofs.lemmas.Iterator.Adapters.{YieldsList-from_bytes}
use Rattle.std.proofs.lemmas.Result.{err_from_is_err_and}
use Rattle.typed_rows.specs.declared.rows_error.RowsError.TheVariants.{NotDigits}
use Rattle.typed_rows.specs.Reading.{IsRow}
use Rattle.typed_rows.proofs.Spelling.{spells_none}
use Rattle.typed_rows.proofs.reading.rows_from.Goals as goal

pub returns-in_err-row : goal.returns-in_err-row
returns-in_err-row c =
    let given = c.in_err-row.ensures in
    let turn = YieldsList-turn (YieldsList-from_bytes c.args.text.now cc) c.loop-byte.yielded _ c.loop-byte.yielded_by _ _ c.in-Some.byte c.in-Some.is c.next.ensures.steps in
    let none : IsRow c.in-Some.byte None = rw given.ok_part at c.row_of.ensures in
    let error : c.in_err-row.field-0.0 ≡ NotDigits = (let e = rw given.ok_part at given.value in cc) in
    let p = err_from_is_err_and c.from_residual.result c.from_residual.ensures.1 in
    rw (p.1, p.2, error) (spells_none c.args.text.now _ c.in-Some.byte turn none)
