use Rattle.std.proofs.Common.{◌≡◌, ℕ, ◌<◌, List, length, get_or, vec_len, sym}
use Rattle.std.proofs.lemmas.Result.{err_from_is_err_and}
use Rattle.rebuild.specs.Sizing.{SizeError, PartRefused}
use Rattle.rebuild.specs.declared.failure.Failure.{Failure}
use Rattle.rebuild.specs.declared.failure.Failure.TheVariants.{Usage, NotRows, NotAPart, Refused, StockSize, Memory, Output}
use Rattle.rebuild.specs.declared.failure.Side.TheVariants.{Card, Readings, Part}
use Rattle.rebuild.specs.declared.typed.TypedPart.{TypedPart}
use Rattle.rebuild.proofs.sizing.stocked.Goals as goal

part_refused : (parts : List TypedPart) (part : TypedPart) (k : ℕ) (failure : Failure) → k < length parts → part ≡ get_or parts k part → SizeError (Part part.number) (vec_len part.rows) failure → PartRefused parts failure
part_refused parts part k Usage lt is h = h
part_refused parts part k (NotRows s) lt is h = h
part_refused parts part k (NotAPart place) lt is h = h
part_refused parts part k (Refused Card refusal) lt is h = cc h.0
part_refused parts part k (Refused Readings refusal) lt is h = cc h.0
part_refused parts part k (Refused (Part n) refusal) lt is h = let named : part.number ≡ n = cc h.0 in (part, (k, lt, sym is), named, h.1)
part_refused parts part k StockSize lt is h = h
part_refused parts part k Memory lt is h = absurd h
part_refused parts part k Output lt is h = h

pub returns-in_err-table : goal.returns-in_err-table
returns-in_err-table c =
    let p = err_from_is_err_and c.from_residual.result c.from_residual.ensures.1 in
    rw (p.1, p.2) (part_refused c.args.parts.now c.part-item.result c.loop-part.part-index c.in_err-table.field-0.0 c.loop-part-test.true c.part-item.is (rw c.as_slice.ensures.len at c.in_err-table.ensures))
