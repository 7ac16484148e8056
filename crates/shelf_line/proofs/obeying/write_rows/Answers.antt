use Rattle.std.proofs.Common.{◌≡◌, ℕ, zero, suc, ◌<◌, List, [], ◌∷◌, length, map, refl, sym, subst, get_or, arith}
use Rattle.rows.specs.declared.on_off.OnOff.{OnOff}
use Rattle.typed_rows.specs.Reading.{digit}
use Rattle.shelf_line.proofs.obeying.write_rows.Goals as goal

-- each of the digits of rows is that of a row
digit_at : (rows : List OnOff) (i : ℕ) → i < length (map digit rows) → (row : OnOff) × (digit row ≡ get_or (map digit rows) i 0)
digit_at [] i li = absurd (omega (arith, li))
digit_at (x ∷ xs) zero li = (x, refl)
digit_at (x ∷ xs) (suc i) li = digit_at xs i (omega (arith, li))

pub row_of-requires : goal.row_of-requires
row_of-requires c =
    let rows = c.requires.spelled.0 in
    let spelled = c.requires.spelled.1 in
    let within : c.loop-i.i < length (map digit rows) = subst (λ digits. c.loop-i.i < length digits) spelled c.loop-i-test.true in
    subst (λ digits. (row : OnOff) × (digit row ≡ get_or digits c.loop-i.i 0)) (sym spelled) (digit_at rows c.loop-i.i within)
