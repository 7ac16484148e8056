-- Which texts spell no rows.
use Rattle.std.proofs.Common.{◌≡◌, ℕ, ◌<◌, List, None, length, get_or, sym, ap, ◌∙◌, arith}
use Rattle.std.proofs.lemmas.List.{get_or-map, length-map}
use Rattle.rows.specs.declared.on_off.OnOff.TheVariants.{Off}
use Rattle.typed_rows.specs.Reading.{digit, IsRow, SpellsNone}

-- where a byte of a text is no row's digit, no rows spell the text
pub spells_none : (text : List ℕ) (i byte : ℕ) → (i < length text) × (byte ≡ get_or text i byte) → IsRow byte None → SpellsNone text
spells_none text i byte at none rows e =
    let lt : i < length rows = omega (arith, at.0, ap length e, length-map rows digit) in
    none (get_or rows i Off) (sym (get_or-map digit rows i Off byte lt) ∙ ap (λ l. get_or l i byte) (sym e) ∙ sym at.1)
