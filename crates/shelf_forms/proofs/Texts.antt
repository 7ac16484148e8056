-- How rows are written and read.
use Rattle.std.proofs.Common.{◌≡◌, ◌≢◌, ℕ, ◌<◌, List, [], ◌∷◌, ◌++◌, length, map, refl, sym, subst, arith, ⊎_elim}
use Rattle.std.specs.Prelude.{codes}
use Rattle.std.specs.List.{All}
use Rattle.std.proofs.lemmas.List.Elements.{All-nil, All-cons, All-head, All-tail}
use Rattle.std.proofs.lemmas.Bool.{cases_eq}
use Rattle.rows.specs.declared.on_off.OnOff.{OnOff}
use Rattle.rows.specs.declared.on_off.OnOff.TheVariants.{Off, On}
use Rattle.typed_rows.specs.Reading.{digit}
use Rattle.tokens.specs.declared.characters.Kind.TheVariants.{RowDigit}
use Rattle.tokens.specs.Characters.{Is}
use Rattle.tokens.specs.Cursors.{Ends}
use Rattle.shelf_forms.specs.Forms.{rows_text}

pub close_ends_rows : (t : List ℕ) → Ends RowDigit (41 ∷ t)
close_ends_rows t digit = omega (arith, digit.0)

-- the digits of rows
pub row_digits : (rows : List OnOff) → All (Is RowDigit) (map digit rows)
row_digits [] = All-nil (Is RowDigit)
row_digits (Off ∷ rows) = All-cons (Is RowDigit) 48 (map digit rows) (omega arith, omega arith) (row_digits rows)
row_digits (On ∷ rows) = All-cons (Is RowDigit) 49 (map digit rows) (omega arith, omega arith) (row_digits rows)

row_of : (c : ℕ) → Is RowDigit c → (row : OnOff) × (digit row ≡ c)
row_of c is =
    ⊎_elim
    (λ (zero : c ≡ 48). (Off, sym zero))
    (λ (other : c ≢ 48). (On, omega (arith, is.0, is.1, other)))
    (cases_eq c 48)

pub rows_of : (run : List ℕ) → All (Is RowDigit) run → (rows : List OnOff) × (run ≡ map digit rows)
rows_of [] all = ([], refl)
rows_of (c ∷ run) all =
    let row = row_of c (All-head (Is RowDigit) c run all) in
    let rest = rows_of run (All-tail (Is RowDigit) c run all) in
    (row.0 ∷ rest.0, cc (row.1, rest.1))

-- rows come next
pub rows_start : (rows : List OnOff) (l t : List ℕ) → 0 < length rows → l ≡ map digit rows ++ t → Ends RowDigit l → ⊥
rows_start [] l t some e ends = absurd (omega arith)
rows_start (row ∷ rows) l t some e ends = subst (Ends RowDigit) e ends (All-head (Is RowDigit) (digit row) (map digit rows) (row_digits (row ∷ rows)))

pub some_rows : (rows : List OnOff) (run : List ℕ) → run ≢ [] → run ≡ map digit rows → 0 < length rows
some_rows [] run some e = absurd (some e)
some_rows (row ∷ rows) run some e = omega arith

pub rows_made : (rows : List OnOff) (l a b r t run : List ℕ) → l ≡ 32 ∷ a → a ≡ codes "(rows" ++ b → b ≡ 32 ∷ (run ++ r) → r ≡ 41 ∷ t → t ≡ codes ")\n" → run ≡ map digit rows → l ≡ rows_text rows
rows_made rows l a b r t run e f g h i j = cc
