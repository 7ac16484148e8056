-- A line is the text of one thing only.
use Rattle.std.proofs.Common.{◌≡◌, ℕ, List, [], ◌∷◌, map, refl, ap, arith}
use Rattle.std.specs.Prelude.{codes}
use Rattle.std.proofs.lemmas.List.{append_cancel_right}
use Rattle.rows.specs.declared.on_off.OnOff.{OnOff}
use Rattle.rows.specs.declared.on_off.OnOff.TheVariants.{Off, On}
use Rattle.typed_rows.specs.Reading.{digit}
use Rattle.shelf_forms.specs.Forms.{enter, remove, fit, rows_text, OneForm}
use Rattle.tokens.specs.Phrases.{IsShort, inputs_text}
use Rattle.tokens.proofs.Fronts.{front_same, number_same, inputs_same, close_ends_number}

one_digit : (a b : OnOff) → digit a ≡ digit b → a ≡ b
one_digit Off Off e = refl
one_digit Off On e = absurd (omega arith)
one_digit On Off e = absurd (omega arith)
one_digit On On e = refl

pub one_map : (xs ys : List OnOff) → map digit xs ≡ map digit ys → xs ≡ ys
one_map [] [] e = refl
one_map [] (y ∷ ys) e = cc
one_map (x ∷ xs) [] e = cc
one_map (x ∷ xs) (y ∷ ys) e =
    let here : digit x ≡ digit y = cc in
    let rest : map digit xs ≡ map digit ys = cc in
    cc (one_digit x y here, one_map xs ys rest)

one_rows : (xs ys : List OnOff) → rows_text xs ≡ rows_text ys → xs ≡ ys
one_rows xs ys e = one_map xs ys (append_cancel_right (map digit xs) (map digit ys) (codes "))\n") (front_same (codes " (rows ") _ _ _ refl e))

one_table : (k n : ℕ) (xs ys : List OnOff) → IsShort k → IsShort n → inputs_text k (rows_text xs) ≡ inputs_text n (rows_text ys) → (k ≡ n) × (xs ≡ ys)
one_table k n xs ys small less e =
    let both = inputs_same k n _ (rows_text xs) (rows_text ys) small less refl e in
    (both.0, one_rows xs ys both.1)

pub one_form : OneForm
one_form (enter m k xs) (enter n j ys) a b e =
    let numbers = number_same m n _ _ _ a.0 b.0 (λ digit. omega (arith, digit.0)) (λ digit. omega (arith, digit.0)) refl (front_same (codes "(part") _ _ _ refl e) in
    let tables = one_table k j xs ys a.1 b.1 numbers.1 in
    cc (numbers.0, tables.0, tables.1)
one_form (remove m) (remove n) a b e =
    let ends = close_ends_number (codes "\n") in
    ap remove (number_same m n _ (codes ")\n") (codes ")\n") a b ends ends refl (front_same (codes "(drop") _ _ _ refl e)).0
one_form (fit k xs) (fit j ys) a b e =
    let tables = one_table k j xs ys a.0 b.0 (front_same (codes "(card") _ _ _ refl e) in
    cc (tables.0, tables.1)
one_form (enter m k xs) (remove n) a b e = let z : ◌≡◌ {A = ℕ} 112 100 = cc in absurd (omega arith)
one_form (enter m k xs) (fit j ys) a b e = let z : ◌≡◌ {A = ℕ} 112 99 = cc in absurd (omega arith)
one_form (remove m) (enter n j ys) a b e = let z : ◌≡◌ {A = ℕ} 100 112 = cc in absurd (omega arith)
one_form (remove m) (fit j ys) a b e = let z : ◌≡◌ {A = ℕ} 100 99 = cc in absurd (omega arith)
one_form (fit k xs) (enter n j ys) a b e = let z : ◌≡◌ {A = ℕ} 99 112 = cc in absurd (omega arith)
one_form (fit k xs) (remove n) a b e = let z : ◌≡◌ {A = ℕ} 99 100 = cc in absurd (omega arith)
