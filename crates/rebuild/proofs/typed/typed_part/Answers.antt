use Rattle.std.proofs.Common.{◌≡◌, ◌≢◌, ℕ, ◌<◌, List, ◌-◌, ◌++◌, map, length, take, drop, refl, sym, ap, ◌∙◌, arith, length-drop}
use Rattle.std.proofs.lemmas.List.{take_all}
use Rattle.tokens.specs.declared.cursor.Cursor.{Cursor}
use Rattle.std.specs.Prelude.{codes}
use Rattle.std.specs.Fmt.{decimal}
use Rattle.tokens.specs.Cursors.{Ends, rest}
use Rattle.tokens.specs.declared.characters.Kind.TheVariants.{Digit}
use Rattle.tokens.proofs.Runs.{same_number}
use Rattle.typed_rows.specs.Reading.{digit, SpellsNone}
use Rattle.rebuild.specs.Reading.{SpellsNoPart}
use Rattle.rebuild.proofs.typed.typed_part.Goals as goal

module _ (text rest : List ℕ) (value : ℕ) (short : value < 100000) (is : text ≡ decimal value ++ rest) (ends : Ends Digit rest) where
  -- what follows the number of a part is an equals sign and its rows
  pub no_rows : ((rows : _) → rest ≢ codes "=" ++ map digit rows) → SpellsNoPart text
  no_rows none number rows lt e =
      let same = same_number value number rest (codes "=" ++ map digit rows) short lt ends (λ d. omega (arith, d)) (sym is ∙ e) in
      none rows same.1

-- what is left of a line, cut at its own length
whole : (c : Cursor) → take (length c.line.now - c.at) (rest c) ≡ rest c
whole c = take_all (length c.line.now - c.at) (rest c) (omega (arith, length-drop c.at c.line.now))

pub returns-in_default-after_equals : goal.returns-in_default-after_equals
returns-in_default-after_equals c =
    let number = rw c.in-Some-Number.field-0-is at c.in-Some-Number.ensures in
    let cursor = c.number.new.self in
    let front : c.args.text.now ≡ decimal c.in-Some-Number.value ++ rest cursor = sym c.as_bytes.ensures.value ∙ (rw (c.new-cursor.ensures.start, c.new-cursor.ensures.line, number.1) at number.3.front) in
    (refl, no_rows c.args.text.now (rest cursor) c.in-Some-Number.value number.2 front number.4 (λ rows e. c.in_default-after_equals.ensures (map digit rows) (whole cursor ∙ e)))

pub returns-in_default-2 : goal.returns-in_default-2
returns-in_default-2 c =
    let number = rw c.in-Some-Number.field-0-is at c.in-Some-Number.ensures in
    let cursor = c.number.new.self in
    let front : c.args.text.now ≡ decimal c.in-Some-Number.value ++ rest cursor = sym c.as_bytes.ensures.value ∙ (rw (c.new-cursor.ensures.start, c.new-cursor.ensures.line, number.1) at number.3.front) in
    let none : SpellsNone c.in-Some.digits.now = rw c.in_default-2.is at c.in_ok-rows.ensures in
    let after : rest cursor ≡ codes "=" ++ c.in-Some.digits.now = sym (whole cursor) ∙ c.in-Some.ensures in
    (refl, no_rows c.args.text.now (rest cursor) c.in-Some-Number.value number.2 front number.4 (λ rows e. none rows (ap (drop 1) (sym after ∙ e))))
