use Rattle.std.proofs.Common.{◌≡◌, List, ◌++◌, map, refl}
use Rattle.std.specs.Prelude.{codes}
use Rattle.rows.specs.declared.on_off.OnOff.{OnOff}
use Rattle.typed_rows.specs.Reading.{digit}
use Rattle.tokens.specs.declared.characters.Kind.TheVariants.{RowDigit}
use Rattle.tokens.specs.Cursors.{rest}
use Rattle.tokens.proofs.Runs.{same_run}
use Rattle.shelf_forms.specs.Forms.{rows_text}
use Rattle.tokens.proofs.Fronts.{space_ends_word, front_same}
use Rattle.shelf_forms.proofs.Texts.{close_ends_rows, rows_start, row_digits, rows_of, some_rows, rows_made}
use Rattle.shelf_forms.proofs.reading.rows.Goals as goal
use Rattle.shelf_forms.proofs.reading.rows.Goals.{In_ok-open, In_ok-run}

pub returns-in_err-open : goal.returns-in_err-open
returns-in_err-open c =
    rw c.from_residual-in_err-open.ensures
    (λ rows some e.
    let left = map digit rows ++ codes "))\n" in
    c.in_err-open.ensures (codes " " ++ left) (space_ends_word left) (front_same (codes " ") _ _ _ c.in_ok-sign.ensures.1.front e))

-- where the line spells rows, their digits come after a space
before_run : (c : In_ok-open) (rows : List OnOff) → rest c.args.cursor ≡ rows_text rows → rest c.open.new.self ≡ codes " " ++ (map digit rows ++ codes "))\n")
before_run c rows e = front_same (codes "(rows") _ _ _ c.in_ok-open.ensures (front_same (codes " ") _ _ _ c.in_ok-sign.ensures.1.front e)

-- and then the end of the line
after_run : (c : In_ok-run) (rows : List OnOff) → rest c.args.cursor ≡ rows_text rows → rest c.row_digits.new.cursor ≡ codes "))\n"
after_run c rows e =
    let run = c.in_ok-run.ensures in
    (same_run RowDigit _ (map digit rows) _ (codes "))\n") run.0 (row_digits rows) run.2 (close_ends_rows (codes ")\n")) (front_same (codes " ") _ _ _ run.3 (before_run (goal.at.In_ok-run c).In_ok-open rows e))).1

pub returns-in_err-run : goal.returns-in_err-run
returns-in_err-run c =
    rw c.from_residual-in_err-run.ensures
    (λ rows some e. rows_start rows _ _ some refl (c.in_err-run.ensures _ (before_run (goal.at.returns-in_err-run c).In_ok-open rows e)))

pub returns-in_err-sign-2 : goal.returns-in_err-sign-2
returns-in_err-sign-2 c =
    rw c.from_residual-in_err-sign-2.ensures
    (λ rows some e. c.in_err-sign-2.ensures.1 (codes ")\n") (after_run (goal.at.returns-in_err-sign-2 c).In_ok-run rows e))

pub returns-in_err-end : goal.returns-in_err-end
returns-in_err-end c =
    rw c.from_residual-in_err-end.ensures
    (λ rows some e. c.in_err-end.ensures (front_same (codes ")") _ _ _ c.in_ok-sign-2.ensures.1.front (after_run (goal.at.returns-in_err-end c).In_ok-run rows e)))

pub returns : goal.returns
returns c =
    let run = c.in_ok-run.ensures in
    let rows = rows_of c.in_ok-run.run'.now run.0 in (
      rows.0,
      some_rows rows.0 _ run.1 rows.1,
      rows.1,
      rows_made rows.0 _ _ _ _ _ _ c.in_ok-sign.ensures.1.front c.in_ok-open.ensures run.3 c.in_ok-sign-2.ensures.1.front c.in_ok-end.ensures rows.1,
    )
