use Rattle.std.proofs.Common.{refl, sym, ◌∙◌}
use Rattle.std.specs.Fmt.{decimal}
use Rattle.tokens.specs.declared.characters.Kind.TheVariants.{Digit}
use Rattle.tokens.proofs.Runs.{same_run, all_decimal}
use Rattle.tokens.proofs.cursor.Cursor.number.Goals as goal

pub returns-in_err-value : goal.returns-in_err-value
returns-in_err-value c =
    let run = c.run-run.ensures in
    rw c.from_residual.ensures (
      refl,
      λ n tail small ends e.
          let same = same_run Digit c.run-run.result.now (decimal n) _ tail run.all (all_decimal n small) run.ends ends (sym run.front ∙ e) in
          c.in_err-value.ensures n small same.0,
    )
