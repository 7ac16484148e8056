use Rattle.std.proofs.Common.{sym, ◌∙◌}
use Rattle.std.specs.Prelude.{codes}
use Rattle.tokens.specs.declared.characters.Kind.TheVariants.{Letter}
use Rattle.tokens.specs.Characters.{word_text}
use Rattle.tokens.proofs.Runs.{same_run, all_letters}
use Rattle.tokens.proofs.Fronts.{front_same}
use Rattle.tokens.proofs.cursor.Cursor.opening.Goals as goal

pub returns-in_err-word : goal.returns-in_err-word
returns-in_err-word c =
    rw c.from_residual-in_err-word.ensures
    (λ word tail ends e.
    let run = c.run-run.ensures in
    let left = front_same (codes "(") _ _ _ c.in_ok-sign.ensures.1.front e in
    let same = same_run Letter c.run-run.result.now (word_text word) _ tail run.all (all_letters word) run.ends ends (sym run.front ∙ left) in
    cc ((c.in_err-word.ensures word).1 (sym same.0)))
