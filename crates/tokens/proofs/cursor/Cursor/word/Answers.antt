use Rattle.std.proofs.Common.{rules, ◌≡◌, Some, true, refl, sym, ◌∙◌}
use Rattle.tokens.specs.declared.characters.Kind.TheVariants.{Letter}
use Rattle.tokens.specs.declared.token.Word.{Word}
use Rattle.tokens.specs.Characters.{word_text}
use Rattle.tokens.proofs.Runs.{same_run, all_letters}
use Rattle.tokens.specs.contracts.token.WordPartialEq.TheImpl.{eq-value as equality}
use Rattle.tokens.proofs.cursor.Cursor.word.Goals as goal

same_word : (word : Word) → equality.it word word ≡ true
same_word word = search rules

pub returns-then-ne : goal.returns-then-ne
returns-then-ne c = (
  refl,
  λ tail ends e.
      let run = c.run-run.ensures in
      let same = same_run Letter c.run-run.result.now (word_text c.args.word) _ tail run.all (all_letters c.args.word) run.ends ends (sym run.front ∙ e) in
      let found : c.word_of.result ≡ Some c.args.word = (c.word_of.ensures c.args.word).1 (sym same.0) in
      let differs = rw (found, same_word c.args.word) at c.if-ne.ensures in
      absurd (cc differs),
)
