-- The law leaves nothing open where lines stand among the calls.
use Rattle.std.proofs.Common.{◌≡◌, ℕ, List, ◌++◌, drop, Ok, Err, sym, ap, ◌∙◌, inl, inr, arith}
use Rattle.ledger.specs.Questions.{Answer}
use Rattle.answers.specs.Spelling.{text_of}
use Rattle.shelf_forms.proofs.OneForm.{one_form}
use Rattle.shelf_line.specs.Lines.{asked, ReadAs, OnOffCall}
use Rattle.runs.specs.Entries.{OneCall, OneTelling}
use Rattle.line_runs.specs.Turns.{Asked, call, line, asks, IsCall, Tells, turn_kind}
use Rattle.line_runs.specs.declared.turn.TurnAnswer.{TurnAnswer}
use Rattle.line_runs.specs.declared.turn.TurnAnswer.TheVariants as answer

module _ {P : Type 0} where
  one_reading : (pile : P) (text : List ℕ) (a b : OnOffCall P) → ReadAs pile text a → ReadAs pile text b → a ≡ b
  one_reading pile text a b (inl (said, writes, is)) (inl (other, also, so)) =
      let same = one_form said other writes.1 also.1 (sym writes.2 ∙ also.2) in
      is ∙ ap (asked pile) same ∙ sym so
  one_reading pile text a b (inl (said, writes, is)) (inr (nothing, so)) = absurd (nothing said writes)
  one_reading pile text a b (inr (nothing, is)) (inl (said, writes, so)) = absurd (nothing said writes)
  one_reading pile text a b (inr (nothing, is)) (inr (also, so)) = is ∙ sym so

  one_call : (x : Asked P) (a b : OnOffCall P) → IsCall x a → IsCall x b → a ≡ b
  one_call (call c) a b is so = is ∙ sym so
  one_call (line text pile n) a b (inl (few, is)) (inl (also, so)) = is ∙ sym so
  one_call (line text pile n) a b (inl (few, is)) (inr (enough, so)) = absurd (omega (arith, few, enough))
  one_call (line text pile n) a b (inr (enough, is)) (inl (few, so)) = absurd (omega (arith, few, enough))
  one_call (line text pile n) a b (inr (enough, is)) (inr (also, so)) = one_reading pile text a b is so

  one_telling : (x : Asked P) (t u : TurnAnswer) (memory after after' : List ℕ) (a : Answer) → Tells x t memory after a → Tells x u memory after' a → after ≡ after'
  one_telling (call c) (answer.Call r) (answer.Call s) memory after after' a is so = is.1 ∙ sym so.1
  one_telling (line text pile n) (answer.Line (Ok k)) (answer.Line (Ok j)) memory after after' a is so =
      is.2 ∙ ap (λ m. text_of a ++ drop m memory) (is.1 ∙ sym so.1) ∙ sym so.2
  one_telling (line text pile n) (answer.Line (Ok k)) (answer.Line (Err r)) memory after after' a is so = absurd (omega (arith, is.0, so.0))
  one_telling (line text pile n) (answer.Line (Err r)) (answer.Line (Ok j)) memory after after' a is so = absurd (omega (arith, is.0, so.0))
  one_telling (line text pile n) (answer.Line (Err r)) (answer.Line (Err s)) memory after after' a is so = is.3 ∙ sym so.3
  one_telling (call c) (answer.Call r) (answer.Line s) memory after after' a is so = absurd so
  one_telling (call c) (answer.Line r) u memory after after' a is so = absurd is
  one_telling (line text pile n) (answer.Call r) u memory after after' a is so = absurd is
  one_telling (line text pile n) (answer.Line (Ok k)) (answer.Call s) memory after after' a is so = absurd so
  one_telling (line text pile n) (answer.Line (Err r)) (answer.Call s) memory after after' a is so = absurd so

  pub one_turn : OneCall (turn_kind P)
  one_turn x = one_call (asks x)

  pub one_told : OneTelling (turn_kind P).bytes
  one_told x = one_telling (asks x)

  pub one_told_words : OneTelling (turn_kind P).words
  one_told_words x t u memory after after' a is so = is ∙ sym so
