-- How a conversation breaks off.
use Rattle.std.proofs.Common.{◌≡◌, ℕ, ◌-◌, ◌^◌, ◌<◌, List, [], ◌∷◌, length, Ok, Err, Result, inl, inr, rules, arith}
use Rattle.std.specs.IoError.{error_kind}
use Rattle.std.specs.declared.io.ErrorKind.TheVariants.{OutOfMemory}
use Rattle.std.specs.Prelude.{IfErr}
use Rattle.std.specs.declared.io.Error.{Error}
use Rattle.refusals.specs.Due.{none}
use Rattle.rows.specs.declared.on_off.OnOff.{OnOff}
use Rattle.shelf_line.specs.Lines.{OnOffQuestions}
use Rattle.line_service.specs.Lines.{split}
use Rattle.line_service.specs.Peers.{Broke, BreaksReading, BreaksWriting}
use Rattle.line_service.specs.Service.{service_due, texts, AnswersTo, BreaksOff, ServesNot, AnswersNot}
use Rattle.line_service.specs.declared.service_error.ServiceError.{ServiceError}
use Rattle.line_service.specs.declared.service_error.ServiceError.TheVariants.{Refused, Reading, Writing, TooLong}

module _ {P : Type 0} (questions : OnOffQuestions P) (pile : P) {C : Type 0} (passes : C → List ℕ → List ℕ → C → Type 0)
    (is_at_end is_flushed : C → Type 0) (read_fails write_fails : C → Error → C → Type 0)
    (slots : ℕ) (memory : List OnOff) (peer : C) (memory' : List OnOff) (peer' : C) (due : service_due slots (length memory) ≡ none) where
  pub reading_breaks : (bytes : List ℕ) → AnswersTo questions pile passes slots peer memory' peer' (split bytes).whole bytes → is_flushed peer'
      → (error : ServiceError) → BreaksReading read_fails peer' error
      → ServesNot questions pile passes is_at_end is_flushed read_fails write_fails slots memory peer memory' peer' error
  reading_breaks bytes answers out (Refused reason) broke = absurd broke
  reading_breaks bytes answers out (Reading cause) broke = (due, (bytes, answers), out, broke)
  reading_breaks bytes answers out (Writing cause) broke = absurd broke
  reading_breaks bytes answers out TooLong broke = absurd broke

  pub writing_breaks : BreaksOff questions pile passes slots peer memory' peer' (is_at_end peer') → (error : ServiceError) → BreaksWriting write_fails peer' error
      → ServesNot questions pile passes is_at_end is_flushed read_fails write_fails slots memory peer memory' peer' error
  writing_breaks off (Refused reason) broke = absurd broke
  writing_breaks off (Reading cause) broke = absurd broke
  writing_breaks off (Writing cause) broke = (due, off, broke)
  writing_breaks off TooLong broke = absurd broke

  pub any_writing_breaks : BreaksOff questions pile passes slots peer memory' peer' (is_at_end peer') → (result : Result (Unit {0}) ServiceError) → IfErr result (BreaksWriting write_fails peer')
      → IfErr result (ServesNot questions pile passes is_at_end is_flushed read_fails write_fails slots memory peer memory' peer')
  any_writing_breaks off (Ok value) broke = tt
  any_writing_breaks off (Err error) broke = writing_breaks off error broke

-- at bytes in memory
only_memory : {C : Type 0} (b : C) (error : Error) → Broke (λ _ error _. error_kind error ≡ OutOfMemory) b error → error_kind error ≡ OutOfMemory
only_memory b error (inl (other, (a, is))) = is
only_memory b error (inr (timed, (a, [], long, all))) = absurd (omega (arith, long))
only_memory b error (inr (timed, (a, cause ∷ causes, long, (c, all, is, signal)))) = absurd (search (rules, is, signal))

never_reads : {C : Type 0} (b : C) (error : Error) → Broke (λ _ _ _. ⊥) b error → ⊥
never_reads b error (inl (other, (a, is))) = is
never_reads b error (inr (timed, (a, [], long, all))) = absurd (omega (arith, long))
never_reads b error (inr (timed, (a, cause ∷ causes, long, (c, all, is, signal)))) = is

module _ {P : Type 0} (questions : OnOffQuestions P) (pile : P) {C : Type 0} (passes : C → List ℕ → List ℕ → C → Type 0) (is_at_end is_flushed : C → Type 0)
    (slots : ℕ) (memory : List OnOff) (peer : C) (memory' : List OnOff) (peer' : C) where
  pub breaks_in_memory : (error : ServiceError)
      → ServesNot questions pile passes is_at_end is_flushed (λ _ _ _. ⊥) (λ _ error _. error_kind error ≡ OutOfMemory) slots memory peer memory' peer' error
      → ((bytes text : List ℕ) → passes peer bytes text peer' → length bytes < 2 ^ 64 - 1)
      → AnswersNot slots memory memory' error
  breaks_in_memory (Refused reason) (due, same, untouched) short = (due, same)
  breaks_in_memory (Reading cause) (due, answers, out, broke) short = never_reads peer' cause broke
  breaks_in_memory (Writing cause) (due, off, broke) short = (due, only_memory peer' cause broke)
  breaks_in_memory TooLong (due, (bytes, (answers, passed, talks), long)) short = absurd (omega (arith, short bytes (texts answers) passed, long))
