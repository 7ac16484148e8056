-- The law leaves one answer for each call.
use Rattle.std.proofs.Common.{◌≡◌, ℕ, Bool, List, [], ◌∷◌, sym, refl, ◌∙◌, subst}
use Rattle.refusals.specs.Due.{Due, none, refusal}
use Rattle.lists.specs.Counting.{Mem}
use Rattle.ledger.specs.Ledger.{Part, Call, enter, remove, ask, unread, after}
use Rattle.ledger.specs.Questions.{Answer, Questions, fit, QuestionRight}
use Rattle.ledger.specs.Law.{Right, due, Granted, Answered}
use Rattle.ledger.specs.Fixed.{Once, StandOnce, AskingKeeps, OneAnswer, OneTranscript, TenExactly}
use Rattle.ledger.proofs.Standing.{mem_once}
use Rattle.ledger.proofs.After.{once_after, once_from}
use Rattle.ledger.proofs.Questions.{Lawful, ten}

module _ {R Q : Type 0} (questions : Questions R Q) where
  pub stand_once : StandOnce questions
  stand_once slots calls = once_from slots [] calls tt

  pub asking_keeps : AskingKeeps questions
  asking_keeps slots parts question = refl

module _ {R Q : Type 0} (questions : Questions R Q) (lawful : Lawful questions) where
  one_granted : (parts : List (Part R)) (call : Call R Q) (a b : Answer) → Once parts
      → Granted questions parts call a → Granted questions parts call b → a ≡ b
  one_granted parts (enter number inputs rows) a b once x y = x ∙ sym y
  one_granted parts (remove number) a b once x y = x ∙ sym y
  one_granted parts (ask question) a b once x y = lawful.one (λ part. Mem part parts) (λ p q. mem_once parts p q once) question a b x y
  one_granted parts (unread number) a b once x y = absurd x

  one_right : (d : Due) (parts : List (Part R)) (call : Call R Q) (a b : Answer) → Once parts
      → Right d (Granted questions parts call a) a → Right d (Granted questions parts call b) b → a ≡ b
  one_right none parts call a b once x y = one_granted parts call a b once x y
  one_right (refusal k) parts call a b once x y = x ∙ sym y

  module _ (slots : ℕ) where
    one_from : (parts : List (Part R)) (calls : List (Call R Q)) (xs ys : List Answer) → Once parts
        → Answered questions slots parts calls xs → Answered questions slots parts calls ys → xs ≡ ys
    one_from parts [] [] [] once p q = refl
    one_from parts [] [] (y ∷ ys) once p q = absurd q
    one_from parts [] (x ∷ xs) ys once p q = absurd p
    one_from parts (call ∷ calls) [] ys once p q = absurd p
    one_from parts (call ∷ calls) (x ∷ xs) [] once p q = absurd q
    one_from parts (call ∷ calls) (x ∷ xs) (y ∷ ys) once p q =
        let here = one_right (due questions slots parts call) parts call x y once p.0 q.0 in
        let rest = one_from (after slots parts call) calls xs ys (once_after slots parts call once) p.1 q.1 in
        cc

  pub one_answer : OneAnswer questions
  one_answer slots parts call = one_right (due questions slots parts call) parts call

  pub one_transcript : OneTranscript questions
  one_transcript slots calls xs ys = one_from slots [] calls xs ys tt

pub ten_exactly : {R P : Type 0} (same : R → R → Bool) (list : P → ℕ → List R → ℕ → List ℕ) → TenExactly same list
ten_exactly {R} same list slots parts inputs card pile answer e right =
    let standing = λ (part : Part R). Mem part parts in
    ten same list standing inputs card pile answer (subst (λ d. Right d (QuestionRight same list standing (fit inputs card pile) answer) answer) e right)
