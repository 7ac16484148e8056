-- What the shelf answers to a question is what the question owes.
use Rattle.std.proofs.Common.{◌≡◌, ℕ, Bool, List, take, Ok, Err, Result, sym, refl, ap, ◌∙◌, inl, inr, arith}
use Rattle.std.proofs.lemmas.List.{get_or-take, length-take-le}
use Rattle.refusals.specs.Due.{Due, none, refusal}
use Rattle.refusals.specs.Numbers.{number}
use Rattle.refusals.specs.declared.refusal.Refusal.{Refusal}
use Rattle.tables.specs.Wirings.{pin, Alike}
use Rattle.ledger.specs.Ledger.{Part}
use Rattle.ledger.specs.Questions.{Answer, refused, proposed, Question, fit, QuestionRight}
use Rattle.ledger.specs.Law.{Right}
use Rattle.ledger.proofs.Rights.{right_granted, right_refused}
use Rattle.ledger.proofs.Serving.{proposes_alike}
use Rattle.inventory.specs.Fitting.{Fitted}
use Rattle.inventory.specs.declared.proposal.Proposal.{Proposal}
use Rattle.runs.specs.Transcript.{answered}
use Rattle.runs.specs.declared.answer.Grant.TheVariants.{Proposed}

module _ {R P : Type 0} (same : R → R → Bool) (list : P → ℕ → List R → ℕ → List ℕ) (standing : Part R → Type 0) (inputs : ℕ) (card : List R) (pile : P) (d : Due) where
  -- the answer is what is due, or what the question owes
  abbrev Owed : Question R P → Answer → Type 0
  Owed question answer = Right d (QuestionRight same list standing question answer) answer

  owed_granted : (question : Question R P) (answer : Answer) → d ≡ none → QuestionRight same list standing question answer → Owed question answer
  owed_granted question answer e x = right_granted (QuestionRight same list standing question answer) answer d e x

  owed_refused : (question : Question R P) (reason : Refusal) → d ≡ refusal (number reason) → Owed question (refused (number reason))
  owed_refused question reason e = right_refused (QuestionRight same list standing question (refused (number reason))) (refused (number reason)) d (number reason) e refl

  pub fit_owed : (r : Result Proposal Refusal) → Fitted same list standing inputs card pile d r → Owed (fit inputs card pile) (answered Proposed r)
  fit_owed (Ok p) (nothing, (sized, proposes)) =
      let few = p.wiring.few in
      let wide = p.wiring.whole in
      let pins = p.wiring.pins in
      let cut = take p.wiring.inputs pins in
      let alike : Alike inputs (pin pins) (pin cut) = λ i li. sym (get_or-take p.wiring.inputs pins i 0 (omega arith)) in
      let shown = proposes_alike same list inputs card standing pile p.number (pin pins) (pin cut) p.struck alike proposes in
      owed_granted (fit inputs card pile) (answered Proposed (Ok p)) nothing
      (inr (p.number, cut, p.struck, ap (λ i. proposed p.number i cut p.struck) sized, length-take-le p.wiring.inputs pins (omega arith) ∙ sized, shown))
  fit_owed (Err reason) (inl refuses) = owed_refused (fit inputs card pile) reason refuses
  fit_owed (Err reason) (inr (nothing, ten, no_part)) = owed_granted (fit inputs card pile) (refused (number reason)) nothing (inl (ap refused ten, no_part))
