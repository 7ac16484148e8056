-- What is right by whether something is due.
use Rattle.std.proofs.Common.{◌≡◌, ℕ, sym, subst}
use Rattle.refusals.specs.Due.{Due, none, refusal}
use Rattle.ledger.specs.Questions.{Answer, refused}
use Rattle.ledger.specs.Law.{Right}

module _ (owed : Type 0) (answer : Answer) where
  pub right_granted : (d : Due) → d ≡ none → owed → Right d owed answer
  right_granted d e x = subst (λ d. Right d owed answer) (sym e) x

  pub right_refused : (d : Due) (k : ℕ) → d ≡ refusal k → answer ≡ refused k → Right d owed answer
  right_refused d k e is = subst (λ d. Right d owed answer) (sym e) is

  -- what is owed for one reason is owed for another
  pub right_map : (later : Type 0) (d : Due) → (owed → later) → Right d owed answer → Right d later answer
  right_map later none change x = change x
  right_map later (refusal k) change is = is
