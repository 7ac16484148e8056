-- Every call leaves each number standing once.
use Rattle.std.proofs.Common.{◌≡◌, ℕ, leb, List, [], ◌∷◌, length, refl}
use Rattle.refusals.specs.Due.{Due, none, refusal}
use Rattle.ledger.specs.Ledger.{Part, Call, enter, remove, ask, unread, stands, unless, change_due, granted, after, ledger_from}
use Rattle.ledger.specs.Fixed.{Once}
use Rattle.ledger.proofs.Dues.{enter_new}
use Rattle.ledger.proofs.Standing.{once_without}

module _ {R : Type 0} where
  pub unless_holds : (P : List (Part R) → Type 0) (refused : Due) (later parts : List (Part R))
      → (refused ≡ none → P later) → P parts → P (unless refused later parts)
  unless_holds P none later parts changed kept = changed refl
  unless_holds P (refusal k) later parts changed kept = kept

  module _ {Q : Type 0} (slots : ℕ) where
    pub once_granted : (parts : List (Part R)) (call : Call R Q) → change_due slots parts call ≡ none → Once parts → Once (granted parts call)
    once_granted parts (enter number inputs rows) e once =
        (enter_new none (stands number parts) (leb slots (length parts)) number inputs (length rows) e, once)
    once_granted parts (remove number) e once = once_without number parts once
    once_granted parts (ask question) e once = once
    once_granted parts (unread number) e once = once

    pub once_after : (parts : List (Part R)) (call : Call R Q) → Once parts → Once (after slots parts call)
    once_after parts call once = unless_holds Once (change_due slots parts call) (granted parts call) parts (λ e. once_granted parts call e once) once

    pub once_from : (parts : List (Part R)) (calls : List (Call R Q)) → Once parts → Once (ledger_from slots parts calls)
    once_from parts [] once = once
    once_from parts (call ∷ calls) once = once_from (after slots parts call) calls (once_after parts call once)
