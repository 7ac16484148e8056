use Rattle.std.specs.Prelude.{◌≡◌, ℕ, Bool, true, false, Ok, Err, Result}
use Rattle.refusals.specs.declared.refusal.Refusal.{Refusal}
use Rattle.refusals.specs.Numbers.{number}

-- the refusal that is due to a call, if any
pub data Due : Type 0 where
  none : Due
  refusal : ℕ → Due

-- the refusal of this number where its reason holds, and otherwise what else is due
abbrev pub first : Bool → ℕ → Due → Due
first true k rest = refusal k
first false k rest = rest

-- of two, the one that is due first
abbrev pub first_of : Due → Due → Due
first_of none later = later
first_of (refusal k) later = refusal k

-- what a call answers: the refusal that is due, or where none is due a value of which P holds
abbrev pub Outcome : {T : Type 0} → Due → (T → Type 0) → Result T Refusal → Type 0
Outcome due P (Ok value) = (due ≡ none) × P value
Outcome due P (Err reason) = due ≡ refusal (number reason)
