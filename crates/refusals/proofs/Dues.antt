-- Which of several refusals is due.
use Rattle.std.proofs.Common.{◌≡◌, ℕ, Bool, true, false, refl, ap, subst, arith}
use Rattle.refusals.specs.Due.{Due, none, refusal, first, first_of}

pub refusal≢none : (k : ℕ) → refusal k ≡ none → ⊥
refusal≢none k e = let z : ◌≡◌ {A = ℕ} 0 1 = cc in omega arith

pub past : (due later : Due) → due ≡ none → first_of due later ≡ later
past due later e = ap (λ x. first_of x later) e

pub is_due : (reason : Bool) (k : ℕ) (rest : Due) → reason ≡ true → first reason k rest ≡ refusal k
is_due reason k rest e = ap (λ b. first b k rest) e

pub not_due : (reason : Bool) (k : ℕ) (rest : Due) → reason ≡ false → first reason k rest ≡ rest
not_due reason k rest e = ap (λ b. first b k rest) e

-- where none is due, none of them is
pub none_sooner : (due later : Due) → first_of due later ≡ none → due ≡ none
none_sooner none later e = refl
none_sooner (refusal k) later e = absurd (refusal≢none k e)

pub none_later : (due later : Due) → first_of due later ≡ none → later ≡ none
none_later none later e = e
none_later (refusal k) later e = absurd (refusal≢none k e)

pub none_reason : (reason : Bool) (k : ℕ) (rest : Due) → first reason k rest ≡ none → reason ≡ false
none_reason true k rest e = absurd (refusal≢none k e)
none_reason false k rest e = refl

pub none_rest : (reason : Bool) (k : ℕ) (rest : Due) → first reason k rest ≡ none → rest ≡ none
none_rest reason k rest e = subst (λ b. first b k rest ≡ none) (none_reason reason k rest e) e
