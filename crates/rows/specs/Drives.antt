use Rattle.std.specs.Prelude.{◌≡◌, ◌||◌, ℕ, Result, nat_lt}
use Rattle.refusals.specs.Due.{Due, Outcome, none, first}
use Rattle.refusals.specs.declared.refusal.Refusal.{Refusal}
use Rattle.rows.specs.declared.drive.Drive.{Drive}
use Rattle.rows.specs.declared.drive.Direction.{Direction}
use Rattle.rows.specs.Kinds.{code}

-- the direction of a number; a number past 2 is refused with 5
abbrev pub Directs : ℕ → Result Direction Refusal → Type 0
Directs number = Outcome (first (nat_lt 2 number) 5 none) (λ direction. code direction ≡ number)

-- a direction past 2 or a hold past 99 is refused with 5
abbrev pub due : ℕ → ℕ → Due
due direction hold = first (nat_lt 2 direction || nat_lt 99 hold) 5 none

abbrev pub Is : ℕ → ℕ → Drive → Type 0
Is direction hold d = (code d.direction ≡ direction) × (d.hold ≡ hold)
