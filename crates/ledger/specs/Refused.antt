-- Which refusal is due to a call, the smaller number first. What a wrong row memory is due, 6 or nothing, is given.
use Rattle.std.specs.Prelude.{ℕ, Bool, not, ◌||◌, ◌==◌, nat_lt}
use Rattle.refusals.specs.Due.{Due, none, first, first_of}
use Rattle.tables.specs.Making.{table_due}

-- a number that is not from 1 to 9999 is refused with 2
abbrev pub number_due : ℕ → Due
number_due number = first (number == 0 || nat_lt 9999 number) 2 none

-- entering: 7 where a part of this number stands, and then 8 where the shelf is full
abbrev pub enter_due : Due → Bool → Bool → ℕ → ℕ → ℕ → Due
enter_due memory stands full number inputs rows =
    first_of (number_due number) (first_of (table_due inputs rows) (first_of memory (first stands 7 (first full 8 none))))

-- dropping: 9 where no part of this number stands
abbrev pub drop_due : Due → Bool → ℕ → Due
drop_due memory stands number = first_of (number_due number) (first_of memory (first (not stands) 9 none))

-- fitting a card: what else is due, 10, is for the parts to say
abbrev pub fit_due : Due → ℕ → ℕ → Due
fit_due memory inputs rows = first_of (table_due inputs rows) memory

-- the spread of a card and a part: 9 where no part of this number stands
abbrev pub spread_due : Due → Bool → ℕ → ℕ → ℕ → Due
spread_due memory stands number inputs rows =
    first_of (number_due number) (first_of (table_due inputs rows) (first_of memory (first (not stands) 9 none)))
