-- What the generator draws: x becomes (1664525 x + 1013904223) mod 2^32.
use Rattle.std.specs.Prelude.{ℕ, ◌+◌, ◌*◌, ◌/◌, ◌%◌, ◌^◌, if◌then◌else◌, ◌==◌}
use Rattle.rows.specs.declared.on_off.OnOff.{OnOff}
use Rattle.rows.specs.declared.on_off.OnOff.TheVariants.{Off, On}

-- the state after one draw
abbrev pub next : ℕ → ℕ
next state = (state * 1664525 + 1013904223) % 2 ^ 32

-- the number below end that is drawn: the upper half of the next state, cut down
abbrev pub drawn : ℕ → ℕ → ℕ
drawn state end = next state / 2 ^ 16 % end

-- the row that is drawn
abbrev pub drawn_row : ℕ → OnOff
drawn_row state = if drawn state 2 == 0 then Off else On
