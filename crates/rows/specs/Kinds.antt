use Rattle.std.specs.Prelude.{Bool, true, false, ◌&&◌, ◌||◌, ℕ, ◌+◌, ◌==◌}
use Rattle.rows.specs.declared.on_off.OnOff.{OnOff}
use Rattle.rows.specs.declared.on_off.OnOff.TheVariants.{Off, On}
use Rattle.rows.specs.declared.drive.Drive.{Drive}
use Rattle.rows.specs.declared.drive.Direction.{Direction}
use Rattle.rows.specs.declared.drive.Direction.TheVariants.{Rest, Left, Right}

-- on/off rows are the same when equal, and weigh their value
abbrev pub on_off_same : OnOff → OnOff → Bool
on_off_same Off Off = true
on_off_same Off On = false
on_off_same On Off = false
on_off_same On On = true

abbrev pub on_off_weight : OnOff → ℕ
on_off_weight Off = 0
on_off_weight On = 1

-- the number of a direction
abbrev pub code : Direction → ℕ
code Rest = 0
code Left = 1
code Right = 2

-- both rest, or both go one way for as long
abbrev pub drive_same : Drive → Drive → Bool
drive_same x y =
    (code x.direction == 0 && code y.direction == 0)
    || (code x.direction == code y.direction && x.hold == y.hold)

-- a rest weighs nothing; a right weighs more than any left
abbrev pub weight_of : Direction → ℕ → ℕ
weight_of Rest hold = 0
weight_of Left hold = 1 + hold
weight_of Right hold = 101 + hold

abbrev pub drive_weight : Drive → ℕ
drive_weight x = weight_of x.direction x.hold
