-- How a person reads a row.
use Rattle.std.specs.Prelude.{ℕ, List, ◌++◌, codes}
use Rattle.std.specs.Fmt.{decimal}
use Rattle.rows.specs.declared.on_off.OnOff.{OnOff}
use Rattle.rows.specs.declared.on_off.OnOff.TheVariants as row
use Rattle.rows.specs.declared.drive.Drive.{Drive}
use Rattle.rows.specs.declared.drive.Direction.{Direction}
use Rattle.rows.specs.declared.drive.Direction.TheVariants as direction
use Rattle.rebuild.specs.declared.shown.Shown.{Shown}
use Rattle.rebuild.specs.declared.shown.Shown.TheVariants.{Off, On, Rest, Left, Right}

abbrev pub shown_text : Shown → List ℕ
shown_text Off = codes "0"
shown_text On = codes "1"
shown_text (Rest hold) = codes "rest " ++ decimal hold
shown_text (Left hold) = codes "left " ++ decimal hold
shown_text (Right hold) = codes "right " ++ decimal hold

abbrev pub on_off_shown : OnOff → Shown
on_off_shown row.Off = Off
on_off_shown row.On = On

abbrev pub held_shown : Direction → ℕ → Shown
held_shown direction.Rest hold = Rest hold
held_shown direction.Left hold = Left hold
held_shown direction.Right hold = Right hold

abbrev pub drive_shown : Drive → Shown
drive_shown drive = held_shown drive.direction drive.hold
