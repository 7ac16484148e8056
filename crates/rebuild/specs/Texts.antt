-- What stands on standard error.
use Rattle.std.specs.Prelude.{ℕ, List, ◌++◌, codes}
use Rattle.std.specs.Fmt.{decimal}
use Rattle.refusals.specs.Numbers.{number}
use Rattle.refusals.specs.Texts.{text}
use Rattle.rebuild.specs.declared.failure.Failure.{Failure}
use Rattle.rebuild.specs.declared.failure.Failure.TheVariants.{Usage, NotRows, NotAPart, Refused, StockSize, Memory, Output}
use Rattle.rebuild.specs.declared.failure.Side.{Side}
use Rattle.rebuild.specs.declared.failure.Side.TheVariants.{Card, Readings, Part}

abbrev pub side_text : Side → List ℕ
side_text Card = codes "the card"
side_text Readings = codes "the readings"
side_text (Part n) = codes "part " ++ decimal n

abbrev pub failure_text : Failure → List ℕ
failure_text Usage = codes "rebuild: takes no arguments, or rows of a card, readings and parts N=ROWS; rebuild --help says how to use it"
failure_text (NotRows side) = codes "rebuild: rows are digits 0 and 1, and those of " ++ side_text side ++ codes " are not"
failure_text (NotAPart place) =
    codes "rebuild: a part is N=ROWS, its number and its rows in digits 0 and 1, and the part at place " ++ decimal place ++ codes " is not"
failure_text (Refused side refusal) =
    codes "rebuild: " ++ side_text side ++ codes " refused with " ++ decimal (number refusal) ++ codes ": " ++ text refusal
failure_text StockSize = codes "rebuild: the stock has 1 to 64 parts"
failure_text Memory = codes "rebuild: out of memory"
failure_text Output = codes "rebuild: cannot read the arguments or write the answer"
