-- What stands on standard error.
use Rattle.std.specs.Prelude.{ℕ, List, ◌++◌, codes}
use Rattle.std.specs.Fmt.{decimal}
use Rattle.refusals.specs.Numbers.{number}
use Rattle.refusals.specs.Texts.{text}
use Rattle.rewire.specs.declared.failure.Failure.{Failure}
use Rattle.rewire.specs.declared.failure.Failure.TheVariants.{Usage, NotRows, Refused, Memory, Output}
use Rattle.rewire.specs.declared.failure.Side.{Side}
use Rattle.rewire.specs.declared.failure.Side.TheVariants.{Card, Part}

abbrev pub side_text : Side → List ℕ
side_text Card = codes "card"
side_text Part = codes "part"

abbrev pub failure_text : Failure → List ℕ
failure_text Usage = codes "rewire: takes the rows of a card and of a part; rewire --help says how to use it"
failure_text (NotRows side) = codes "rewire: the " ++ side_text side ++ codes "'s rows are digits 0 and 1"
failure_text (Refused side refusal) =
    codes "rewire: the " ++ side_text side ++ codes " is refused with " ++ decimal (number refusal) ++ codes ": " ++ text refusal
failure_text Memory = codes "rewire: out of memory"
failure_text Output = codes "rewire: cannot read the arguments or write the answer"
