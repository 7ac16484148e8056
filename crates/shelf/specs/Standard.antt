-- The signatures that the shelf matches with.
use Rattle.std.specs.Prelude.{ℕ, List}
use Rattle.rows.specs.declared.on_off.OnOff.{OnOff}
use Rattle.rows.specs.Kinds.{on_off_same, on_off_weight}
use Rattle.signatures.specs.Law.{list_of}
use Rattle.signatures.specs.Values.{piled, cofactor, breakup, refined}
use Rattle.ledger.specs.Questions.{shelf_questions}
use Rattle.shelf_line.specs.Lines.{OnOffQuestions}

-- the list of an input: at place 0 cofactor, at the ten places after it breakup, and at place 11 cofactor refined
abbrev pub standard_list : {P : Type 0} → P → ℕ → List OnOff → ℕ → List ℕ
standard_list pile =
    let counted = cofactor on_off_weight in
    list_of 12 (piled 1 counted (piled 10 (breakup on_off_weight) (refined on_off_weight counted)))

-- the questions to a shelf that matches by these lists
abbrev pub standard_questions : {P : Type 0} → OnOffQuestions P
standard_questions = shelf_questions on_off_same standard_list
