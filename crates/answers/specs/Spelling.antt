use Rattle.std.specs.Prelude.{ℕ, List, [], ◌++◌, codes}
use Rattle.std.specs.Fmt.{decimal}
use Rattle.ledger.specs.Questions.{Answer, done, refused, proposed}
use Rattle.texts.specs.Pins.{pins_text}

-- the text of each answer, with its newline
abbrev pub text_of : Answer → List ℕ
text_of done = codes "(ok)\n"
text_of (refused number) = codes "(no " ++ decimal number ++ codes ")\n"
text_of (proposed number inputs pins struck) =
    codes "(fit " ++ decimal number ++ codes " (to" ++ pins_text pins ++ codes ") (struck " ++ decimal struck ++ codes "))\n"
-- no line asks what is answered otherwise
text_of _ = []
