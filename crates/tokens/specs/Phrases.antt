-- Parts that the texts of lines have in common.
use Rattle.std.specs.Prelude.{ℕ, ◌<◌, List, ◌++◌, codes}
use Rattle.std.specs.Fmt.{decimal}
use Rattle.tokens.specs.declared.token.Word.{Word}
use Rattle.tokens.specs.Characters.{word_text}

-- a number that has at most five digits
abbrev pub IsShort : ℕ → Type 0
IsShort n = n < 100000

-- an opening bracket, a word, and what follows it
abbrev pub opening_text : Word → List ℕ → List ℕ
opening_text word tail = codes "(" ++ (word_text word ++ tail)

-- a number of inputs, as in (pins 3), and what follows it
abbrev pub inputs_text : ℕ → List ℕ → List ℕ
inputs_text inputs tail = codes " (pins " ++ (decimal inputs ++ (codes ")" ++ tail))
