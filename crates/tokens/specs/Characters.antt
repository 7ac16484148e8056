-- What characters, signs and words are.
use Rattle.std.specs.Prelude.{ℕ, List, codes}
use Rattle.std.specs.Int.{IsInRange}
use Rattle.tokens.specs.declared.characters.Kind.{Kind}
use Rattle.tokens.specs.declared.characters.Kind.TheVariants as kind
use Rattle.tokens.specs.declared.token.Sign.{Sign}
use Rattle.tokens.specs.declared.token.Sign.TheVariants as sign
use Rattle.tokens.specs.declared.token.Word.{Word}
use Rattle.tokens.specs.declared.token.Word.TheVariants as word

-- the letters from a to z, the digits from 0 to 9, and the digits 0 and 1
abbrev pub Is : Kind → ℕ → Type 0
Is kind.Letter = IsInRange 97 122
Is kind.Digit = IsInRange 48 57
Is kind.RowDigit = IsInRange 48 49

abbrev pub sign_text : Sign → List ℕ
sign_text sign.Open = codes "("
sign_text sign.Close = codes ")"
sign_text sign.Space = codes " "
sign_text sign.Newline = codes "\n"

abbrev pub word_text : Word → List ℕ
word_text word.Part = codes "part"
word_text word.Drop = codes "drop"
word_text word.Card = codes "card"
word_text word.Pins = codes "pins"
word_text word.Rows = codes "rows"
word_text word.Wire = codes "wire"
word_text word.To = codes "to"
