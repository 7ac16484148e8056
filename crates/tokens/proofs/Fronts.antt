-- What is left of a text after its front was read.
use Rattle.std.proofs.Common.{◌≡◌, ℕ, List, ◌∷◌, ◌++◌, sym, ◌∙◌, ap, refl, arith, drop, Bor, Option, None, Some, false}
use Rattle.std.specs.Prelude.{codes, is_some, ◌≢◌}
use Rattle.std.specs.Fmt.{decimal}
use Rattle.std.proofs.lemmas.List.{append_cancel_left}
use Rattle.tokens.specs.declared.characters.Kind.TheVariants.{Letter, Digit}
use Rattle.tokens.specs.declared.cursor.Cursor.{Cursor}
use Rattle.tokens.specs.declared.token.Sign.{Sign}
use Rattle.tokens.specs.declared.token.Token.{Token}
use Rattle.tokens.specs.Characters.{sign_text}
use Rattle.tokens.specs.Cursors.{Ends, EatsSign, rest}
use Rattle.tokens.specs.Phrases.{IsShort, inputs_text}
use Rattle.tokens.proofs.Runs.{same_number}

pub space_ends_word : (t : List ℕ) → Ends Letter (32 ∷ t)
space_ends_word t letter = omega (arith, letter.0)

pub space_ends_number : (t : List ℕ) → Ends Digit (32 ∷ t)
space_ends_number t digit = omega (arith, digit.0)

pub close_ends_number : (t : List ℕ) → Ends Digit (41 ∷ t)
close_ends_number t digit = omega (arith, digit.0)

-- what follows the same front is the same
pub front_same : (front l r t : List ℕ) → l ≡ front ++ r → l ≡ front ++ t → r ≡ t
front_same front l r t e f = append_cancel_left front r t (sym e ∙ f)

pub number_same : (m n : ℕ) (l r t : List ℕ) → IsShort m → IsShort n → Ends Digit r → Ends Digit t → l ≡ 32 ∷ (decimal m ++ r) → l ≡ 32 ∷ (decimal n ++ t) → (m ≡ n) × (r ≡ t)
number_same m n l r t small less x y e f = same_number m n r t small less x y (front_same (codes " ") l _ _ e f)

pub inputs_same : (m n : ℕ) (l r t : List ℕ) → IsShort m → IsShort n → l ≡ inputs_text m r → l ≡ inputs_text n t → (m ≡ n) × (r ≡ t)
inputs_same m n l r t small less e f =
    let both = same_number m n (41 ∷ r) (41 ∷ t) small less (close_ends_number r) (close_ends_number t) (front_same (codes " (pins ") l _ _ e f) in
    (both.0, front_same (codes ")") (41 ∷ r) r t refl both.1)

-- a cursor at the start of a line
pub start : (cursor : Cursor) (line : Bor (List ℕ)) → cursor.line ≡ line → cursor.at ≡ 0 → rest cursor ≡ line.now
start cursor line e zero = ap (λ n. drop n cursor.line.now) zero ∙ ap (λ (b : Bor (List ℕ)). b.now) e

-- a sign that was not gone past does not come next
pub no_sign : (sign : Sign) (before after : Cursor) (found : Option Token) → EatsSign sign before after found → is_some found ≡ false → (after ≡ before) × ((tail : List ℕ) → rest before ≢ sign_text sign ++ tail)
no_sign sign before after None eats none = eats
no_sign sign before after (Some token) eats none = cc
