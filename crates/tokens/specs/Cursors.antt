-- What a cursor goes past.
use Rattle.std.specs.Prelude.{◌≡◌, ◌≢◌, ℕ, ◌+◌, ◌<◌, List, [], ◌∷◌, ◌++◌, length, drop, Option, Some, None}
use Rattle.std.specs.List.{All}
use Rattle.std.specs.Fmt.{decimal}
use Rattle.tokens.specs.declared.characters.Kind.{Kind}
use Rattle.tokens.specs.declared.characters.Kind.TheVariants.{Letter, Digit, RowDigit}
use Rattle.tokens.specs.declared.token.Sign.{Sign}
use Rattle.tokens.specs.declared.token.Word.{Word}
use Rattle.tokens.specs.declared.token.Token.{Token}
use Rattle.tokens.specs.declared.token.Token.TheVariants as token
use Rattle.tokens.specs.declared.cursor.Cursor.{Cursor}
use Rattle.tokens.specs.Characters.{Is, sign_text, word_text}

-- what is left of the line
abbrev pub rest : Cursor → List ℕ
rest cursor = drop cursor.at cursor.line.now

-- no character of this kind comes next
abbrev pub Ends : Kind → List ℕ → Type 0
Ends kind [] = Unit {0}
Ends kind (c ∷ _) = ¬ (Is kind c)

-- the run is the front of the text, all of one kind, and no more of that kind comes after it
pub record Run (kind : Kind) (text run : List ℕ) : Type 0 where
  pub front : text ≡ run ++ drop (length run) text
  pub all : All (Is kind) run
  pub ends : Ends kind (drop (length run) text)

-- this text came next, and the cursor is right after it
pub record Passes (text : List ℕ) (before after : Cursor) : Type 0 where
  pub line : after.line ≡ before.line
  pub place : after.at ≡ before.at + length text
  pub front : rest before ≡ text ++ rest after

-- where the sign does not come next, nothing happens
abbrev pub EatsSign : Sign → Cursor → Cursor → Option Token → Type 0
EatsSign sign before after None = (after ≡ before) × ((tail : List ℕ) → rest before ≢ sign_text sign ++ tail)
EatsSign sign before after (Some found) =
    (found ≡ token.Sign sign before.at) × Passes (sign_text sign) before after

-- a word ends where no letter follows
abbrev pub EatsWord : Word → Cursor → Cursor → Option Token → Type 0
EatsWord word before after None =
    (after ≡ before) × ((tail : List ℕ) → Ends Letter tail → rest before ≢ word_text word ++ tail)
EatsWord word before after (Some found) =
    (found ≡ token.Word word before.at) × Passes (word_text word) before after × Ends Letter (rest after)

-- a number has one to five digits, no leading zero, and no digit after it
abbrev pub EatsNumber : Cursor → Cursor → Option Token → Type 0
EatsNumber before after None =
    (after ≡ before)
    × ((n : ℕ) (tail : List ℕ) → n < 100000 → Ends Digit tail → rest before ≢ decimal n ++ tail)
EatsNumber before after (Some (token.Number value run at)) =
    (at ≡ before.at) × (run.now ≡ decimal value) × (value < 100000) × Passes run.now before after × Ends Digit (rest after)
EatsNumber before after (Some _) = ⊥

-- the digits of rows are 0 and 1, at least one, and no such digit comes after them
abbrev pub EatsRows : Cursor → Cursor → Option Token → Type 0
EatsRows before after None = (after ≡ before) × Ends RowDigit (rest before)
EatsRows before after (Some (token.Rows run at)) =
    (at ≡ before.at) × All (Is RowDigit) run.now × (run.now ≢ []) × Passes run.now before after × Ends RowDigit (rest after)
EatsRows before after (Some _) = ⊥
