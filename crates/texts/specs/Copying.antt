use Rattle.std.specs.Prelude.{◌≡◌, ℕ, List, ◌++◌, length, drop, Ok, Err, Result, nat_lt}
use Rattle.refusals.specs.Due.{Due, none, refusal, first}
use Rattle.refusals.specs.Numbers.{number}
use Rattle.refusals.specs.declared.refusal.Refusal.{Refusal}

-- memory with fewer places than the text has bytes is refused with 13
abbrev pub copy_due : (text memory : ℕ) → Due
copy_due text memory = first (nat_lt memory text) 13 none

-- the text stands in the front of the memory and its length is answered; a refusal writes nothing
abbrev pub Copied : List ℕ → List ℕ → Result ℕ Refusal → List ℕ → Type 0
Copied text memory (Ok size) memory' =
    (copy_due (length text) (length memory) ≡ none)
    × (size ≡ length text) × (memory' ≡ text ++ drop (length text) memory)
Copied text memory (Err reason) memory' =
    (copy_due (length text) (length memory) ≡ refusal (number reason)) × (memory' ≡ memory)
