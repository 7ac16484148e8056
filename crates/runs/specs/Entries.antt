-- Lists in which each entry is a call, and what playing them answers and changes: the law of runs.
use Rattle.std.specs.Prelude.{◌≡◌, ℕ, ◌||◌, List, [], ◌∷◌, sum_by, length, take, drop, Ok, Err, Result, nat_lt}
use Rattle.refusals.specs.Due.{Due, none, refusal, first, first_of}
use Rattle.refusals.specs.Numbers.{number}
use Rattle.refusals.specs.declared.refusal.Refusal.{Refusal}
use Rattle.ledger.specs.Ledger.{Part, Call as LedgerCall, ledger_from, ledger}
use Rattle.ledger.specs.Questions.{Answer, Questions, Question as LedgerQuestion}
use Rattle.ledger.specs.Law.{Answered}
use Rattle.inventory.specs.Slots.{memory_due}
use Rattle.inventory.specs.declared.shelf.Shelf.{Shelf}
use Rattle.inventory.specs.Stocking.{open_due, IsEmpty}
use Rattle.runs.specs.Calls.{Does, DoesEach}
use Rattle.runs.specs.Holding.{Holds, Leads}
use Rattle.runs.specs.Transcript.{said, told}
use Rattle.runs.specs.declared.answer.Grant.{Grant}
use Rattle.runs.specs.declared.call.Call.{Call}

-- one kind of memory that is lent to the entries X of a list, which have the answers A
pub record Lent (X A : Type 0) : Type 1 where
  -- how much of it an entry has
  pub room : X → ℕ
  -- what an entry's answer tells, together with what is lent to it, before and after
  pub Tells : X → A → (memory memory' : List ℕ) → Answer → Type 0

-- what stands in a list: entries X with answers A, each of which is a call C and is lent bytes and words
pub record Entries (X A C : Type 0) : Type 1 where
  -- the call that an entry is
  pub IsCall : X → C → Type 0
  pub bytes : Lent X A
  pub words : Lent X A

-- row memory of a wrong length is refused with 6, and then with 13 room for fewer answers than entries, or fewer bytes or
-- words than they are lent
abbrev pub entries_due : (slots rows entries answers wanted bytes wanted_words words : ℕ) → Due
entries_due slots rows entries answers wanted bytes wanted_words words =
    first_of (memory_due slots rows) (first (nat_lt answers entries || (nat_lt bytes wanted || nat_lt words wanted_words)) 13 none)

module _ {X A : Type 0} (lent : Lent X A) where
  -- how much of it all entries of a list have
  abbrev pub rooms : List X → ℕ
  rooms xs = sum_by lent.room xs

  -- what is lent to the entries lies one after the other, and what comes after all of it is as it was
  abbrev pub AllTell : List X → List A → (memory memory' : List ℕ) → List Answer → Type 0
  AllTell [] [] memory memory' [] = memory' ≡ memory
  AllTell (x ∷ xs) (result ∷ results) memory memory' (a ∷ rest) =
      lent.Tells x result (take (lent.room x) memory) (take (lent.room x) memory') a
      × AllTell xs results (drop (lent.room x) memory) (drop (lent.room x) memory') rest
  AllTell _ _ memory memory' _ = ⊥

  -- what an answer tells is written in one way
  abbrev pub OneTelling : Type 0
  OneTelling = (x : X) (t u : A) (memory after after' : List ℕ) (a : Answer) → lent.Tells x t memory after a → lent.Tells x u memory after' a → after ≡ after'

module _ {X A C : Type 0} (kind : Entries X A C) where
  abbrev pub bytes_kind : Lent X A
  bytes_kind = kind.bytes

  abbrev pub words_kind : Lent X A
  words_kind = kind.words

  abbrev pub bytes_of : X → ℕ
  bytes_of x = kind.bytes.room x

  abbrev pub words_of : X → ℕ
  words_of x = kind.words.room x

  abbrev pub all_bytes : List X → ℕ
  all_bytes xs = rooms kind.bytes xs

  abbrev pub all_words : List X → ℕ
  all_words xs = rooms kind.words xs

  -- an entry is one call
  abbrev pub OneCall : Type 0
  OneCall = (x : X) (a b : C) → kind.IsCall x a → kind.IsCall x b → a ≡ b

  -- the entries are these calls
  abbrev pub AreCalls : List X → List C → Type 0
  AreCalls [] [] = Unit {0}
  AreCalls (x ∷ xs) (c ∷ calls) = kind.IsCall x c × AreCalls xs calls
  AreCalls _ _ = ⊥

module _ {R Q X A : Type 0} (questions : Questions R Q) (kind : Entries X A (LedgerCall R Q)) where
  -- the entry is a call whose answer is told, and whatever parts the shelf holds, that answer is right for them; of slots
  -- and rows the entry changes what the call changes, and no more
  abbrev pub Takes : X → Shelf → List R → (bytes words : List ℕ) → A → Shelf → List R → (bytes' words' : List ℕ) → Type 0
  Takes x shelf memory bytes words result shelf' memory' bytes' words' =
      (c : LedgerCall R Q) × (answer : Answer)
      × kind.IsCall x c × kind.bytes.Tells x result bytes bytes' answer × kind.words.Tells x result words words' answer
      × Leads questions shelf memory c answer shelf' memory' × Does questions shelf memory c answer shelf' memory'

  -- the entries are calls whose answers are told, each does what its call does, and whatever parts the shelf holds, each
  -- answer is right for the parts that stood when its call came, and the shelf then holds the parts of the ledger
  abbrev pub Lawful : List X → Shelf → List R → List A → (bytes bytes' words words' : List ℕ) → Shelf → List R → Type 0
  Lawful xs shelf memory answers bytes bytes' words words' shelf' memory' =
      (calls : List (LedgerCall R Q)) × (tells : List Answer)
      × AreCalls kind xs calls × AllTell kind.bytes xs answers bytes bytes' tells × AllTell kind.words xs answers words words' tells
      × DoesEach questions calls tells shelf memory shelf' memory'
      × ((parts : List (Part R)) → Holds shelf.slots memory parts
      → Answered questions shelf.count parts calls tells × Holds shelf'.slots memory' (ledger_from shelf.count parts calls))

  module _ (xs : List X) (memory : List R) (bytes words : List ℕ) (answers : List A) where
    -- answers past the entries are as they were, and a refusal changes nothing
    abbrev pub EntriesPlayed : Shelf → Result Unit Refusal → Shelf → List R → (bytes' words' : List ℕ) → List A → Type 0
    EntriesPlayed shelf (Ok _) shelf' memory' bytes' words' answers' =
        (entries_due shelf.count (length memory) (length xs) (length answers) (all_bytes kind xs) (length bytes) (all_words kind xs) (length words) ≡ none)
        × (shelf'.count ≡ shelf.count)
        × (drop (length xs) answers' ≡ drop (length xs) answers)
        × Lawful xs shelf memory (take (length xs) answers') bytes bytes' words words' shelf' memory'
    EntriesPlayed shelf (Err reason) shelf' memory' bytes' words' answers' =
        (entries_due shelf.count (length memory) (length xs) (length answers) (all_bytes kind xs) (length bytes) (all_words kind xs) (length words) ≡ refusal (number reason))
        × (shelf' ≡ shelf) × (memory' ≡ memory) × (bytes' ≡ bytes) × (words' ≡ words) × (answers' ≡ answers)

    -- the same on a shelf just opened, which holds no part whatever the memory holds
    abbrev pub EntriesOpened : (slots : ℕ) → Result Shelf Refusal → List R → (bytes' words' : List ℕ) → List A → Type 0
    EntriesOpened slots (Ok shelf) memory' bytes' words' answers' =
        (first_of (open_due slots) (entries_due slots (length memory) (length xs) (length answers) (all_bytes kind xs) (length bytes) (all_words kind xs) (length words)) ≡ none)
        × (shelf.count ≡ slots)
        × (drop (length xs) answers' ≡ drop (length xs) answers)
        × ((calls : List (LedgerCall R Q)) × (tells : List Answer)
        × AreCalls kind xs calls × AllTell kind.bytes xs (take (length xs) answers') bytes bytes' tells × AllTell kind.words xs (take (length xs) answers') words words' tells
        × Answered questions slots [] calls tells × Holds shelf.slots memory' (ledger slots calls)
        × ((first : Shelf) × IsEmpty slots first × DoesEach questions calls tells first memory shelf memory'))
    EntriesOpened slots (Err reason) memory' bytes' words' answers' =
        (first_of (open_due slots) (entries_due slots (length memory) (length xs) (length answers) (all_bytes kind xs) (length bytes) (all_words kind xs) (length words)) ≡ refusal (number reason))
        × (memory' ≡ memory) × (bytes' ≡ bytes) × (words' ≡ words) × (answers' ≡ answers)

  -- on a shelf just opened only one list of answers can be told, and what is lent can be written in one way only
  abbrev pub OneWriting : Lent X A → Type 0
  OneWriting lent = (slots : ℕ) (xs : List X) (memory : List ℕ)
      (calls calls' : List (LedgerCall R Q)) (tells tells' : List Answer) (answers answers' : List A) (after after' : List ℕ)
      → AreCalls kind xs calls → Answered questions slots [] calls tells → AllTell lent xs answers memory after tells
      → AreCalls kind xs calls' → Answered questions slots [] calls' tells' → AllTell lent xs answers' memory after' tells'
      → (tells ≡ tells') × (after ≡ after')

-- a call is an entry that is itself and is lent nothing
abbrev pub call_kind : {R P : Type 0} → Entries (Call R P) (Result Grant Refusal) (LedgerCall R (LedgerQuestion R P))
call_kind = record {
  IsCall = λ x c. c ≡ said x;
  bytes = record { room = λ x. 0; Tells = λ x result bytes bytes' tells. (tells ≡ told result) × (bytes' ≡ bytes) };
  words = record { room = λ x. 0; Tells = λ x result words words' tells. words' ≡ words };
}
