-- What a shelf that is talked to in lines does.
use Rattle.std.specs.Prelude.{◌≡◌, ℕ, ◌-◌, ◌^◌, ◌≤◌, ◌⊎◌, List, [], ◌∷◌, ◌++◌, length, take}
use Rattle.std.specs.List.{flat_map}
use Rattle.std.specs.IoError.{error_kind}
use Rattle.std.specs.declared.io.Error.{Error}
use Rattle.std.specs.declared.io.ErrorKind.TheVariants.{OutOfMemory}
use Rattle.refusals.specs.Due.{Due, none, refusal, first_of}
use Rattle.refusals.specs.Numbers.{number}
use Rattle.rows.specs.declared.on_off.OnOff.{OnOff}
use Rattle.ledger.specs.Ledger.{Part, ledger_from}
use Rattle.ledger.specs.Law.{Answered}
use Rattle.ledger.specs.Questions.{Answer}
use Rattle.inventory.specs.Slots.{memory_due}
use Rattle.inventory.specs.Stocking.{open_due}
use Rattle.inventory.specs.declared.shelf.Shelf.{Shelf}
use Rattle.runs.specs.Holding.{Holds}
use Rattle.answers.specs.Spelling.{text_of}
use Rattle.shelf_line.specs.Lines.{ReadAs, OnOffCall, OnOffQuestions}
use Rattle.line_service.specs.Peers.{Broke}
use Rattle.line_service.specs.Lines.{split, lines, kept}
use Rattle.line_service.specs.declared.service_error.ServiceError.{ServiceError}
use Rattle.line_service.specs.declared.service_error.ServiceError.TheVariants.{Refused, Reading, Writing, TooLong}

-- a shelf of a wrong number of slots, and then row memory of a wrong length, is refused with 6
abbrev pub service_due : (slots rows : ℕ) → Due
service_due slots rows = first_of (open_due slots) (memory_due slots rows)

-- a line of which 1,101 bytes are kept is read as the whole line is
abbrev pub LongLinesAreNoForm : Type 0 → Type 0
LongLinesAreNoForm P = (pile : P) (line : List ℕ) (call : OnOffCall P) → ReadAs pile (take 1101 line) call → ReadAs pile line call

-- the calls that the lines are read as
abbrev pub AllRead : {P : Type 0} → P → List (List ℕ) → List (OnOffCall P) → Type 0
AllRead pile [] [] = Unit {0}
AllRead pile (line ∷ rest) (call ∷ calls) = ReadAs pile line call × AllRead pile rest calls
AllRead pile _ _ = ⊥

-- the lines that some bytes have so far: those that are whole, and once the end has come the last one too
abbrev pub LinesSoFar : (at_end : Type 0) → (bytes : List ℕ) → List (List ℕ) → Type 0
LinesSoFar at_end bytes all = ((split bytes).whole ≡ all) ⊎ (at_end × (lines bytes ≡ all))

-- the texts of answers, one after the other
abbrev pub texts : List Answer → List ℕ
texts answers = flat_map text_of answers

-- the text is that of the answers, but that the last of them may be cut short
abbrev pub IsCut : List Answer → (text : List ℕ) → Type 0
IsCut answers text =
    (said last : List Answer) × (part rest : List ℕ)
    × (answers ≡ said ++ last) × (length last ≤ 1) × (text ≡ texts said ++ part) × (texts last ≡ part ++ rest)

module _ {P : Type 0} (questions : OnOffQuestions P) (pile : P) where
  -- the lines are calls, and whatever parts the shelf holds, each answer is right for the parts that stood when its line
  -- came, and the shelf then holds the parts of the ledger
  abbrev pub Plays : List (List ℕ) → Shelf → List OnOff → List Answer → Shelf → List OnOff → Type 0
  Plays lines shelf memory answers shelf' memory' =
      (calls : List (OnOffCall P)) × AllRead pile lines calls × (shelf'.count ≡ shelf.count)
      × ((parts : List (Part OnOff)) → Holds shelf.slots memory parts
      → Answered questions shelf.count parts calls answers × Holds shelf'.slots memory' (ledger_from shelf.count parts calls))

  -- the text answers this line
  abbrev pub AnswersLine : List ℕ → Shelf → List OnOff → (text : List ℕ) → Shelf → List OnOff → Type 0
  AnswersLine line shelf memory text shelf' memory' = (answer : Answer) × (text ≡ text_of answer) × Plays (line ∷ []) shelf memory (answer ∷ []) shelf' memory'

  -- the text answers the lines in order
  abbrev pub Talks : List (List ℕ) → Shelf → List OnOff → (text : List ℕ) → Shelf → List OnOff → Type 0
  Talks lines shelf memory text shelf' memory' = (answers : List Answer) × (text ≡ texts answers) × Plays lines shelf memory answers shelf' memory'

  -- the same, but that the last text may be cut short
  abbrev pub TalksInPart : List (List ℕ) → Shelf → List OnOff → (text : List ℕ) → Shelf → List OnOff → Type 0
  TalksInPart lines shelf memory text shelf' memory' = (answers : List Answer) × IsCut answers text × Plays lines shelf memory answers shelf' memory'

  -- the same on a shelf just opened: these are the right answers to the lines, and the row memory, with some shelf of so
  -- many slots, then holds the parts of the ledger
  abbrev pub Conversation : (slots : ℕ) → List (List ℕ) → List Answer → List OnOff → Type 0
  Conversation slots lines answers memory' =
      (calls : List (OnOffCall P)) × AllRead pile lines calls × Answered questions slots [] calls answers
      × ((shelf : Shelf) × (shelf.count ≡ slots) × Holds shelf.slots memory' (ledger_from slots [] calls))

  module _ {C : Type 0} (passes : C → List ℕ → List ℕ → C → Type 0) where
    -- the text that answers these lines is written
    abbrev pub Says : List (List ℕ) → Shelf → List OnOff → C → Shelf → List OnOff → C → Type 0
    Says lines shelf memory peer shelf' memory' peer' = (text : List ℕ) × passes peer [] text peer' × Talks lines shelf memory text shelf' memory'

    -- the same, but that the last text may be cut short
    abbrev pub SaysInPart : List (List ℕ) → Shelf → List OnOff → C → Shelf → List OnOff → C → Type 0
    SaysInPart lines shelf memory peer shelf' memory' peer' = (text : List ℕ) × passes peer [] text peer' × TalksInPart lines shelf memory text shelf' memory'

    -- what some bytes lead to after a begun line, whose front is kept
    abbrev pub Hears : (begun bytes : List ℕ) → Shelf → List OnOff → C → (begun' : List ℕ) → Shelf → List OnOff → C → Type 0
    Hears begun bytes shelf memory peer begun' shelf' memory' peer' =
        (begun' ≡ (kept 1101 begun bytes).begun) × Says (kept 1101 begun bytes).whole shelf memory peer shelf' memory' peer'

    -- what a front of them leads to, where the last text may be cut short
    abbrev pub HearsInPart : (begun bytes : List ℕ) → Shelf → List OnOff → C → Shelf → List OnOff → C → Type 0
    HearsInPart begun bytes shelf memory peer shelf' memory' peer' =
        (front rest : List ℕ) × (bytes ≡ front ++ rest) × SaysInPart (kept 1101 begun front).whole shelf memory peer shelf' memory' peer'

    module _ (slots : ℕ) (peer : C) (memory' : List OnOff) (peer' : C) where
      -- these bytes are read and these lines among them are answered
      abbrev pub AnswersTo : List (List ℕ) → (bytes : List ℕ) → Type 0
      AnswersTo lines bytes = (answers : List Answer) × passes peer bytes (texts answers) peer' × Conversation slots lines answers memory'

      -- bytes are read, a front of their lines is played, and the last of the answers may be cut short
      abbrev pub BreaksOff : (at_end : Type 0) → Type 0
      BreaksOff at_end =
          (bytes text : List ℕ) × (heard more : List (List ℕ)) × (answers : List Answer)
          × passes peer bytes text peer' × LinesSoFar at_end bytes (heard ++ more) × IsCut answers text
          × Conversation slots heard answers memory'

    module _ (is_at_end is_flushed : C → Type 0) (read_fails write_fails : C → Error → C → Type 0)
        (slots : ℕ) (memory : List OnOff) (peer : C) (memory' : List OnOff) (peer' : C) where
      -- all bytes are read up to the end, and all lines among them are answered
      abbrev pub Serves : Type 0
      Serves =
          (service_due slots (length memory) ≡ none)
          × ((bytes : List ℕ) × AnswersTo slots peer memory' peer' (lines bytes) bytes) × is_at_end peer' × is_flushed peer'

      -- a refusal reads, writes and changes nothing. Where a read fails, or the input is longer than can be counted, each
      -- line that is whole is answered; where a write fails, the answers break off there
      abbrev pub ServesNot : ServiceError → Type 0
      ServesNot (Refused reason) = (service_due slots (length memory) ≡ refusal (number reason)) × (memory' ≡ memory) × (peer' ≡ peer)
      ServesNot (Reading cause) =
          (service_due slots (length memory) ≡ none)
          × ((bytes : List ℕ) × AnswersTo slots peer memory' peer' (split bytes).whole bytes) × is_flushed peer' × Broke read_fails peer' cause
      ServesNot (Writing cause) =
          (service_due slots (length memory) ≡ none) × BreaksOff slots peer memory' peer' (is_at_end peer') × Broke write_fails peer' cause
      ServesNot TooLong =
          (service_due slots (length memory) ≡ none)
          × ((bytes : List ℕ) × AnswersTo slots peer memory' peer' (split bytes).whole bytes × (2 ^ 64 - 1 ≤ length bytes))

  -- the text is that of the answers to all lines of an input in memory
  abbrev pub AnswersAll : (slots : ℕ) (input : List ℕ) → List OnOff → List OnOff → (text : List ℕ) → Type 0
  AnswersAll slots input memory memory' text =
      (service_due slots (length memory) ≡ none) × ((answers : List Answer) × (text ≡ texts answers) × Conversation slots (lines input) answers memory')

-- a refusal changes nothing, and nothing else fails but for memory
abbrev pub AnswersNot : (slots : ℕ) → List OnOff → List OnOff → ServiceError → Type 0
AnswersNot slots memory memory' (Refused reason) = (service_due slots (length memory) ≡ refusal (number reason)) × (memory' ≡ memory)
AnswersNot slots memory memory' (Writing cause) = (service_due slots (length memory) ≡ none) × (error_kind cause ≡ OutOfMemory)
AnswersNot slots memory memory' _ = ⊥
