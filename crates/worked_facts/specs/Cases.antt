-- Worked examples, as rows of one table, and what a row says in terms of the definitions that the contracts use.
use Rattle.std.specs.Prelude.{◌≡◌, ℕ, ◌<◌, ◌≤◌, Bool, true, if◌then◌else◌, ◌⊎◌, ◌↔◌, List, [], ◌∷◌, length, map, codes, ◌==◌, slice_index}
use Prim.Native.String.{String}
use Rattle.rows.specs.declared.on_off.OnOff.{OnOff}
use Rattle.rows.specs.declared.on_off.OnOff.TheVariants.{Off, On}
use Rattle.rows.specs.declared.drive.Drive.{Drive}
use Rattle.rows.specs.declared.drive.Direction.{Direction}
use Rattle.rows.specs.declared.drive.Direction.TheVariants.{Rest}
use Rattle.rows.specs.Kinds.{on_off_same, on_off_weight, code, drive_same}
use Rattle.rows.specs.Drives.{Is}
use Rattle.std.specs.List.{range_with_len}
use Rattle.answers.specs.Spelling.{text_of}
use Rattle.ledger.specs.Questions.{Answer, proposed}
use Rattle.lists.specs.Spread.{spread}
use Rattle.signatures.specs.Law.{list_of}
use Rattle.signatures.specs.Values.{cofactor, refined, neighbour}
use Rattle.symmetry.specs.Symmetry.{Class}
use Rattle.tables.specs.Wirings.{pin, Alike, Other, Before}
use Rattle.tables.specs.Agreement.{Agree}
use Rattle.wire_sheet.specs.Sheets.{wire_text}

-- the signatures that examples are given for
pub data Told : Type 0 where
  by_cofactor : Told
  by_refined : Told
  by_neighbour : Told

-- the list of an input; refined stands over cofactor
abbrev pub told : Told → ℕ → List OnOff → ℕ → List ℕ
told by_cofactor = list_of 1 (cofactor on_off_weight)
told by_refined = list_of 1 (refined on_off_weight (cofactor on_off_weight))
told by_neighbour = list_of 3 (neighbour on_off_same on_off_weight)

-- the kinds of worked examples
pub data Case : Type 0 where
  -- card and part of n inputs agree under these wirings, each a list of pins, and under no other
  agreeing : (n : ℕ) (card part : List OnOff) (wirings : List (List ℕ)) → Case
  -- the drive d held for h and the drive e held for k are the same, or are not
  same_drives : (d : Direction) (h : ℕ) (e : Direction) (k : ℕ) (same : Bool) → Case
  -- card and part do not agree under this wiring
  differing : (n : ℕ) (card part : List OnOff) (wiring : List ℕ) → Case
  -- card and part agree under this wiring, and every other under which they do comes later in dictionary order
  leading : (n : ℕ) (card part : List OnOff) (wiring : List ℕ) → Case
  -- a signature gives input i of a table this list
  giving : (by : Told) (n : ℕ) (rows : List OnOff) (i : ℕ) (list : List ℕ) → Case
  -- the spread of card and part under a signature
  spreading : (by : Told) (n : ℕ) (card part : List OnOff) (k : ℕ) → Case
  -- the class of each input of a table, in order
  classing : (n : ℕ) (rows : List OnOff) (classes : List ℕ) → Case
  -- a part's number, a number of inputs and a list of pins are printed as this text, of so many bytes
  printing : (number n : ℕ) (pins : List ℕ) (text : String) (size : ℕ) → Case
  -- an answer is spelled so
  spelling : (answer : Answer) (text : String) → Case

-- v is one of these wirings
abbrev pub Among : ℕ → (ℕ → ℕ) → List (List ℕ) → Type 0
Among n v [] = ⊥
Among n v (u ∷ us) = Alike n v (pin u) ⊎ Among n v us

-- what a worked example says
abbrev pub Holds : Case → Type 0
Holds (agreeing n card part wirings) = (v : ℕ → ℕ) → Agree on_off_same n v card part ↔ Among n v wirings
Holds (same_drives d h e k same) =
    (h ≤ 99) × (k ≤ 99) × ((x y : Drive) → Is (code d) h x → Is (code e) k y → drive_same x y ≡ same)
Holds (differing n card part wiring) = Agree on_off_same n (pin wiring) card part → ⊥
Holds (leading n card part wiring) =
    Agree on_off_same n (pin wiring) card part
    × ((v : ℕ → ℕ) → Agree on_off_same n v card part → Other n (pin wiring) v → Before n (pin wiring) v)
Holds (giving by n rows i list) = told by n rows i ≡ list
Holds (spreading by n card part k) = spread (map (told by n card) (range_with_len 0 n)) (map (told by n part) (range_with_len 0 n)) ≡ k
Holds (classing n rows classes) =
    (length classes ≡ n) × ((i : ℕ) → i < n → Class on_off_same n rows i (slice_index classes i))
Holds (printing number n pins text size) = (wire_text number n pins ≡ codes text) × (length (codes text) ≡ size)
Holds (spelling answer text) = text_of answer ≡ codes text

-- on/off rows as a text of 0 and 1, row 0 first
abbrev pub rows : String → List OnOff
rows text = map (λ c. if c == 49 then On else Off) (codes text)

abbrev pub cases : List Case
cases =
    -- no inputs: the one row is compared, under the empty wiring
    agreeing 0 (rows "1") (rows "1") ([] ∷ [])
    -- the other value in each row: no wiring
    ∷ agreeing 1 (rows "01") (rows "10") []
    -- three inputs, and one wiring of the six
    ∷ agreeing 3 (rows "00110101") (rows "00011011") ((1 ∷ 2 ∷ 0 ∷ []) ∷ [])
    -- rests are the same, however long they are held
    ∷ same_drives Rest 4 Rest 9 true
    -- what three signatures tell of one table
    ∷ giving by_cofactor 3 (rows "00011011") 0 (2 ∷ [])
    ∷ giving by_cofactor 3 (rows "00011011") 1 (3 ∷ [])
    ∷ giving by_cofactor 3 (rows "00011011") 2 (3 ∷ [])
    ∷ giving by_refined 3 (rows "00011011") 0 (12 ∷ [])
    ∷ giving by_refined 3 (rows "00011011") 1 (14 ∷ [])
    ∷ giving by_refined 3 (rows "00011011") 2 (11 ∷ [])
    ∷ giving by_neighbour 3 (rows "00011011") 0 (2 ∷ 1 ∷ 1 ∷ [])
    -- both inputs alike: either wiring is left open, both agree, and 0 1 is the first
    ∷ spreading by_cofactor 2 (rows "0001") (rows "0001") 2
    ∷ agreeing 2 (rows "0001") (rows "0001") ((0 ∷ 1 ∷ []) ∷ (1 ∷ 0 ∷ []) ∷ [])
    ∷ leading 2 (rows "0001") (rows "0001") (0 ∷ 1 ∷ [])
    -- four inputs with equal lists leave all 24 wirings open, and not each of them agrees
    ∷ spreading by_cofactor 4 (rows "0001000100011111") (rows "0001000100011111") 24
    ∷ differing 4 (rows "0001000100011111") (rows "0001000100011111") (0 ∷ 2 ∷ 1 ∷ 3 ∷ [])
    -- on where at least two of the three inputs are: any two can change places
    ∷ classing 3 (rows "00010111") (0 ∷ 0 ∷ 0 ∷ [])
    -- a sheet
    ∷ printing 12 3 (2 ∷ 0 ∷ 1 ∷ []) "(wire 12 (pins 3) (to 2 0 1))\n" 30
    -- what is told of a card that a part can stand in for, and of one that has no inputs
    ∷ spelling (proposed 30 3 (1 ∷ 2 ∷ 0 ∷ []) 6) "(fit 30 (to 1 2 0) (struck 6))\n"
    ∷ spelling (proposed 12 0 [] 0) "(fit 12 (to) (struck 0))\n"
    ∷ []

abbrev pub AllHold : List Case → Type 0
AllHold [] = Unit {0}
AllHold (c ∷ cs) = Holds c × AllHold cs

-- every worked example of the table holds
abbrev pub WorkedFacts : Type 0
WorkedFacts = AllHold cases
