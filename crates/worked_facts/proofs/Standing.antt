-- The table of worked examples, by one test that computes.
use Rattle.std.proofs.Common.{◌≡◌, Bool, true, not, ◌&&◌, eqb, List, [], ◌∷◌, length, map, codes, refl}
use Rattle.std.proofs.lemmas.Bool.{and_parts, both_ways, eqb-true, not-true}
use Rattle.std.specs.Fmt.{digits}
use Rattle.std.specs.List.{range_with_len}
use Rattle.answers.specs.Spelling.{text_of}
use Rattle.lists.proofs.Times.{equal_decides}
use Rattle.lists.specs.Lists.{equal}
use Rattle.lists.specs.Spread.{spread}
use Rattle.tables.specs.Wirings.{pin}
use Rattle.wire_sheet.specs.Sheets.{wire_text}
use Rattle.worked_facts.specs.Cases.{Case, agreeing, same_drives, differing, leading, giving, spreading, classing, printing, spelling, told, Holds, AllHold, cases, WorkedFacts}
use Rattle.worked_facts.proofs.Agreeing.{agree_test, agree_tests, agreeing_test, agreeing_holds}
use Rattle.worked_facts.proofs.Leading.{leading_test, leading_holds}
use Rattle.worked_facts.proofs.Drives.{drives_test, drives_hold}
use Rattle.worked_facts.proofs.Classes.{classes_test, classes_hold}

abbrev passes : Case → Bool
passes (agreeing n card part wirings) = agreeing_test n card part wirings
passes (same_drives d h e k same) = drives_test d h e k same
passes (differing n card part wiring) = not (agree_test n card part (pin wiring))
passes (leading n card part wiring) = leading_test n card part wiring
passes (giving by n rows i list) = equal (told by n rows i) list
passes (spreading by n card part k) = eqb (spread (map (told by n card) (range_with_len 0 n)) (map (told by n part) (range_with_len 0 n))) k
passes (classing n rows classes) = classes_test n rows classes
passes (printing number n pins text size) = equal (wire_text number n pins) (codes text) && eqb (length (codes text)) size
passes (spelling answer text) = equal (text_of answer) (codes text)

holds : (c : Case) → passes c ≡ true → Holds c
holds (agreeing n card part wirings) t = agreeing_holds n card part wirings t
holds (same_drives d h e k same) t = drives_hold d h e k same t
holds (differing n card part wiring) t = λ a. both_ways (agree_test n card part (pin wiring)) (not-true (agree_test n card part (pin wiring)) t) (agree_tests n card part (pin wiring) a)
holds (leading n card part wiring) t = leading_holds n card part wiring t
holds (giving by n rows i list) t = (equal_decides (told by n rows i) list).0 t
holds (spreading by n card part k) t = eqb-true (spread (map (told by n card) (range_with_len 0 n)) (map (told by n part) (range_with_len 0 n))) k t
holds (classing n rows classes) t = classes_hold n rows classes t
holds (printing number n pins text size) t =
    let both = and_parts (equal (wire_text number n pins) (codes text)) (eqb (length (codes text)) size) t in
    ((equal_decides (wire_text number n pins) (codes text)).0 both.0, eqb-true (length (codes text)) size both.1)
holds (spelling answer text) t = (equal_decides (text_of answer) (codes text)).0 t

abbrev all_pass : List Case → Bool
all_pass [] = true
all_pass (c ∷ cs) = passes c && all_pass cs

all_hold : (cs : List Case) → all_pass cs ≡ true → AllHold cs
all_hold [] t = tt
all_hold (c ∷ cs) t = let both = and_parts (passes c) (all_pass cs) t in (holds c both.0, all_hold cs both.1)

pub worked_facts_lem : WorkedFacts
unfolding digits
worked_facts_lem = all_hold cases refl
