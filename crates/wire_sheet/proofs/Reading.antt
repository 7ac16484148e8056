-- A sheet is read from its own text and from no other.
use Rattle.std.proofs.Common.{◌≡◌, ℕ, ◌<◌, ◌≤◌, ◌↔◌, List, length, take, refl, sym, ap, ◌∙◌, subst, inl, inr, ⊎_elim, arith, Result, Ok, Err}
use Rattle.std.specs.Prelude.{codes}
use Rattle.std.proofs.lemmas.Grind.{same_number_lists, get_or_default_zero}
use Rattle.std.proofs.lemmas.Bool.Decides.{nat_tests}
use Rattle.refusals.specs.Due.{none, refusal}
use Rattle.refusals.specs.Numbers.{number}
use Rattle.refusals.specs.declared.refusal.Refusal.{Refusal}
use Rattle.refusals.specs.declared.refusal.Refusal.TheVariants.{NotAForm}
use Rattle.refusals.proofs.Dues.{refusal≢none}
use Rattle.tables.specs.declared.wiring.Wiring.{Wiring}
use Rattle.tables.proofs.Pins.{read_length, read_pin, same_taken}
use Rattle.tables.specs.Making.{WiringMade, Names}
use Rattle.ledger.specs.Refused.{number_due}
use Rattle.wire_sheet.specs.declared.sheet.Sheet.{Sheet}
use Rattle.wire_sheet.specs.declared.wire_line.WireLine.{WireLine}
use Rattle.wire_sheet.specs.Lines.{Said, Spells, Writes, Answers, Reads, Holds, kept}
use Rattle.wire_sheet.specs.Sheets.{sheet_text}
use Rattle.tokens.proofs.Fronts.{front_same, number_same, inputs_same}
use Rattle.wire_sheet.proofs.Lists.{same_list}
use Rattle.wire_sheet.proofs.Kept.{made_of_all}
use Rattle.wire_sheet.proofs.Same.{same_sheet}
use Rattle.wire_sheet.proofs.Lengths.{length-sheet_text}

number_fine : (n : ℕ) → 1 ≤ n → n ≤ 9999 → number_due n ≡ none
number_fine n some few = grind (arith, nat_tests)

abbrev pins_of : Wiring → List ℕ
pins_of w = take w.inputs w.pins

names_of : (w : Wiring) → Names w.inputs (pins_of w)
names_of w = (
  read_length w _ refl,
  (
    (λ i lt. rw (read_pin w _ refl i lt) (w.into i lt)),
    (λ i j two. w.apart i j (two.0, two.1, sym (read_pin w _ refl i two.0) ∙ two.2 ∙ read_pin w _ refl j two.1)),
  ),
)

-- a wiring that was made of pins has these pins
pins_made : (n : ℕ) (pins : List ℕ) (w : Wiring) → WiringMade n pins (Ok w) → pins ≡ pins_of w
pins_made n pins w made =
    same_number_lists pins (pins_of w) (omega (arith, made.1, made.2, read_length w _ refl)) (λ k lt.
    let below : k < w.inputs = omega (arith, made.1, made.2, lt) in
    sym (read_pin w _ refl k below ∙ made.3 k (omega (arith, made.2, lt))))

-- a line spells one thing only
one_said : (line : List ℕ) (a b : Said) → Spells line a → Spells line b → (a.number ≡ b.number) × (a.inputs ≡ b.inputs) × (a.pins ≡ b.pins)
one_said line a b x y =
    let numbers = number_same a.number b.number _ _ _ x.number y.number (λ digit. omega (arith, digit.0)) (λ digit. omega (arith, digit.0)) refl (front_same (codes "(wire") line _ _ x.text y.text) in
    let inputs = inputs_same a.inputs b.inputs _ _ _ x.inputs y.inputs refl numbers.1 in
    let pins = same_list a.pins b.pins _ _ x.pins y.pins (front_same (codes " (to") _ _ _ refl inputs.1) in
    (numbers.0, inputs.0, pins.0)

abbrev said_of : Sheet → Said
said_of sheet = record { number = sheet.number; inputs = sheet.wiring.inputs; pins = pins_of sheet.wiring }

spells_own : (line : List ℕ) (sheet : Sheet) → line ≡ sheet_text sheet.number sheet.wiring → Spells line (said_of sheet)
spells_own line sheet e = record {
  number = omega (arith, sheet.numbered);
  inputs = omega (arith, sheet.wiring.few);
  pins = λ i d lt. omega (arith, get_or_default_zero (pins_of sheet.wiring) i d lt, read_pin sheet.wiring _ refl i (omega (arith, lt, read_length sheet.wiring _ refl)), sheet.wiring.into i (omega (arith, lt, read_length sheet.wiring _ refl)), sheet.wiring.few);
  text = e;
}

-- a sheet that was read is what the line writes
own_text : (line : List ℕ) (sheet : Sheet) → Reads line (Ok sheet) → line ≡ sheet_text sheet.number sheet.wiring
own_text line sheet reads =
    ⊎_elim
    (λ (read : (said : Said) × Writes line said × Answers said (Ok sheet)).
    let answers = read.2 in
    let pins = pins_made read.0.inputs read.0.pins sheet.wiring answers.2 in
    read.1.1.text ∙ cc (answers.1, answers.2.1, pins))
    (λ (none : ((said : Said) → ¬ (Writes line said)) × (◌≡◌ {A = Result Sheet Refusal} (Ok sheet) (Err NotAForm))). absurd (cc none.1))
    reads

-- what a sheet says is not refused
no_refusal : (sheet : Sheet) (said : Said) (reason : Refusal) → said.number ≡ sheet.number → said.inputs ≡ sheet.wiring.inputs → said.pins ≡ pins_of sheet.wiring → Answers said (Err reason) → ⊥
no_refusal sheet said reason numbers inputs pins answers =
    let fine : number_due said.number ≡ none = number_fine said.number (omega (arith, sheet.numbered, numbers)) (omega (arith, sheet.numbered, numbers)) in
    ⊎_elim
    (λ (due : number_due said.number ≡ refusal (number reason)). refusal≢none (number reason) (sym due ∙ fine))
    (λ (made : (number_due said.number ≡ none) × WiringMade said.inputs said.pins (Err reason)).
    ⊎_elim
    (λ (more : (10 < said.inputs) × (number reason ≡ 3)). omega (arith, more.0, inputs, sheet.wiring.few))
    (λ (names : (said.inputs ≤ 10) × (Names said.inputs said.pins → ⊥) × (number reason ≡ 14)).
    names.1 (subst (λ n. Names n said.pins) (sym inputs) (subst (Names sheet.wiring.inputs) (sym pins) (names_of sheet.wiring))))
    made.1)
    answers

read_back : (line : List ℕ) (result : Result Sheet Refusal) → Reads line result → (sheet : Sheet) → line ≡ sheet_text sheet.number sheet.wiring → result ≡ Ok sheet
read_back line (Ok found) reads sheet e =
    let text = own_text line found reads in
    let same = one_said line (said_of found) (said_of sheet) (spells_own line found text) (spells_own line sheet e) in
    let wirings = same_taken found.wiring sheet.wiring same.1 same.2 in
    ap Ok (same_sheet found sheet same.0 wirings)
read_back line (Err reason) reads sheet e =
    let own = spells_own line sheet e in
    ⊎_elim
    (λ (read : (said : Said) × Writes line said × Answers said (Err reason)).
    let same = one_said line read.0 (said_of sheet) read.1.1 own in
    absurd (no_refusal sheet read.0 reason same.0 same.1 same.2 read.2))
    (λ (none : ((said : Said) → ¬ (Writes line said)) × (◌≡◌ {A = Result Sheet Refusal} (Err reason) (Err NotAForm))). absurd (none.0 (said_of sheet) (omega (arith, ap length e, length-sheet_text sheet.number sheet.wiring sheet.numbered.1), own)))
    reads

pub exact : (line : List ℕ) (result : Result Sheet Refusal) → Reads line result → (sheet : Sheet) → (result ≡ Ok sheet) ↔ (line ≡ sheet_text sheet.number sheet.wiring)
exact line result reads sheet = (
  (λ e. own_text line sheet (subst (Reads line) e reads)),
  (λ e. read_back line result reads sheet e),
)

module _ (line : List ℕ) (held : WireLine) (short : length line ≤ 1100) (says : (said : Said) × Spells line said × Holds held said) where
  made_whole : (pins : List ℕ) (made : Result Wiring Refusal) → pins ≡ held.list → WiringMade held.inputs pins made → WiringMade says.0.inputs says.0.pins made
  made_whole pins made same wiring =
      made_of_all says.0.inputs says.0.pins made (subst (λ n. WiringMade n (kept says.0.pins) made) says.2.1 (subst (λ l. WiringMade held.inputs l made) (same ∙ says.2.2) wiring))

  -- a number and pins that were read are answered as all that the line says
  pub wiring_refused : (pins : List ℕ) (reason : Refusal) → number_due held.number ≡ none → pins ≡ held.list → WiringMade held.inputs pins (Err reason) → Reads line (Err reason)
  wiring_refused pins reason fine same made = inl (says.0, (short, says.1), inr (rw says.2.0 at fine, made_whole pins (Err reason) same made))

  pub sheet_read : (pins : List ℕ) (sheet : Sheet) → number_due held.number ≡ none → sheet.number ≡ held.number → pins ≡ held.list → WiringMade held.inputs pins (Ok sheet.wiring) → Reads line (Ok sheet)
  sheet_read pins sheet fine number same made = inl (says.0, (short, says.1), (rw says.2.0 at fine, number ∙ says.2.0, made_whole pins (Ok sheet.wiring) same made))
