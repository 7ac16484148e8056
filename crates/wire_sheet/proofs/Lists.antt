-- The pins of a to-list, one after the other.
use Rattle.std.proofs.Common.{◌≡◌, ℕ, zero, suc, List, [], ◌∷◌, ◌++◌, map, min, take, refl, sym, ap, ◌∙◌, arith, append_assoc}
use Rattle.std.specs.Prelude.{codes}
use Rattle.std.specs.List.{All}
use Rattle.std.specs.Fmt.{decimal}
use Rattle.std.proofs.lemmas.List.{map-append, append-nil}
use Rattle.std.proofs.lemmas.List.Elements.{All-nil, All-cons, All-head, All-tail, All-append}
use Rattle.tokens.specs.declared.characters.Kind.TheVariants.{Letter, Digit}
use Rattle.tokens.specs.Cursors.{Ends}
use Rattle.texts.specs.Pins.{pins_text}
use Rattle.tokens.specs.Phrases.{IsShort, inputs_text}
use Rattle.wire_sheet.specs.Lines.{kept}
use Rattle.wire_sheet.specs.Sheets.{list_text, wire_text}
use Rattle.tokens.proofs.Fronts.{space_ends_number, close_ends_number, front_same, number_same}

next_pin : (p : ℕ) (ps tail : List ℕ) → list_text (p ∷ ps) tail ≡ 32 ∷ (decimal p ++ list_text ps tail)
next_pin p ps tail = ap (λ l. 32 ∷ l) (append_assoc (decimal p) (pins_text ps) (41 ∷ tail))

list_ends_number : (ps tail : List ℕ) → Ends Digit (list_text ps tail)
list_ends_number [] tail = close_ends_number tail
list_ends_number (p ∷ ps) tail = space_ends_number (decimal p ++ pins_text ps ++ codes ")" ++ tail)

pub list_ends_word : (ps tail : List ℕ) → Ends Letter (list_text ps tail)
list_ends_word [] tail = λ letter. omega (arith, letter.0)
list_ends_word (p ∷ ps) tail = λ letter. omega (arith, letter.0)

-- one list only is written up to its closing bracket
pub same_list : (ps qs r t : List ℕ) → All IsShort ps → All IsShort qs → list_text ps r ≡ list_text qs t → (ps ≡ qs) × (r ≡ t)
same_list [] [] r t a b e = (refl, front_same (codes ")") (41 ∷ r) r t refl e)
same_list [] (q ∷ qs) r t a b e = let z : ◌≡◌ {A = ℕ} 41 32 = cc in absurd (omega arith)
same_list (p ∷ ps) [] r t a b e = let z : ◌≡◌ {A = ℕ} 32 41 = cc in absurd (omega arith)
same_list (p ∷ ps) (q ∷ qs) r t a b e =
    let short = All-head IsShort p ps a in
    let brief = All-head IsShort q qs b in
    let first = number_same p q _ (list_text ps r) (list_text qs t) short brief (list_ends_number ps r) (list_ends_number qs t) (next_pin p ps r) (e ∙ next_pin q qs t) in
    let rest = same_list ps qs r t (All-tail IsShort p ps a) (All-tail IsShort q qs b) first.1 in
    (cc (first.0, rest.0), rest.1)

-- of a list at the start, these pins are gone past, and what is left of it comes next
pub record Gone (start left list : List ℕ) : Type 0 where
  pub pins : List ℕ
  pub short : All IsShort pins
  pub is_kept : list ≡ kept pins
  pub front : start ≡ pins_text pins ++ left
  pub rest : (qs tail : List ℕ) → All IsShort qs → start ≡ list_text qs tail → (more : List ℕ) × All IsShort more × (left ≡ list_text more tail)

pins_more : (ps : List ℕ) (n : ℕ) (next : List ℕ) → pins_text (ps ++ n ∷ []) ++ next ≡ pins_text ps ++ 32 ∷ (decimal n ++ next)
pins_more [] n next = ap (λ l. 32 ∷ (l ++ next)) (append-nil (decimal n))
pins_more (p ∷ ps) n next =
    ap (λ l. 32 ∷ l) (append_assoc (decimal p) (pins_text (ps ++ n ∷ [])) next ∙ ap (λ l. decimal p ++ l) (pins_more ps n next) ∙ sym (append_assoc (decimal p) (pins_text ps) (32 ∷ (decimal n ++ next))))

-- what is cut off does not come back
take_again : (k : ℕ) (xs ys : List ℕ) → take k (xs ++ ys) ≡ take k (take k xs ++ ys)
take_again zero xs ys = refl
take_again (suc k) [] ys = refl
take_again (suc k) (x ∷ xs) ys = ap (λ l. x ∷ l) (take_again k xs ys)

kept_more : (ps : List ℕ) (n : ℕ) → kept (ps ++ n ∷ []) ≡ take 11 (kept ps ++ min n 255 ∷ [])
kept_more ps n = ap (take 11) (map-append (λ pin. min pin 255) ps (n ∷ [])) ∙ take_again 11 (map (λ pin. min pin 255) ps) (min n 255 ∷ [])

-- where a number comes next, the list that comes next goes on after it
list_goes_on : (more left next tail : List ℕ) (n : ℕ) → All IsShort more → IsShort n → Ends Digit next → left ≡ 32 ∷ (decimal n ++ next) → left ≡ list_text more tail → (rest : List ℕ) × All IsShort rest × (next ≡ list_text rest tail)
list_goes_on [] left next tail n all small ends e f = let z : ◌≡◌ {A = ℕ} 32 41 = cc in absurd (omega arith)
list_goes_on (p ∷ ps) left next tail n all small ends e f =
    let same = number_same n p left next (list_text ps tail) small (All-head IsShort p ps all) ends (list_ends_number ps tail) e (f ∙ next_pin p ps tail) in
    (ps, All-tail IsShort p ps all, same.1)

-- where neither the bracket nor a number comes next, no list does
pub no_list : (more left tail : List ℕ) → All IsShort more → ((t : List ℕ) → left ≡ 41 ∷ t → ⊥) → ((n : ℕ) (t : List ℕ) → IsShort n → Ends Digit t → left ≡ 32 ∷ (decimal n ++ t) → ⊥) → left ≡ list_text more tail → ⊥
no_list [] left tail all close number e = close tail e
no_list (p ∷ ps) left tail all close number e = number p (list_text ps tail) (All-head IsShort p ps all) (list_ends_number ps tail) (e ∙ next_pin p ps tail)

pub gone_more : (start left next list list' : List ℕ) (n : ℕ) → Gone start left list → IsShort n → Ends Digit next → left ≡ 32 ∷ (decimal n ++ next) → list' ≡ take 11 (list ++ min n 255 ∷ []) → Gone start next list'
gone_more start left next list list' n gone small ends e push = record {
  pins = gone.pins ++ n ∷ [];
  short = All-append IsShort gone.pins (n ∷ []) gone.short (All-cons IsShort n [] small (All-nil IsShort));
  is_kept = push ∙ ap (λ l. take 11 (l ++ min n 255 ∷ [])) gone.is_kept ∙ sym (kept_more gone.pins n);
  front = gone.front ∙ ap (λ l. pins_text gone.pins ++ l) e ∙ sym (pins_more gone.pins n next);
  rest = λ qs tail all f.
      let more = gone.rest qs tail all f in
      list_goes_on more.0 left next tail n more.1 small ends e more.2;
}

-- a wire line is its parts
pub wire_made : (n k : ℕ) (pins l a b d e f : List ℕ) → l ≡ codes "(wire" ++ a → a ≡ codes " " ++ (decimal n ++ b) → b ≡ inputs_text k d → d ≡ codes " " ++ e → e ≡ codes "(to" ++ f → f ≡ list_text pins (codes ")\n") → l ≡ wire_text n k pins
wire_made n k pins l a b d e f g h i j m o = cc
