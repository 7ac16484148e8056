-- The pins that are kept of a list make a wiring exactly where all of its pins do.
use Rattle.std.proofs.Common.{◌≡◌, ℕ, ◌<◌, ◌≤◌, List, length, map, min, sym, ◌∙◌, inl, inr, ⊎_elim, arith, Result, Ok, Err}
use Rattle.std.proofs.lemmas.List.{length-take, length-map, get_or-take, get_or-map}
use Rattle.refusals.specs.declared.refusal.Refusal.{Refusal}
use Rattle.tables.specs.declared.wiring.Wiring.{Wiring}
use Rattle.tables.specs.Wirings.{pin}
use Rattle.tables.specs.Making.{WiringMade, Names}
use Rattle.wire_sheet.specs.Lines.{kept}

length-kept : (pins : List ℕ) → length (kept pins) ≡ min 11 (length pins)
length-kept pins = omega (arith, length-take 11 (map (λ pin. min pin 255) pins), length-map pins (λ pin. min pin 255))

pin-kept : (pins : List ℕ) (i : ℕ) → i < 11 → i < length pins → pin (kept pins) i ≡ min (pin pins i) 255
pin-kept pins i few lt = get_or-take 11 (map (λ pin. min pin 255) pins) i 0 few ∙ get_or-map (λ pin. min pin 255) pins i 0 0 lt

names_kept : (n : ℕ) (pins : List ℕ) → n ≤ 10 → Names n pins → Names n (kept pins)
names_kept n pins few names =
    let same : (i : ℕ) → i < n → pin (kept pins) i ≡ pin pins i = λ i lt. omega (arith, pin-kept pins i (omega arith) (omega (arith, names.0)), names.1.0 i lt) in (
      omega (arith, length-kept pins, names.0),
      (
        (λ i lt. omega (arith, same i lt, names.1.0 i lt)),
        (λ i j two. names.1.1 i j (two.0, two.1, sym (same i two.0) ∙ two.2 ∙ same j two.1)),
      ),
    )

pub made_of_all : (n : ℕ) (pins : List ℕ) (made : Result Wiring Refusal) → WiringMade n (kept pins) made → WiringMade n pins made
made_of_all n pins (Ok w) made =
    let long : length pins ≡ n = omega (arith, length-kept pins, made.0, made.2) in
    (made.0, made.1, long, (λ i lt. omega (arith, made.0, made.1, made.3 i lt, w.into i (omega (arith, made.1, lt)), w.few, pin-kept pins i (omega (arith, made.0)) (omega (arith, long)))))
made_of_all n pins (Err reason) made =
    ⊎_elim
    (λ more. inl more)
    (λ none. inr (none.0, (λ names. none.1 (names_kept n pins none.0 names)), none.2))
    made
