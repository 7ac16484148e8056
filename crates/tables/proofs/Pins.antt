-- The pins past a wiring's inputs are all 0, so wirings that give each input the same pin have equal pins, and it is
-- enough to compare the pins of the inputs. Wirings of equal inputs and pins are equal.
use Rattle.std.proofs.Common.{◌≡◌, ℕ, ◌<◌, ◌≤◌, List, ◌&&◌, take, length, Decides, nat_eq, refl, sym, ap, ◌∙◌, subst, ⊎_elim, arith}
use Rattle.std.proofs.Props.{props}
use Rattle.std.proofs.lemmas.Bool.{cases_lt}
use Rattle.std.proofs.lemmas.List.{ext_get_or, get_or-take, length-take-le}
use Rattle.std.proofs.lemmas.Bool.Decides.{Decides-eqb, Decides-and}
use Rattle.std.specs.Cmp.Lexicographic.{pointwise, bytes_decides}
use Rattle.tables.specs.Wirings.{pin, Apart, Alike}
use Rattle.tables.specs.declared.wiring.Wiring.{Wiring}

-- how many pins are read of a wiring, and which they are
module _ (v : Wiring) (pins : List ℕ) (are : pins ≡ take v.inputs v.pins) where
  pub read_length : length pins ≡ v.inputs
  read_length = ap length are ∙ length-take-le v.inputs v.pins (omega (arith, v.few, v.whole))

  pub read_pin : (i : ℕ) → i < v.inputs → pin pins i ≡ pin v.pins i
  read_pin i li = ap (λ ps. pin ps i) are ∙ get_or-take v.inputs v.pins i 0 li

module _ (v w : Wiring) where
  abbrev pub SamePins : Type 0
  SamePins = (v.inputs ≡ w.inputs) × Alike v.inputs (pin v.pins) (pin w.pins)

  same_pins : SamePins → v.pins ≡ w.pins
  same_pins (inputs, alike) = ext_get_or 0 v.pins w.pins (v.whole ∙ sym w.whole) (λ i _. ⊎_elim (alike i) (λ past. v.rest i past ∙ sym (w.rest i (omega (arith, past, inputs)))) (cases_lt i v.inputs))

  of_taken : v.inputs ≡ w.inputs → take v.inputs v.pins ≡ take w.inputs w.pins → SamePins
  of_taken inputs taken = (inputs, λ i li. sym (read_pin v _ refl i li) ∙ ap (λ pins. pin pins i) taken ∙ read_pin w _ refl i (omega (arith, inputs, li)))

  pub of_fields : Decides (nat_eq v.inputs w.inputs && pointwise nat_eq v.pins w.pins) SamePins
  of_fields =
      let d = Decides-and _ _ (Decides-eqb v.inputs w.inputs) (bytes_decides v.pins w.pins) in
      ((λ t. ((d.0 t).0, λ i _. ap (λ pins. pin pins i) (d.0 t).1)), (λ s. d.1 (s.0, same_pins s)))

  pub of_fronts : Decides (pointwise nat_eq (take v.inputs v.pins) (take w.inputs w.pins)) SamePins
  of_fronts =
      let d = bytes_decides (take v.inputs v.pins) (take w.inputs w.pins) in (
        (λ t. of_taken (sym (read_length v _ refl) ∙ ap length (d.0 t) ∙ read_length w _ refl) (d.0 t)),
        (λ s. d.1 (ap (λ n. take n v.pins) s.0 ∙ ap (take w.inputs) (same_pins s))),
      )

-- the facts that a wiring keeps of its inputs and pins
abbrev Keeps : ℕ → List ℕ → Type 0
Keeps n pins =
    (n ≤ 10) × (length pins ≡ 10) × ((i : ℕ) → i < n → pin pins i < n) × Apart n (pin pins)
    × ((i : ℕ) → n ≤ i → pin pins i ≡ 0)

one_proof : (n : ℕ) (pins : List ℕ) → Prim.IsProp (Keeps n pins)
one_proof n pins = hlevel props

abbrev made : (n : ℕ) (pins : List ℕ) → Keeps n pins → Wiring
made n pins keeps = record { inputs = n; pins = pins; few = keeps.0; whole = keeps.1; into = keeps.2; apart = keeps.3; rest = keeps.4 }

made_same : (n m : ℕ) (ps qs : List ℕ) → n ≡ m → ps ≡ qs → (a : Keeps n ps) (b : Keeps m qs) → made n ps a ≡ made m qs b
made_same n m ps qs inputs pins a b =
    subst (λ k. (c : Keeps k qs) → made n ps a ≡ made k qs c) inputs
    (subst (λ xs. (c : Keeps n xs) → made n ps a ≡ made n xs c) pins (λ c. ap (made n ps) (one_proof n ps a c))) b

same_wiring : (v w : Wiring) → v.inputs ≡ w.inputs → v.pins ≡ w.pins → v ≡ w
same_wiring v w inputs pins =
    made_same v.inputs w.inputs v.pins w.pins inputs pins (v.few, v.whole, v.into, v.apart, v.rest) (w.few, w.whole, w.into, w.apart, w.rest)

-- the pins of its inputs are all that tells a wiring from another of as many
pub same_taken : (v w : Wiring) → v.inputs ≡ w.inputs → take v.inputs v.pins ≡ take w.inputs w.pins → v ≡ w
same_taken v w inputs taken = same_wiring v w inputs (same_pins v w (of_taken v w inputs taken))
