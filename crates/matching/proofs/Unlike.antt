-- Inputs and pins that share otherwise with the others may be struck too: no usable wiring is lost.
use Rattle.std.proofs.Common.{◌≡◌, ℕ, ◌<◌, Bool, true, false, ◌||◌, List, Option, Some, None, sym, ap, ◌∙◌, ⊎_elim, arith}
use Rattle.std.proofs.lemmas.Bool.{both_ways}
use Rattle.std.proofs.lemmas.Bool.Decides.{nat_tests}
use Rattle.tables.specs.Wirings.{pin}
use Rattle.tables.specs.Above.{SumsAbove}
use Rattle.tables.specs.declared.table.Table.{Table}
use Rattle.tables.specs.declared.wiring.Wiring.{Wiring}
use Rattle.tables.proofs.Onto.{back, back_into, there_back}
use Rattle.matching.specs.Struck.{struck, LeftOut}
use Rattle.matching.specs.Sharing.{unlike}
use Rattle.matching.specs.Search.{Usable, Found}
use Rattle.matching.proofs.Shared.{shared_there}

module _ {R : Type 0} (same : R → R → Bool) (weight : R → ℕ) (alike : (x y : R) → same x y ≡ true → weight x ≡ weight y) (card part : Table R) (inputs : card.inputs ≡ part.inputs)
    (card_sums part_sums : List ℕ) (in_card : SumsAbove weight card card_sums) (in_part : SumsAbove weight part part_sums)
    (strikes more : List (List Bool)) (are : (i p : ℕ) → struck more i p ≡ (struck strikes i p || unlike card_sums part_sums card.inputs i p)) where
  usable_more : (v : ℕ → ℕ) → Usable same card part strikes v → Usable same card part more v
  usable_more v usable = record {
    agree = usable.agree;
    spared = λ i li.
        let was = usable.spared i li in
        let alike_there = shared_there same weight alike card part inputs card_sums part_sums in_card in_part v usable.agree i li in
        let off : unlike card_sums part_sums card.inputs i (v i) ≡ false = grind (arith, nat_tests) in
        are i (v i) ∙ ap (λ b. b || unlike card_sums part_sums card.inputs i (v i)) was ∙ off;
  }

  usable_less : (v : ℕ → ℕ) → Usable same card part more v → Usable same card part strikes v
  usable_less v usable = record {
    agree = usable.agree;
    spared = λ i li. let now = sym (are i (v i)) ∙ usable.spared i li in grind (arith, nat_tests);
  }

  -- an input that is struck with every pin has none, and a pin that is struck with every input is no input's
  pub none_left_out : (k : ℕ) → k < card.inputs → LeftOut more card.inputs k → Found same card part strikes None
  none_left_out k lk out v usable =
      let now = usable_more v usable in
      ⊎_elim
      (λ all. both_ways (struck more k (v k)) (now.spared k lk) (all (v k) (usable.agree.wires.0 k lk)))
      (λ all.
      let i = back card.inputs v usable.agree.wires k in
      let li = back_into card.inputs v usable.agree.wires k lk in
      both_ways (struck more i (v i)) (now.spared i li) (ap (λ p. struck more i p) (there_back card.inputs v usable.agree.wires k lk) ∙ all i li))
      out

  pub found_less : (r : Option Wiring) → Found same card part more r → Found same card part strikes r
  found_less (Some w) f = (f.0, record { usable = usable_less (pin w.pins) f.1.usable; first = λ v usable other. f.1.first v (usable_more v usable) other })
  found_less None f = λ v usable. f v (usable_more v usable)
