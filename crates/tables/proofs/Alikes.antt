-- A wiring is what it gives the inputs: what holds of one holds of another that gives each the same pin.
use Rattle.std.proofs.Common.{ℕ, Bool, List, sym, ap, ◌∙◌, arith}
use Rattle.tables.specs.Agreement.{bit, Agree}
use Rattle.tables.specs.Wirings.{Alike, Other, Before}

module _ (n : ℕ) (v w : ℕ → ℕ) (alike : Alike n v w) where
  pub agree_alike : {R : Type 0} (same : R → R → Bool) (card part : List R) → Agree same n v card part → Agree same n w card part
  agree_alike same card part a = record {
    wires = (
      (λ i li. omega (arith, a.wires.0 i li, alike i li)),
      (λ i j h. a.wires.1 i j (h.0, h.1, alike i h.0 ∙ h.2 ∙ sym (alike j h.1))),
    );
    card_rows = a.card_rows;
    part_rows = a.part_rows;
    rows = λ r q d lr lq carried. a.rows r q d lr lq (λ i li. ap (λ p. bit p q) (alike i li) ∙ carried i li);
  }

  pub other_alike : (u : ℕ → ℕ) → Other n w u → Other n v u
  other_alike u other = (other.0, other.1, λ e. other.2 (sym (alike other.0 other.1) ∙ e))

  pub before_alike : (u : ℕ → ℕ) → Before n v u → Before n w u
  before_alike u before =
      let lt = before.1 in
      (before.0, lt, (λ i li. sym (alike i (omega arith)) ∙ before.2 i li), omega (arith, alike before.0 lt, before.3))
