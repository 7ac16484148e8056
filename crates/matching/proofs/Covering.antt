-- A pin that can change places with a lower one that is still free gives no wiring where that gave none.
use Rattle.std.proofs.Common.{◌≡◌, ℕ, ◌^◌, ◌<◌, ◌≢◌, Bool, List, length, get_or, sym, ap, ◌∙◌, subst, ⊎_elim, arith}
use Rattle.std.proofs.lemmas.Bool.{cases_eq}
use Rattle.rows.specs.Laws.{RowKindLaws}
use Rattle.symmetry.specs.Symmetry.{swap, Symmetric}
use Rattle.symmetry.proofs.Exchanges.{swap_here, swap_there, swap_other}
use Rattle.symmetry.proofs.Vectors.{to_agree}
use Rattle.tables.specs.Agreement.{bit, Agree}
use Rattle.tables.specs.Carry.{carry}
use Rattle.tables.specs.declared.partial_wiring.PartialWiring.{PartialWiring}
use Rattle.tables.proofs.Onto.{back, back_into, there_back}
use Rattle.tables.proofs.Carries.{carry_lt, carry_carried, agree_row}
use Rattle.matching.specs.declared.search.Search.{Search}
use Rattle.matching.specs.Struck.{struck}
use Rattle.matching.specs.Search.{Usable}
use Rattle.matching.specs.Exchange.{Exchangeable, Covered}
use Rattle.matching.specs.Begun.{Barred, Begun}

module _ {R : Type 0} (same : R → R → Bool) (weight : R → ℕ) (laws : RowKindLaws same weight) where
  -- a wiring to a part, and then one of the part to itself
  agree_on : (n : ℕ) (card part : List R) (v u : ℕ → ℕ) → Agree same n v card part → Agree same n u part part → Agree same n (λ i. u (v i)) card part
  agree_on n card part v u a b = record {
    wires = (
      (λ i li. b.wires.0 (v i) (a.wires.0 i li)),
      (λ i j t. a.wires.1 i j (t.0, t.1, b.wires.1 (v i) (v j) (a.wires.0 i t.0, a.wires.0 j t.1, t.2))),
    );
    card_rows = a.card_rows;
    part_rows = b.part_rows;
    rows = λ r q d lr lq c.
        let m = carry n v r in
        let there = carry_carried n v a.wires r in
        let on : (j : ℕ) → j < n → bit (u j) q ≡ bit j m = λ j lj.
        let i = back n v a.wires j in
        let li = back_into n v a.wires j lj in
        let e : v i ≡ j = there_back n v a.wires j lj in
        ap (λ x. bit (u x) q) (sym e) ∙ c i li ∙ sym (there i li) ∙ ap (λ x. bit x m) e in
        laws.transitive (get_or card r d) (get_or part m d) (get_or part q d) (agree_row same n card part v a r d lr) (b.rows m q d (carry_lt n n v r a.wires) lq on);
  }

  module _ (search : Search R) (begun : PartialWiring) (h : Begun same weight search begun) where
    abbrev n : ℕ
    n = search.card.now.inputs

    abbrev strikes : List (List Bool)
    strikes = search.strikes.now.struck

    -- the wiring with the two pins exchanged
    usable_swapped : (q p : ℕ) → p < n → Exchangeable same search.part.now strikes q p → (v : ℕ → ℕ) → Usable same search.card.now search.part.now strikes v → Usable same search.card.now search.part.now strikes (λ i. swap q p (v i))
    usable_swapped q p lp x v usable =
        let part = search.part.now in
        let inputs = search.same_inputs in
        let lq : q < n = omega (arith, x.lower) in
        let whole : length part.rows.now ≡ 2 ^ n = usable.agree.part_rows in
        let symmetric : Symmetric same n part.rows.now q p = subst (λ m. Symmetric same m part.rows.now q p) (sym inputs) x.symmetric in
        record {
          agree = agree_on n search.card.now.rows.now part.rows.now v (swap q p) usable.agree (to_agree n q p lq lp same part.rows.now whole symmetric);
          spared = λ i li.
              let alike = x.struck_alike i (omega arith) in
              let was = usable.spared i li in
              ⊎_elim
              (λ e. ap (λ y. struck strikes i y) (swap_here q p (v i) e) ∙ sym alike ∙ ap (λ y. struck strikes i y) (sym e) ∙ was)
              (λ nq. ⊎_elim
              (λ e. ap (λ y. struck strikes i y) (swap_there q p (v i) e) ∙ alike ∙ ap (λ y. struck strikes i y) (sym e) ∙ was)
              (λ np. ap (λ y. struck strikes i y) (swap_other q p (v i) nq np) ∙ was)
              (cases_eq (v i) p))
              (cases_eq (v i) q);
        }

    pub covered_barred : (p : ℕ) → p < begun.inputs → Covered same search.part.now strikes begun p → ((q : ℕ) → q < p → Barred same search begun q) → Barred same search begun p
    covered_barred p lp covered past v usable begins new =
        let q = covered.0 in
        let takes = covered.2 in
        let free : (i : ℕ) → i < begun.len → v i ≢ q = λ i li e. takes.2 i li (sym (begins i li) ∙ e) in
        let apart : (i : ℕ) → i < begun.len → v i ≢ p = λ i li e. (let same_input = usable.agree.wires.1 i begun.len (omega (arith, h.card_inputs, takes.0), omega (arith, h.card_inputs, takes.0), e ∙ sym new) in absurd (omega arith)) in
        past q covered.1 (λ i. swap q p (v i)) (usable_swapped q p (omega (arith, h.card_inputs)) covered.3 v usable)
        (λ i li. swap_other q p (v i) (free i li) (apart i li) ∙ begins i li)
        (swap_there q p (v begun.len) new)
