use Rattle.std.proofs.Common.{◌≡◌, ◌^◌, ◌<◌, Bool, true, false, List, length, get_or, sym, ap, ◌∙◌, ⊎_elim, arith}
use Rattle.std.proofs.lemmas.Bool.{cases_lt, both_ways}
use Rattle.tables.specs.Sums.{weighed}
use Rattle.tables.specs.Wirings.{pin}
use Rattle.tables.specs.Agreement.{Agree}
use Rattle.tables.specs.RowCheck.{Checked}
use Rattle.tables.specs.declared.wiring.Wiring.{Wiring}
use Rattle.tables.specs.Carry.{carry}
use Rattle.tables.proofs.Carries.{carried_only, agree_row, rows_agree}
use Rattle.tables.proofs.Published.{checked, not_so, so}
use Rattle.tables.proofs.Reading.{same_inputs, same_rows}
use Rattle.tables.proofs.Reindex.{total_there}
use Rattle.tables.proofs.row_check.agrees.Goals as goal
use Rattle.tables.proofs.row_check.agrees.Goals.{then-card-inputs-via-then-card-inputs, then-card-inputs-via-else-card-inputs+then-part-inputs}

refuse : {R : Type 0} (same : R → R → Bool) (x : Wiring) (card part : List R) → (Agree same x.inputs (pin x.pins) card part → ⊥) → Checked same x.inputs (pin x.pins) card part false
refuse same x card part off = checked same x.inputs (pin x.pins) card part false (x.into, x.apart) (not_so _ off)

pub returns-then-card-inputs : goal.returns-then-card-inputs
returns-then-card-inputs g c =
    let card = c.args.card.now in
    let part = c.args.part.now in
    let x = c.args.wiring.now in
    refuse g.R.RowKind.same x card.rows.now part.rows.now (λ a.
    elim c.then-card-inputs.branch [
      | then-card-inputs-via-then-card-inputs way ↦ way.if-card-inputs.true (same_inputs card.inputs x.inputs (sym card.whole ∙ a.card_rows) ∙ sym c.inputs-inputs.ensures)
      | then-card-inputs-via-else-card-inputs+then-part-inputs way ↦ way.if-part-inputs.true (same_inputs part.inputs x.inputs (sym part.whole ∙ a.part_rows) ∙ sym c.inputs-inputs.ensures)
    ])

pub returns-then-total_weight : goal.returns-then-total_weight
returns-then-total_weight g c =
    let weight = g.R.RowKind.weight in
    let card = c.args.card.now in
    let part = c.args.part.now in
    let x = c.args.wiring.now in
    refuse g.R.RowKind.same x card.rows.now part.rows.now (λ a.
    c.if-total_weight.true
    (c.total_weight.ensures ∙ ap (λ k. weighed weight card.rows.now k) (sym card.whole ∙ a.card_rows)
    ∙ total_there g.R.RowKind.same weight g.met.R.RowKind.laws.alike x.inputs card.rows.now part.rows.now (pin x.pins) a
    ∙ ap (λ k. weighed weight part.rows.now k) (sym a.part_rows ∙ part.whole) ∙ sym c.total_weight-2.ensures))

pub returns-then-not-is_same : goal.returns-then-not-is_same
returns-then-not-is_same g c =
    let same = g.R.RowKind.same in
    let card = c.args.card.now.rows.now in
    let part = c.args.part.now.rows.now in
    let x = c.args.wiring.now in
    let w = pin x.pins in
    let r = c.loop-r.r in
    let q = c.carry-q.result in
    let d = c.row-item.result in
    refuse same x card part (λ a.
    let within : r < length card = c.loop-r-test.true in
    let lq : q < length part = omega (arith, c.carry-q.ensures.within, a.part_rows) in
    let eq : q ≡ carry x.inputs w r = carried_only x.inputs w a.wires r q c.carry-q.ensures.within c.carry-q.ensures.carried in
    let off : same (get_or card r d) (get_or part q d) ≡ false =
    same_rows same card part r q d c.index-part-q.result false within lq c.row-item.is c.index-part-q.is (ap (λ y. same c.row-item.result y) c.index-part-q.is ∙ sym c.if-not-is_same.ensures) d in
    both_ways _ off (ap (λ y. same (get_or card r d) (get_or part y d)) eq ∙ agree_row same x.inputs card part w a r d (omega (arith, within, a.card_rows))))

pub loop-r-preserved : goal.loop-r-preserved
loop-r-preserved g c = λ k d lk.
    let same = g.R.RowKind.same in
    let card = c.args.card.now.rows.now in
    let part = c.args.part.now.rows.now in
    let x = c.args.wiring.now in
    let w = pin x.pins in
    let r = c.loop-r.r in
    let q = c.carry-q.result in
    let e : c.args.part.now.inputs ≡ x.inputs = omega (arith, c.if-part-inputs.false, c.inputs-inputs.ensures) in
    let lq : q < length part = omega (arith, c.carry-q.ensures.within, c.args.part.now.whole, ap (λ n. 2 ^ n) e) in
    let eq : q ≡ carry x.inputs w r = carried_only x.inputs w (x.into, x.apart) r q c.carry-q.ensures.within c.carry-q.ensures.carried in
    ⊎_elim
    (λ below. c.loop-r.invariant k d below)
    (λ above.
    let here : k ≡ r = omega arith in
    ap (λ i. same (get_or card i d) (get_or part (carry x.inputs w i) d)) here ∙ ap (λ y. same (get_or card r d) (get_or part y d)) (sym eq)
    ∙ same_rows same card part r q c.row-item.result c.index-part-q.result true c.loop-r-test.true lq c.row-item.is c.index-part-q.is (ap (λ y. same c.row-item.result y) c.index-part-q.is ∙ sym c.if-not-is_same.ensures) d)
    (cases_lt k r)

pub returns : goal.returns
returns g c =
    let same = g.R.RowKind.same in
    let card = c.args.card.now in
    let part = c.args.part.now in
    let x = c.args.wiring.now in
    let ec : card.inputs ≡ x.inputs = omega (arith, c.if-card-inputs.false, c.inputs-inputs.ensures) in
    let ep : part.inputs ≡ x.inputs = omega (arith, c.if-part-inputs.false, c.inputs-inputs.ensures) in
    let whole : length card.rows.now ≡ 2 ^ x.inputs = card.whole ∙ ap (λ n. 2 ^ n) ec in
    checked same x.inputs (pin x.pins) card.rows.now part.rows.now true (x.into, x.apart)
    (so _ (rows_agree same x.inputs card.rows.now part.rows.now (pin x.pins) (x.into, x.apart) whole (part.whole ∙ ap (λ n. 2 ^ n) ep)
    (λ r d lr. c.loop-r.invariant r d (omega (arith, c.loop-r-test.false, whole)))))
