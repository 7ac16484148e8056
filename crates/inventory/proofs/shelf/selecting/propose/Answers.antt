use Rattle.std.proofs.Common.{[], map, None, Some, refl, sym, ◌∙◌, pow_pos}
use Rattle.tables.proofs.SumsAbove.{sum_above_all}
use Rattle.matching.proofs.Choosing.{unlike_weights}
use Rattle.ledger.specs.Questions.{list_by}
use Rattle.fitting.proofs.Sparing.{fits}
use Rattle.inventory.proofs.Proposing.{none_proposed, one_proposed, struck_most}
use Rattle.inventory.proofs.shelf.selecting.propose.Goals as goal

pub returns-then-total_weight-sums : goal.returns-then-total_weight-sums
returns-then-total_weight-sums g c =
    let same = g.R.RowKind.same in
    let weight = g.R.RowKind.weight in
    let card = c.args.card.now in
    let part = c.args.part.now in
    let first = c.requires.sums 0 (pow_pos card.inputs) ∙ sum_above_all (map weight card.rows.now) card.inputs in
    none_proposed same (list_by g.P.Signature.count g.P.Signature.value) card part c.args.label.number
    (fits same card part [] (λ w _ i _. refl) None
    (unlike_weights same weight g.met.R.RowKind.laws.alike card part [] (λ e. c.if-total_weight-sums.true (c.total_weight.ensures ∙ sym e ∙ sym first))))

pub returns-in_err-wiring : goal.returns-in_err-wiring
returns-in_err-wiring g c =
    rw c.from_residual.ensures
    (none_proposed g.R.RowKind.same (list_by g.P.Signature.count g.P.Signature.value) c.args.card.now c.args.part.now c.args.label.number
    (fits g.R.RowKind.same c.args.card.now c.args.part.now c.none.result.struck (λ w _ i _. c.none.ensures i (w i)) None c.in_err-wiring.ensures))

pub invariant_of-result : goal.invariant_of-result
invariant_of-result g c = record { numbered = c.args.label.numbered; few = struck_most c.fill.new.lists c.fill.new.lists c.struck_count-struck.result c.struck_count-struck.ensures }

pub returns : goal.returns
returns g c = (
  c.in_ok-wiring.ensures.0,
  one_proposed g.R.RowKind.same g.P.Signature.count g.P.Signature.value c.args.pile.now c.fill.ensures.lawful c.args.card.now c.args.part.now c.requires.size c.fill.new.lists c.fill.ensures.gives c.args.label.number c.in_ok-wiring.wiring c.struck_count-struck.result
      (fits g.R.RowKind.same c.args.card.now c.args.part.now c.none.result.struck (λ w _ i _. c.none.ensures i (w i)) (Some c.in_ok-wiring.wiring) c.in_ok-wiring.ensures) c.struck_count-struck.ensures,
)
