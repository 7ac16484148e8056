use Rattle.std.proofs.Common.{false, not, sym, ap, ◌∙◌, arith}
use Rattle.matching.specs.Struck.{struck}
use Rattle.matching.proofs.Striking.{upto_pass, upto_strike, upto_row, upto_all}
use Rattle.lists.specs.Pairs.{unequal}
use Rattle.lists.proofs.Pairs.{unequal_here, unequal_not, unequal_so, unequal_within}
use Rattle.lists.proofs.striking.strikes.Goals as goal
use Rattle.lists.proofs.striking.strikes.Goals.{then-not-is_equal, else-not-is_equal}

pub loop-pin-preserved : goal.loop-pin-preserved
loop-pin-preserved c =
    let card = c.args.card.now in
    let part = c.args.part.now in
    let i = c.loop-input.input in
    let p = c.loop-pin.pin in
    let here = unequal_here card part i p c.is_equal.result c.loop-input-test.true c.loop-pin-test.true c.is_equal.ensures.value in
    elim c.if-not-is_equal.branch [
      | then-not-is_equal way ↦ λ a b.
          ap (λ s. struck s.struck a b) way.strikes-is
          ∙ upto_strike (λ _ _. false) (unequal card part) i p c.loop-pin.strikes.struck way.strike.new.self.struck c.loop-pin.invariant (omega (arith, card.few)) (omega (arith, part.few)) way.strike.ensures (here ∙ ap not way.if-not-is_equal.true) a b
      | else-not-is_equal way ↦ λ a b.
          ap (λ s. struck s.struck a b) way.strikes-is
          ∙ upto_pass (λ _ _. false) (unequal card part) i p c.loop-pin.strikes.struck c.loop-pin.invariant (here ∙ ap not way.if-not-is_equal.false) a b
    ]

pub loop-input-preserved : goal.loop-input-preserved
loop-input-preserved c =
    let card = c.args.card.now in
    let part = c.args.part.now in
    upto_row (λ _ _. false) (unequal card part) card.inputs part.inputs (unequal_within card part) c.loop-input.input c.loop-pin.pin c.loop-pin.strikes.struck c.loop-pin.invariant c.loop-pin-test.false

pub returns : goal.returns
returns c =
    let card = c.args.card.now in
    let part = c.args.part.now in
    let exact = upto_all (λ _ _. false) (unequal card part) card.inputs part.inputs (unequal_within card part) c.loop-input.input c.loop-input.strikes.struck c.loop-input.invariant c.loop-input-test.false in
    record {
      exact = exact;
      spares = λ n w keeps i li. exact i (w i) ∙ unequal_not card part i (w i) (keeps i li);
      keeps = λ n w inputs pins wires spared i li. let into = wires.0 i li in unequal_so card part i (w i) (omega arith) (omega arith) (sym (exact i (w i)) ∙ spared i li);
    }
