use Rattle.std.proofs.Common.{◌≡◌, ◌≢◌, true, false, sym, ap, ◌∙◌, arith}
use Rattle.std.proofs.lemmas.Bool.Decides.{nat_tests}
use Rattle.matching.specs.Struck.{struck}
use Rattle.matching.specs.Sharing.{shared, unlike}
use Rattle.matching.proofs.Striking.{upto_pass, upto_strike}
use Rattle.matching.proofs.sharing.with_unlike.Goals as goal
use Rattle.matching.proofs.sharing.with_unlike.Goals.{then-card-input, else-card-input}

pub loop-pin-preserved : goal.loop-pin-preserved
loop-pin-preserved c =
    let n = c.args.inputs in
    let i = c.loop-input.input in
    let p = c.loop-pin.pin in
    let base = struck c.args.strikes.now.struck in
    let test = unlike c.args.card_sums.now c.args.part_sums.now n in
    let here = c.all_shared-card.ensures i c.loop-input-test.true in
    let there = c.all_shared-part.ensures p c.loop-pin-test.true in
    elim c.if-card-input.branch [
      | then-card-input way ↦ λ a b.
          let other : shared c.args.card_sums.now n i ≢ shared c.args.part_sums.now n p = λ e. way.if-card-input.true (here ∙ e ∙ sym there) in
          let on : test i p ≡ true = grind (arith, nat_tests) in
          ap (λ s. struck s.struck a b) way.strikes-is
          ∙ upto_strike base test i p c.loop-pin.strikes.struck way.strike.new.self.struck c.loop-pin.invariant (omega arith) (omega arith) way.strike.ensures on a b
      | else-card-input way ↦ λ a b.
          let alike : shared c.args.card_sums.now n i ≡ shared c.args.part_sums.now n p = sym here ∙ way.if-card-input.false ∙ there in
          let off : test i p ≡ false = grind (arith, nat_tests) in
          ap (λ s. struck s.struck a b) way.strikes-is ∙ upto_pass base test i p c.loop-pin.strikes.struck c.loop-pin.invariant off a b
    ]
