use Rattle.std.proofs.Common.{◌≡◌, ℕ, suc, ◌+◌, ◌*◌, ◌%◌, ◌^◌, ◌<◌, ◌≤◌, length, get_or, sym, ap, ◌∙◌, arith, pow_mono}
use Rattle.tables.proofs.Shifts.{shift}
use Rattle.tables.specs.declared.table.Table.{Table}
use Rattle.std.proofs.Math.Nat.{two-pow-succ}
use Rattle.matching.proofs.Rows.{kept_more, settled_more}
use Rattle.matching.proofs.search.Search.settle.Goals as goal

-- the rows that input i decides lie in the card
record Half (i rows : ℕ) : Type 0 where
  is : 1 * 2 ^ i % 18446744073709551616 ≡ 2 ^ i
  inside : 2 ^ i + 2 ^ i ≤ rows
  few : rows ≤ 1024

half : {R : Type 0} (card : Table R) (i : ℕ) → i < card.inputs → Half i (length card.rows.now)
half card i lt =
    let up : 2 ^ suc i ≤ 2 ^ card.inputs = pow_mono (omega arith) in
    let top : 2 ^ card.inputs ≤ 2 ^ 10 = pow_mono card.few in
    let two = two-pow-succ i in
    let e = card.whole in
    record { is = shift i 18446744073709551616 (omega (arith, card.few)) (omega arith); inside = omega arith; few = omega arith }

pub bounds-self-r : goal.bounds-self-r
bounds-self-r g c = let h = half c.args.self.now.card.now c.args.input c.requires.input_in in omega (arith, c.loop-r-test.true)

pub bounds-self-half : goal.bounds-self-half
bounds-self-half g c = let h = half c.args.self.now.card.now c.args.input c.requires.input_in in omega (arith, c.loop-r-test.true)

pub fits-requires-clause-row_in : goal.fits-requires-clause-row_in
fits-requires-clause-row_in g c =
    let h = half c.args.self.now.card.now c.args.input c.requires.input_in in
    omega (arith, c.loop-r-test.true, ap (λ t. length t.rows.now) c.loop-r.invariant.same.card)

pub loop-r-preserved : goal.loop-r-preserved
loop-r-preserved g c =
    let same = g.R.RowKind.same in
    let first = c.args.self.now in
    let now = c.loop-r.self in
    let card = first.card.now.rows.now in
    let part = first.part.now.rows.now in
    let was = c.loop-r.invariant in
    let h = 1 * 2 ^ c.args.input % 18446744073709551616 in
    let worth = 1 * 2 ^ c.args.pin % 65536 in
    let r = c.loop-r.r in
    let b = half first.card.now c.args.input c.requires.input_in in
    record {
      same = record {
        card = was.same.card;
        part = was.same.part;
        card_sums = was.same.card_sums;
        part_sums = was.same.part_sums;
        strikes = was.same.strikes;
        lowers = was.same.lowers;
        kept = kept_more same card part h worth first.carried now.carried r _ was.same.kept;
      };
      settled = settled_more same card part h worth first.carried now.carried r was.same.kept was.settled c.loop-r-test.true (omega arith)
          (λ d. ap (λ t. same (get_or t.rows.now (h + r) d) (get_or part (get_or first.carried r 0 + worth) d)) (sym was.same.card)
          ∙ ap (λ t. same (get_or now.card.now.rows.now (h + r) d) (get_or t.rows.now (get_or first.carried r 0 + worth) d)) (sym was.same.part)
          ∙ ap (λ v. same (get_or now.card.now.rows.now (h + r) d) (get_or now.part.now.rows.now (v + worth) d)) (sym (was.same.kept r c.loop-r-test.true))
          ∙ c.if-not-fits.ensures.0 d);
    }
