use Rattle.std.proofs.Common.{◌≡◌, ◌*◌, ◌^◌, ◌<◌, cond, sym, ap, ◌∙◌, arith}
use Rattle.tables.specs.Sums.{sum_to}
use Rattle.signatures.specs.Values.{weight_at}
use Rattle.signatures.proofs.Turns.{times_bool, cond_most, sum_more, weight_is}
use Rattle.signatures.proofs.weights.weight_where.Goals as goal

pub loop-r-preserved : goal.loop-r-preserved
loop-r-preserved g c =
    let weight = g.R.RowKind.weight in
    let table = c.args.table.now in
    let rows = table.rows.now in
    let r = c.loop-r.r in
    let b = c.is_picked.result in
    let w = c.weight-weight.result in
    let lr : r < 2 ^ table.inputs = omega (arith, c.loop-r-test.true, table.whole) in
    let added : w * c.from.result ≡ cond b w 0 = ap (λ y. w * y) c.from.ensures ∙ times_bool w b in
    record {
      few = omega (arith, added, cond_most b w 255 (omega (arith, c.weight-weight.type_inv)), c.loop-r.invariant.few);
      summed = λ picked computes.
          let here : cond b w 0 ≡ cond (picked r) (weight_at weight rows r) 0 =
          ap (λ t. cond t w 0) (computes r b lr c.is_picked.ensures)
          ∙ ap (λ y. cond (picked r) y 0) (c.weight-weight.ensures ∙ sym (weight_is weight rows r c.row-item.result c.loop-r-test.true c.row-item.is)) in
          omega (arith, added, here, c.loop-r.invariant.summed picked computes, sum_more r (λ r. cond (picked r) (weight_at weight rows r) 0));
    }

pub returns : goal.returns
returns g c = λ picked computes.
    let table = c.args.table.now in
    c.loop-r.invariant.summed picked computes
    ∙ ap (λ k. sum_to k (λ r. cond (picked r) (weight_at g.R.RowKind.weight table.rows.now r) 0)) (omega (arith, c.loop-r-test.false, c.loop-r.auto.r-end, table.whole))
