use Rattle.std.proofs.Common.{◌≡◌, ℕ, ◌^◌, ◌<◌, ◌≤◌, [], length, get_or, sym, ap, ◌∙◌, ⊎_elim, arith, pow_mono}
use Rattle.std.proofs.lemmas.Bool.{cases_lt}
use Rattle.std.proofs.lemmas.List.{get_or_past}
use Rattle.tables.specs.declared.table.Table.{Table}
use Rattle.tables.specs.Sums.{sum_to}
use Rattle.signatures.proofs.Turns.{sum_more, sum_most, weight_is}
use Rattle.signatures.specs.Values.{weight_at, adds}
use Rattle.signatures.proofs.Adding.{term, term_small, adds_none, terms_before, terms_after}
use Rattle.signatures.proofs.breakup.BreakupSignature.write.Goals as goal
use Rattle.signatures.proofs.breakup.BreakupSignature.write.Goals.{then-weight-gt0, else-weight-gt0}

row_in : {R : Type 0} (table : Table R) (r : ℕ) → r < length table.rows.now → r < 1024
row_in table r lt = let top : 2 ^ table.inputs ≤ 2 ^ 10 = pow_mono table.few in omega (arith, table.whole)

pub loop-r-init : goal.loop-r-init
loop-r-init g c = record {
  whole = c.told-answers;
  wide = λ i li. (c.requires.free i li).len;
  added = λ i p _ _. omega arith;
}

pub add_row-requires-clause-row_in : goal.add_row-requires-clause-row_in
add_row-requires-clause-row_in g c = row_in c.args.table.now c.loop-r.r c.loop-r-test.true

pub add_row-requires-clause-fits : goal.add_row-requires-clause-fits
add_row-requires-clause-fits g c = λ i p li le.
    let table = c.args.table.now in
    let list = get_or c.loop-r.answers i [] in
    let added = term g.R.RowKind.weight table.rows.now c.args.from i p in
    ⊎_elim
    (λ lp. omega (arith, c.loop-r.invariant.added i p li lp, (c.requires.free i li).blank p le, sum_most c.loop-r.r 255 added (term_small g.R.RowKind.weight table.rows.now c.args.from i p g.met.R.RowKind.laws.light), row_in table c.loop-r.r c.loop-r-test.true, c.weight-weight.type_inv))
    (λ past. omega (arith, get_or_past list p 0 (omega (arith, past, c.loop-r.invariant.wide i li)), c.weight-weight.type_inv))
    (cases_lt p 64)

pub loop-r-preserved : goal.loop-r-preserved
loop-r-preserved g c =
    let weight = g.R.RowKind.weight in
    let table = c.args.table.now in
    let rows = table.rows.now in
    let from = c.args.from in
    let r = c.loop-r.r in
    let w = c.weight-weight.result in
    let was = c.loop-r.invariant in
    let read : weight_at weight rows r ≡ w = weight_is weight rows r c.row-item.result c.loop-r-test.true c.row-item.is ∙ sym c.weight-weight.ensures in
    let here : (i p : ℕ) → term weight rows from i p r ≡ adds from w i r p = λ i p. ap (λ x. adds from x i r p) read in
    elim c.if-weight-gt0.branch [
      | then-weight-gt0 way ↦ record {
        whole = c.if-weight-gt0.array_long;
        wide = λ i li. ap (λ a. length (get_or a i [])) way.answers-is ∙ way.add_row.ensures.wide i li;
        added = λ i p li lp.
            ap (λ a. get_or (get_or a i []) p 0) way.answers-is
            ∙ omega (arith, way.add_row.ensures.added i p li lp, was.added i p li lp, sum_more r (term weight rows from i p), here i p);
      }
      | else-weight-gt0 way ↦
          let light : w ≡ 0 = omega (arith, way.if-weight-gt0.false) in
          record {
            whole = c.if-weight-gt0.array_long;
            wide = λ i li. ap (λ a. length (get_or a i [])) way.answers-is ∙ was.wide i li;
            added = λ i p li lp.
                ap (λ a. get_or (get_or a i []) p 0) way.answers-is
                ∙ omega (arith, was.added i p li lp, sum_more r (term weight rows from i p), here i p, ap (λ x. adds from x i r p) light, adds_none from i r p);
          }
    ]

pub returns-clause-written : goal.returns-clause-written
returns-clause-written g c = λ i li.
    let weight = g.R.RowKind.weight in
    let table = c.args.table.now in
    let rows = table.rows.now in
    let from = c.args.from in
    let was = c.loop-r.invariant in
    let free = c.requires.free i li in
    let all : c.loop-r.r ≡ 2 ^ table.inputs = omega (arith, c.loop-r-test.false, c.loop-r.auto.r-end, table.whole) in
    record {
      len = was.wide i li ∙ sym free.len;
      before = λ p lt. omega (arith, was.added i p li (omega (arith, lt, c.requires.from)), terms_before weight rows from i p c.loop-r.r lt);
      after = λ p le lp.
          omega (arith, was.added i p li lp, free.blank p le, ap (λ k. sum_to k (term weight rows from i p)) all, terms_after weight rows from i p table.inputs table.few li le);
    }
