use Rattle.std.proofs.Common.{◌+◌, ◌-◌, ◌≡◌, ℕ, zero, suc, [], ◌∷◌, ◌^◌, ◌<◌, ◌≤◌, List, map, length, get_or, set, take, sym, ap, ◌∙◌, arith, pow_pos, pow_mono, length-take, length-set}
use Rattle.std.proofs.Math.ListN.{get_or-append}
use borrow.Author.Count.{below_more}
use Rattle.std.proofs.lemmas.List.{get_or-map, get_or-take, get_or-drop, get_or-append_right, get_or-set_same, get_or-set_other}
use Rattle.tables.specs.declared.table.Table.{Table}
use Rattle.tables.proofs.SumsAbove.{sum_above_all, sum_above_ext}
use Rattle.tables.proofs.above.sums_above.Goals as goal

few : {R : Type 0} (table : Table R) → length table.rows.now ≤ 1024
few table = let top : 2 ^ table.inputs ≤ 2 ^ 10 = pow_mono table.few in omega (arith, table.whole)

light : {R : Type 0} (weight : R → ℕ) → ((x : R) → weight x < 256) → (rows : List R) (r : ℕ) → get_or (map weight rows) r 0 < 256
light weight h [] r = omega arith
light weight h (x ∷ rows) zero = h x
light weight h (x ∷ rows) (suc r) = light weight h rows r

pub bounds-sums-r : goal.bounds-sums-r
bounds-sums-r g c = omega (arith, c.loop-r-test.true, few c.args.table.now)

pub loop-r-preserved : goal.loop-r-preserved
loop-r-preserved g c =
    let weight = g.R.RowKind.weight in
    let table = c.args.table.now in
    let rows = table.rows.now in
    let r = c.loop-r.r in
    let was = c.loop-r.invariant in
    let x = c.row-item.result in
    record {
      len = omega (arith, was.len, length-set {A = ℕ});
      rest = λ k le. get_or-set_other c.loop-r.sums r k c.weight.result 0 (λ e. omega arith) ∙ was.rest k (omega arith);
      weights = below_more (λ k. get_or (set c.loop-r.sums r c.weight.result) k 0 ≡ get_or (map weight rows) k 0) r
          (λ k l. get_or-set_other c.loop-r.sums r k c.weight.result 0 (λ e. omega arith) ∙ was.weights k l)
          (get_or-set_same c.loop-r.sums r c.weight.result 0 (omega (arith, was.len, c.loop-r-test.true, few table))
          ∙ c.weight.ensures ∙ ap weight c.row-item.is ∙ sym (get_or-map weight rows r x 0 c.loop-r-test.true));
    }

pub slice_bounds-sum_up-end : goal.slice_bounds-sum_up-end
slice_bounds-sum_up-end g c = omega (arith, few c.args.table.now)

pub sum_up-requires-clause-light : goal.sum_up-requires-clause-light
sum_up-requires-clause-light g c = λ s lt.
    let table = c.args.table.now in
    let l : s < length table.rows.now = omega (arith, table.whole) in
    omega (arith, get_or-take (length table.rows.now) c.loop-r.sums s 0 l, c.loop-r.invariant.weights s (omega (arith, c.loop-r-test.false)), light g.R.RowKind.weight g.met.R.RowKind.laws.light table.rows.now s)

pub returns-clause-rest : goal.returns-clause-rest
returns-clause-rest g c = λ s ge.
    let table = c.args.table.now in
    let rows = table.rows.now in
    let n = length rows in
    let len : length c.sum_up.new.sums ≡ n = omega (arith, c.sum_up.ensures.len, length-take {A = ℕ}, c.loop-r.invariant.len, few table) in
    let over : n ≤ s = omega (arith, table.whole) in
    let e : n + (s - n) ≡ s = omega arith in
    get_or-append_right c.sum_up.new.sums _ n s 0 len over
    ∙ get_or-drop n c.loop-r.sums (s - n) 0
    ∙ ap (λ k. get_or c.loop-r.sums k 0) e
    ∙ c.loop-r.invariant.rest s (omega (arith, c.loop-r.auto.r-end))

pub returns-clause-sums : goal.returns-clause-sums
returns-clause-sums g c = λ s lt.
    let table = c.args.table.now in
    let rows = table.rows.now in
    let weights = map g.R.RowKind.weight rows in
    let xs = take (length rows) c.loop-r.sums in
    let len : length c.sum_up.new.sums ≡ length rows = omega (arith, c.sum_up.ensures.len, length-take {A = ℕ}, c.loop-r.invariant.len, few table) in
    get_or-append c.sum_up.new.sums _ 0 s (omega (arith, len, table.whole))
    ∙ c.sum_up.ensures.sums s lt
    ∙ sum_above_ext xs weights table.inputs s (λ r lr.
    get_or-take (length rows) c.loop-r.sums r 0 (omega (arith, table.whole)) ∙ c.loop-r.invariant.weights r (omega (arith, table.whole, c.loop-r-test.false)))

pub returns-clause-total : goal.returns-clause-total
returns-clause-total g c =
    let table = c.args.table.now in
    returns-clause-sums g c 0 (pow_pos table.inputs) ∙ sum_above_all (map g.R.RowKind.weight table.rows.now) table.inputs
