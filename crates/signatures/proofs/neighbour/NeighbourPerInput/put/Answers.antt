use Rattle.std.proofs.Common.{◌≡◌, ◌+◌, ◌^◌, ◌≤◌, cond, sym, ap, subst, ◌∙◌, arith, pow_mono}
use Rattle.tables.specs.Sums.{sum_to}
use Rattle.tables.proofs.Shifts.{shift}
use Rattle.signatures.specs.Values.{neighbour}
use Rattle.signatures.proofs.Neighbours.{term, term_small, term_is}
use Rattle.signatures.proofs.Tallies.{Tally, tally_most, tally_same, tally_more, tally_given}
use Rattle.signatures.proofs.Turns.{on_no, on_from, off_from}
use Rattle.signatures.proofs.neighbour.NeighbourPerInput.put.Goals as goal
use Rattle.signatures.proofs.neighbour.NeighbourPerInput.put.Goals.{then-is_on+in-Some, then-is_on+in_default, else-is_on}

pub loop-r-init : goal.loop-r-init
loop-r-init g c = record { summed = λ p _ _. c.requires.free p; empty = λ p _. c.requires.free p }

pub add_at-requires : goal.add_at-requires
add_at-requires g c =
    let table = c.args.table.now in
    let added = term g.R.RowKind.same g.R.RowKind.weight table.rows.now c.args.input in
    let most = tally_most 3 added c.loop-r.r c.loop-r.room c.loop-r.invariant 1 (term_small g.R.RowKind.same g.R.RowKind.weight table.rows.now c.args.input) c.in-Some.place c.in-Some.ensures.0 in
    let top : 2 ^ table.inputs ≤ 2 ^ 10 = pow_mono table.few in
    omega (arith, most, c.loop-r-test.true, table.whole, top)

pub loop-r-preserved : goal.loop-r-preserved
loop-r-preserved g c =
    let same = g.R.RowKind.same in
    let weight = g.R.RowKind.weight in
    let table = c.args.table.now in
    let rows = table.rows.now in
    let i = c.args.input in
    let r = c.loop-r.r in
    let added = term same weight rows i in
    let e = shift i 18446744073709551616 (omega (arith, c.requires.input_in, table.few)) (omega arith) in
    elim c.if-is_on.branch [
      | then-is_on+in-Some way ↦
          let on = on_from i r c.is_on.result c.is_on.ensures way.if-is_on.true in
          subst (Tally 3 added (r + 1)) (sym (way.room-is ∙ way.add_at.ensures))
          (tally_more 3 added r c.loop-r.room c.loop-r.invariant way.in-Some.place 1 way.in-Some.ensures.0
          (λ p lp. term_is same weight rows i p r _ way.index-table-r.result c.on-item.result on e c.loop-r-test.true c.on-item.is ∙ ap (λ b. cond b 1 0) (way.in-Some.ensures.1 p lp)))
      | then-is_on+in_default way ↦
          let on = on_from i r c.is_on.result c.is_on.ensures way.if-is_on.true in
          subst (Tally 3 added (r + 1)) (sym way.room-is)
          (tally_same 3 added r c.loop-r.room c.loop-r.invariant
          (λ p lp. term_is same weight rows i p r _ way.index-table-r.result c.on-item.result on e c.loop-r-test.true c.on-item.is ∙ ap (λ b. cond b 1 0) (way.in_default.ensures p lp)))
      | else-is_on way ↦
          subst (Tally 3 added (r + 1)) (sym way.room-is)
          (tally_same 3 added r c.loop-r.room c.loop-r.invariant (λ p _. on_no i r _ (off_from i r c.is_on.result c.is_on.ensures way.if-is_on.false)))
    ]

pub returns-clause-says : goal.returns-clause-says
returns-clause-says g c = λ p lp.
    let table = c.args.table.now in
    let rows = table.rows.now in
    let added = term g.R.RowKind.same g.R.RowKind.weight rows c.args.input in
    let all : c.loop-r.r ≡ 2 ^ table.inputs = omega (arith, c.loop-r-test.false, c.loop-r.auto.r-end, table.whole) in
    tally_given 3 added c.loop-r.r c.loop-r.room c.loop-r.invariant (neighbour g.R.RowKind.same g.R.RowKind.weight) table.inputs rows c.args.input c.requires.input_in (λ p. ap (λ k. sum_to k (added p)) all) p (omega (arith, lp, c.loop-r.auto.room))
