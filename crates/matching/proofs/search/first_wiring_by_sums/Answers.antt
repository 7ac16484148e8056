use Rattle.matching.proofs.Unlike.{none_left_out, found_less}
use Rattle.matching.proofs.Choosing.{unlike_sizes, parted_first, found}
use Rattle.matching.proofs.search.first_wiring_by_sums.Goals as goal

pub returns-then-card-part : goal.returns-then-card-part
returns-then-card-part g c = unlike_sizes g.R.RowKind.same c.args.card.now c.args.part.now c.args.strikes.now.struck c.if-card-part.true

pub returns-then-is_left_out : goal.returns-then-is_left_out
returns-then-is_left_out g c =
    none_left_out g.R.RowKind.same g.R.RowKind.weight g.met.R.RowKind.laws.alike c.args.card.now c.args.part.now c.if-card-part.false
    c.args.card_sums.now c.args.part_sums.now c.requires.card_sums c.requires.part_sums c.args.strikes.now.struck c.with_unlike-strikes.result.struck c.with_unlike-strikes.ensures
    c.loop-number.number c.loop-number-test.true (c.is_left_out.ensures c.if-is_left_out.true)

pub returns-then-not-fits : goal.returns-then-not-fits
returns-then-not-fits g c =
    parted_first g.R.RowKind.same g.R.RowKind.weight g.met.R.RowKind.laws.alike c.args.card.now c.args.part.now c.args.strikes.now.struck c.if-card-part.false
    c.args.card_sums.now c.args.part_sums.now c.requires.card_sums c.requires.part_sums c.if-not-fits.ensures

pub returns : goal.returns
returns g c =
    found_less g.R.RowKind.same g.R.RowKind.weight g.met.R.RowKind.laws.alike c.args.card.now c.args.part.now c.if-card-part.false
    c.args.card_sums.now c.args.part_sums.now c.requires.card_sums c.requires.part_sums c.args.strikes.now.struck c.with_unlike-strikes.result.struck c.with_unlike-strikes.ensures
    c.extend.result (found g.R.RowKind.same _ c.in-Ok.begun c.in-Ok.ensures.1.1 c.extend.result c.extend.ensures.answer)
