use Rattle.matching.specs.Begun.{SameSearch, Settled}
use Rattle.matching.proofs.search.Search.settle.Given as goal

abbrev pub invariant-loop-r : goal.invariant-loop-r
invariant-loop-r g l =
    let first = l.initial.self in
    record {
      same : SameSearch l.half first l.self;
      settled : Settled g.R.RowKind.same first.card.now.rows.now first.part.now.rows.now l.half l.r l.worth first.carried l.self.carried;
    }
