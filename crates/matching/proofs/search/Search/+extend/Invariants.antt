use Rattle.std.proofs.Common.{ℕ, ◌-◌, ◌^◌, ◌<◌}
use Rattle.matching.specs.Begun.{SameSearch, Barred}
use Rattle.matching.proofs.search.Search.+extend.Given as goal

abbrev pub decreases-extend : goal.decreases-extend
decreases-extend g l = l.begun.now.inputs - l.begun.now.len

abbrev pub invariant-loop-pin : goal.invariant-loop-pin
invariant-loop-pin g l = record {
  same : SameSearch (2 ^ l.begun.len) l.initial.self l.self;
  past : (p : ℕ) → p < l.pin → Barred g.R.RowKind.same l.initial.self l.begun p;
}
