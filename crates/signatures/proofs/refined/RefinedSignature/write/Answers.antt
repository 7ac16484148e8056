use Rattle.std.proofs.Common.{◌-◌, replicate, ◌∙◌}
use Rattle.signatures.proofs.Places.{blank_block, zeros}
use Rattle.signatures.proofs.Refining.{refined_from_written, shared_small}
use Rattle.signatures.proofs.refined.RefinedSignature.write.Goals as goal

pub write-requires-clause-free : goal.write-requires-clause-free
write-requires-clause-free g c = blank_block c.args.table.now.inputs c.args.table.now.few

pub invariant_of-below : goal.invariant_of-below
invariant_of-below g c =
    let sums = c.sums_above.ensures in
    record {
      short = c.places.ensures.few;
      light = shared_small g.R.RowKind.weight c.args.table.now c.sums_above.new.sums sums.sums g.met.R.RowKind.laws.light (λ s le. sums.rest s le ∙ zeros 1024 s);
    }

pub returns-clause-written : goal.returns-clause-written
returns-clause-written g c = λ i li.
    let below = c.args.self.now.0 in
    let table = c.args.table.now in
    let written = c.write_each.ensures.written i li in
    record {
      len = written.len;
      before = written.before;
      after = λ p le lt.
          written.after p le lt
          ∙ refined_from_written g.R.RowKind.weight table c.sums_above.new.sums c.sums_above.ensures.sums (g.S.Signature.count below) (g.S.Signature.value below) c.places.result c.places.ensures.count c.places.ensures.few (replicate 10 (replicate 64 0)) c.write.new.answers c.write.ensures.written i (p - c.args.from);
    }
