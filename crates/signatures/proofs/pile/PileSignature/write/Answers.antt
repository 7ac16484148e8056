use Rattle.std.proofs.Common.{[], get_or, arith}
use Rattle.signatures.proofs.Piling.{free_next, appended_both}
use Rattle.signatures.proofs.pile.PileSignature.write.Goals as goal

pub write-requires-2-clause-free : goal.write-requires-2-clause-free
write-requires-2-clause-free g c = λ i li.
    let pile = c.args.self.now in
    let table = c.args.table.now in
    free_next (g.A.Signature.count pile.0) (g.B.Signature.count pile.1) (g.A.Signature.value pile.0) (g.B.Signature.value pile.1) table.inputs table.rows.now i c.args.from c.min-second.result
    (omega (arith, c.min-second.ensures, c.places.ensures.count))
    (get_or c.args.answers.now i []) (get_or c.write.new.answers i []) (c.requires.free i li) (c.write.ensures.written i li)

pub returns-clause-written : goal.returns-clause-written
returns-clause-written g c = λ i li.
    let pile = c.args.self.now in
    let table = c.args.table.now in
    appended_both (g.A.Signature.count pile.0) (g.B.Signature.count pile.1) (g.A.Signature.value pile.0) (g.B.Signature.value pile.1) table.inputs table.rows.now i c.args.from c.min-second.result
    (omega (arith, c.min-second.ensures, c.places.ensures.count))
    (get_or c.args.answers.now i []) (get_or c.write.new.answers i []) (c.requires.free i li) (c.write.ensures.written i li)
    (get_or c.write-2.new.answers i []) c.requires.from (c.write-2.ensures.written i li)
