use Rattle.std.proofs.Common.{eqb, rules, tests}
use Rattle.tables.specs.Agreement.{bit}
use Rattle.signatures.specs.Values.{cofactor}
use Rattle.signatures.proofs.Asking.{given_one}
use Rattle.signatures.proofs.cofactor.CofactorPerInput.put.Goals as goal

pub returns-then-not-is_empty-clause-says : goal.returns-then-not-is_empty-clause-says
returns-then-not-is_empty-clause-says g c =
    let i = c.args.input in
    given_one (cofactor g.R.RowKind.weight) c.args.table.now.inputs c.args.table.now.rows.now i c.weight_where.result c.requires.input_in
    (c.weight_where.ensures (λ r. eqb (bit i r) 1) (λ r b lr e. search (rules, tests))) c.args.room.now c.requires.free
