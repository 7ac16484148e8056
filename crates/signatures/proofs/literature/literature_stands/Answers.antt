use Rattle.signatures.proofs.Counts.{cofactor_counts, breakup_counts, breakup_sums}
use Rattle.signatures.proofs.literature.literature_stands.Goals as goal

pub returns : goal.returns
returns g c = record { cofactor = cofactor_counts; breakup = breakup_counts; sums = breakup_sums g.R.RowKind.weight }
