use Rattle.line_service.proofs.Cutting.{long_reads}
use Rattle.line_service.proofs.serving.long_lines_are_no_form.Goals as goal

pub returns : goal.returns
returns g c = long_reads
