use Rattle.runs.proofs.Contents.{holds_parts}
use Rattle.runs.proofs.opening.every_shelf_holds_parts.Goals as goal

pub returns : goal.returns
returns g c = record { parts = holds_parts }
