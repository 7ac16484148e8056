use Rattle.runs.proofs.Stock.{empty_holds}
use Rattle.runs.proofs.opening.opened_shelf_is_empty.Goals as goal

pub returns : goal.returns
returns g c = record { empty = λ slots shelf memory empty. empty_holds shelf.slots memory empty.1 }
