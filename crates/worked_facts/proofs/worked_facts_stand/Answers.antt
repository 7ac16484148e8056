use Rattle.std.proofs.Common.{refl}
use Rattle.worked_facts.proofs.Standing.{worked_facts_lem}
use Rattle.worked_facts.proofs.worked_facts_stand.Goals as goal

pub returns : goal.returns
returns c = record { hold = worked_facts_lem; count = refl }
