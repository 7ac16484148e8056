use Rattle.std.proofs.Common.{refl}
use Rattle.rebuild.proofs.Stock.{no_means_three}
use Rattle.rebuild.proofs.examples.repair_of_on_off.Goals as goal

pub returns : goal.returns
returns c = no_means_three _ _ _ c.show_repair.result c.show_repair.ensures.failed refl refl refl
