use Rattle.std.proofs.Common.{◌≡◌, ◌*◌, length, take}
use Rattle.runs.specs.Holding.{Holds}
use Rattle.rebuild.specs.Stocking.{stood, AllStand}
use Rattle.rebuild.proofs.stocking.shelve.Given as goal

abbrev pub invariant-loop-part : goal.invariant-loop-part
invariant-loop-part g l = record {
  memory : length l.memory ≡ length l.stock * 1024;
  slots : l.shelf.count ≡ length l.stock;
  held : Holds l.shelf.slots l.memory (stood (take l.part-index l.stock));
  stand : AllStand (length l.stock) (take l.part-index l.stock);
}
