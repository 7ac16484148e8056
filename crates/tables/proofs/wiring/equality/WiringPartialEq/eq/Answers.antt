use Rattle.std.proofs.Common.{Decides}
use Rattle.std.proofs.lemmas.Bool.Decides.{same_from_decides}
use Rattle.tables.proofs.Pins.{SamePins, of_fields, of_fronts}
use Rattle.tables.proofs.wiring.equality.WiringPartialEq.eq.Goals as goal

decided : (c : goal.After-eq) → Decides c.eq.result (SamePins c.args.self.now c.args.other.now)
decided c = rw (c.eq.ensures, c.pins.ensures, c.pins-2.ensures) (of_fronts c.args.self.now c.args.other.now)

pub returns-clause-value : goal.returns-clause-value
returns-clause-value c = same_from_decides _ _ (decided c) (of_fields c.args.self.now c.args.other.now)

pub returns-clause-decided : goal.returns-clause-decided
returns-clause-decided c = decided c
