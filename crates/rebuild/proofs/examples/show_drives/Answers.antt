use Rattle.std.proofs.Common.{◌≡◌, [], ◌∷◌, refl}
use Rattle.refusals.specs.Due.{none}
use Rattle.rows.specs.declared.drive.Drive.{Drive}
use Rattle.ledger.specs.Ledger.{Part, Call, enter, change_due}
use Rattle.rebuild.proofs.Stock.{no_means_two}
use Rattle.rebuild.proofs.examples.show_drives.Goals as goal

pub returns : goal.returns
returns c =
    let near_miss : Call Drive ⊥ = enter 204 2 c.args.near_miss.now in
    let first : change_due 2 [] near_miss ≡ none = rw c.told-near_miss refl in
    let stands : Part Drive = record { number = 204; inputs = 2; rows = c.args.near_miss.now } in
    let fitting : Call Drive ⊥ = enter 117 2 c.args.fitting.now in
    let second : change_due 2 (stands ∷ []) fitting ≡ none = rw c.told-fitting refl in
    no_means_two _ _ c.show_repair.result c.show_repair.ensures.failed first second
