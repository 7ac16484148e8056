use Rattle.std.proofs.Common.{◌≡◌, [], ◌∷◌, ◌++◌, length, min, sym, rules}
use Rattle.std.proofs.lemmas.List.{take_at}
use Rattle.wire_sheet.proofs.to_list.ToList.push.Goals as goal

pub returns-else-not-is_full : goal.returns-else-not-is_full
returns-else-not-is_full c =
    let full : length c.args.self.now ≡ 11 = search rules in
    sym (take_at c.args.self.now (min c.args.pin 255 ∷ []) 11 full)
