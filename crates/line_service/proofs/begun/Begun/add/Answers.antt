use Rattle.std.proofs.Common.{◌≡◌, ◌<◌, ◌≤◌, [], ◌∷◌, ◌++◌, length, sym, ◌∙◌, arith, rules}
use Rattle.std.proofs.lemmas.List.{take_all, take_at}
use Rattle.line_service.proofs.begun.Begun.add.Goals as goal

pub returns-then-not-is_full : goal.returns-then-not-is_full
returns-then-not-is_full c =
    let kept = c.self.inside.bytes.items in
    let below : length kept < 1101 = search rules in
    let whole : length (kept ++ c.args.byte ∷ []) ≤ 1101 = rw (← c.push.ensures.items) (omega (arith, below, c.push.ensures.len)) in
    rw (← c.self.view_is) (c.push.ensures.items ∙ sym (take_all 1101 (kept ++ c.args.byte ∷ []) whole))

pub returns-else-not-is_full : goal.returns-else-not-is_full
returns-else-not-is_full c =
    let full : length c.args.self.now ≡ 1101 = search rules in
    sym (take_at c.args.self.now (c.args.byte ∷ []) 1101 full)
