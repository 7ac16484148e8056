use Rattle.std.proofs.Common.{◌≡◌, ap, ◌∙◌}
use Rattle.std.proofs.lemmas.Bool.Decides.{Decides-at}
use Rattle.lists.specs.Lists.{list, equal}
use Rattle.lists.proofs.Times.{equal_decides, equal_from_eq}
use Rattle.lists.proofs.lists.Lists.is_equal.Goals as goal

pub returns : goal.returns
returns c =
    let x = list c.args.self.now c.args.input in
    let y = list c.args.other.now c.args.pin in
    let value : c.eq.result ≡ equal x y = equal_from_eq c.list.result.now c.list-2.result.now y c.eq.result c.eq.ensures c.list-2.ensures ∙ ap (λ z. equal z y) c.list.ensures in
    record { value = value; decides = Decides-at c.eq.result (equal x y) value (equal_decides x y) }
