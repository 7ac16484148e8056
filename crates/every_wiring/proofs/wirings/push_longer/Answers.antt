use Rattle.std.proofs.Common.{◌≡◌, Bool, ℕ, cond, eqb, List, [], ◌∷◌, ◌++◌, Vec, Global, map, take, sym, ap, ◌∙◌}
use Rattle.std.specs.Prelude.{not}
use Rattle.std.specs.List.{list_any}
use Rattle.std.proofs.lemmas.List.{append-nil, map_push}
use Rattle.every_wiring.specs.Lists.{pins_of}
use Rattle.every_wiring.specs.Wirings.{longer_by}
use Rattle.every_wiring.proofs.Listing.{longer_by_more}
use Rattle.every_wiring.proofs.wirings.push_longer.Goals as goal
use Rattle.every_wiring.proofs.wirings.push_longer.Goals.{then-not-contains+in_ok-with_first+in_ok-push, else-not-contains}

pub loop-pins-preserved : goal.loop-pins-preserved
loop-pins-preserved c =
    let start : List (List ℕ) = pins_of c.args.longer.now.items in
    let p : ℕ = c.args.pin in
    let x : Vec ℕ Global = c.pins-item.result in
    let so_far : List (List ℕ) = start ++ longer_by (pins_of (take c.loop-pins.pins-index c.args.lists.now)) p in
    let alone : Bool → List (List ℕ) = λ b. map (λ v. p ∷ v) (cond (not b) (x.items ∷ []) []) in
    let found : c.contains.result ≡ list_any (λ q. eqb q p) x.items = c.contains.ensures.value ∙ ap (list_any (λ q. eqb q p)) c.deref.ensures.value in
    let more = longer_by_more start c.args.lists.now c.loop-pins.pins-index p x c.loop-pins-test.true c.pins-item.is in
    elim c.if-not-contains.branch [
      | then-not-contains+in_ok-with_first+in_ok-push w ↦ rw w.longer-is
          (ap pins_of w.in_ok-push.ensures.items
          ∙ map_push (λ v. v.items) c.loop-pins.longer.items w.in_ok-with_first.field-0
          ∙ ap (λ ls. ls ++ w.in_ok-with_first.field-0.items ∷ []) c.loop-pins.invariant
          ∙ ap (λ ls. so_far ++ ls) (ap (λ v. v ∷ []) (w.in_ok-with_first.ensures ∙ ap (λ v. p ∷ v) w.as_slice.ensures.value) ∙ ap alone (sym w.if-not-contains.true ∙ found))
          ∙ more)
      | else-not-contains w ↦ rw w.longer-is
          (c.loop-pins.invariant ∙ sym (append-nil so_far) ∙ ap (λ ls. so_far ++ ls) (ap alone (sym w.if-not-contains.false ∙ found)) ∙ more)
    ]
