use Rattle.std.proofs.Common.{◌≡◌, ℕ, ◌<◌, not, false, ltb, length, take, get_or, is_some, Some, None, count_by, position, Option, sym, ap, ◌∙◌}
use Rattle.std.specs.Option.{ok_or}
use Rattle.std.proofs.lemmas.Bool.{not-true, ltb-true, ltb-false, le-leb, lt-leb}
use Rattle.refusals.specs.Due.{Outcome, first, none}
use Rattle.refusals.specs.declared.refusal.Refusal.{Refusal}
use Rattle.refusals.proofs.Dues.{is_due, not_due}
use Rattle.inventory.specs.Slots.{full, labelled}
use Rattle.inventory.specs.declared.shelf.Shelf.{Shelf}
use Rattle.inventory.proofs.Fronts.{size, place, found}
use Rattle.inventory.proofs.Labels.{is_free}
use Rattle.inventory.proofs.Scans.{found_spare, count_front}
use Rattle.inventory.proofs.shelf.Shelf.room_for.Goals as goal

module _ (shelf : Shelf) where
  count : count_by is_some (take shelf.count shelf.slots) ≡ count_by is_some shelf.slots
  count = count_front is_some shelf.slots shelf.count None (λ k le. ap is_some (shelf.past k le))

  spare : (o : Option ℕ) → o ≡ position (λ slot. not (is_some slot)) (take shelf.count shelf.slots) → is_some o ≡ ltb (count_by is_some shelf.slots) shelf.count
  spare o e = ap is_some e ∙ found_spare is_some (take shelf.count shelf.slots) ∙ ap (λ n. ltb n (length (take shelf.count shelf.slots))) count ∙ ap (ltb (count_by is_some shelf.slots)) (size shelf)

  room : (n : ℕ) (o : Option ℕ) → labelled n shelf.slots ≡ false → o ≡ position (λ slot. not (is_some slot)) (take shelf.count shelf.slots)
      → Outcome (first (labelled n shelf.slots) 7 (first (full shelf.count shelf.slots) 8 none))
      (λ k. (k < shelf.count) × (get_or shelf.slots k None ≡ None) × (labelled n shelf.slots ≡ false)) (ok_or o Refusal.ShelfFull)
  room n None new e = not_due _ 7 _ new ∙ is_due _ 8 none (le-leb shelf.count (count_by is_some shelf.slots) (ltb-false _ _ (sym (spare None e))))
  room n (Some k) new e =
      let at = place shelf (λ slot. not (is_some slot)) k (sym e) in (
        not_due _ 7 _ new ∙ not_due _ 8 none (lt-leb shelf.count (count_by is_some shelf.slots) (ltb-true _ _ (sym (spare (Some k) e)))),
        (at.0, is_free _ (not-true _ at.1), new),
      )

pub returns-then-is_some : goal.returns-then-is_some
returns-then-is_some c = is_due _ 7 _ (found c.args.self.now c.args.number c.find.result c.find.ensures ∙ sym c.is_some.ensures ∙ c.if-is_some.true)

pub returns : goal.returns
returns c =
    let new = found c.args.self.now c.args.number c.find.result c.find.ensures ∙ sym c.is_some.ensures ∙ c.if-is_some.false in
    rw c.ok_or.ensures.value (room c.args.self.now c.args.number c.find_free.result new c.find_free.ensures)
