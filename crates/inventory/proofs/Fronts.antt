-- The slots that a shelf has.
use Rattle.std.proofs.Common.{◌≡◌, ℕ, ◌<◌, Bool, true, List, length, take, get_or, is_some, Some, None, position, Option, sym, ap, ◌∙◌, arith, length-take-le, get_or-take}
use Rattle.std.proofs.lemmas.List.Quantifiers.{position-Some}
use Rattle.inventory.specs.Slots.{has, labelled}
use Rattle.inventory.specs.declared.label.Label.{Label}
use Rattle.inventory.specs.declared.shelf.Shelf.{Shelf}
use Rattle.inventory.proofs.Scans.{any_front, found_any}

module _ (shelf : Shelf) where
  abbrev front : List (Option Label)
  front = take shelf.count shelf.slots

  pub size : length front ≡ shelf.count
  size = let few = shelf.few in let wide = shelf.whole in length-take-le shelf.count shelf.slots (omega arith)

  -- a place that is found is one of its slots
  pub place : (test : Option Label → Bool) (k : ℕ) → position test front ≡ Some k → (k < shelf.count) × (test (get_or shelf.slots k None) ≡ true)
  place test k e =
      let at = position-Some test front k None e in
      let within : k < shelf.count = omega (arith, at.0, size) in
      (within, ap test (sym (get_or-take shelf.count shelf.slots k None within)) ∙ at.1)

  -- a number is found exactly where a part has it
  pub found : (n : ℕ) (o : Option ℕ) → o ≡ position (has n) front → labelled n shelf.slots ≡ is_some o
  found n o e = sym (any_front (has n) shelf.slots shelf.count None (λ k le. ap (has n) (shelf.past k le))) ∙ sym (found_any (has n) front) ∙ ap is_some (sym e)
