-- Which pairs of an input and a pin have unequal lists.
use Rattle.std.proofs.Common.{◌≡◌, ℕ, ◌<◌, Bool, true, false, not, arith}
use Rattle.std.proofs.lemmas.Bool.Decides.{nat_tests}
use Rattle.lists.specs.Lists.{list, equal}
use Rattle.lists.specs.Pairs.{unequal}
use Rattle.lists.specs.declared.lists.Lists.{Lists}
use Rattle.lists.proofs.Times.{equal_decides}

module _ (card part : Lists) where
  pub unequal_here : (i p : ℕ) (r : Bool) → i < card.inputs → p < part.inputs → r ≡ equal (list card i) (list part p) → unequal card part i p ≡ not r
  unequal_here i p r li lp e = grind (arith, nat_tests)

  pub unequal_not : (i p : ℕ) → list card i ≡ list part p → unequal card part i p ≡ false
  unequal_not i p e = let same = (equal_decides (list card i) (list part p)).1 e in grind (arith, nat_tests)

  pub unequal_so : (i p : ℕ) → i < card.inputs → p < part.inputs → unequal card part i p ≡ false → list card i ≡ list part p
  unequal_so i p li lp off = (equal_decides (list card i) (list part p)).0 (grind (arith, nat_tests))

  pub unequal_within : (i p : ℕ) → unequal card part i p ≡ true → (i < card.inputs) × (p < part.inputs)
  unequal_within i p on = grind (arith, nat_tests)
