-- What one part has to propose, from the search and the lists.
use Rattle.std.proofs.Common.{◌≡◌, ℕ, ◌*◌, ◌≤◌, Bool, not, List, [], length, get_or, take, Some, None, count_by, ap, refl, ◌∙◌, subst, inl, mul-le-mul, arith, length-take}
use native.Mathlib.Nat.{min-eq_left}
use Rattle.std.proofs.ByRecursion.{All-from_get_or, sum_by_le}
use Rattle.std.proofs.lemmas.List.{length-map}
use Rattle.std.proofs.lemmas.List.Sums.{count_by-le-length}
use Rattle.tables.specs.Agreement.{Agree}
use Rattle.tables.specs.Wirings.{pin}
use Rattle.tables.specs.declared.table.Table.{Table}
use Rattle.tables.specs.declared.wiring.Wiring.{Wiring}
use Rattle.lists.specs.Lists.{lists, equal}
use Rattle.lists.proofs.Permuted.{struck_kept}
use Rattle.lists.specs.Pairs.{struck_pairs}
use Rattle.lists.specs.declared.lists.Lists.{Lists}
use Rattle.signatures.specs.Law.{list_of, GivesLists, Lawful}
use Rattle.signatures.proofs.Kept.{list_kept}
use Rattle.fitting.specs.Fits.{Fits}
use Rattle.fitting.specs.Pruning.{all_lists}
use Rattle.fitting.proofs.Pruned.{lists_are}
use Rattle.ledger.specs.Ledger.{Part}
use Rattle.ledger.specs.Questions.{list_by, NoPart, Proposes}

-- a part with which the card agrees under no wiring serves under none
pub none_proposed : {R P : Type 0} (same : R → R → Bool) (list : P → ℕ → List R → ℕ → List ℕ) (card part : Table R) (number : ℕ) → Fits same card part None
    → NoPart same list (λ x. x ≡ record { number = number; inputs = part.inputs; rows = part.rows.now }) card.inputs card.rows.now
none_proposed same list card part number none other w is serves = none w (subst (λ x. Agree same card.inputs w card.rows.now x.rows) is serves.1)

-- no more pairs are struck than there are
struck_few : (xs ys : List (List ℕ)) → length xs ≤ 10 → length ys ≤ 10 → struck_pairs xs ys ≤ 100
struck_few xs ys lx ly =
    let each = sum_by_le (λ x. count_by (λ y. not (equal x y)) ys) (length ys) xs (All-from_get_or _ xs [] (λ i lt. count_by-le-length (λ y. not (equal (get_or xs i []) y)) ys)) in
    let most : length xs * length ys ≤ 10 * 10 = mul-le-mul lx ly in
    omega arith

lists_few : (a : Lists) → length (lists a) ≤ 10
lists_few a =
    let few = a.few in
    let whole = a.whole in
    let long : length (lists a) ≡ a.inputs = length-map (take a.inputs a.answers) (take a.places) ∙ length-take a.inputs a.answers ∙ min-eq_left (omega arith) in
    omega arith

pub struck_most : (a b : Lists) (k : ℕ) → k ≡ struck_pairs (lists a) (lists b) → k ≤ 100
struck_most a b k e = let most = struck_few (lists a) (lists b) (lists_few a) (lists_few b) in omega arith

module _ {R P : Type 0} (same : R → R → Bool) (count : P → ℕ) (value : P → ℕ → List R → ℕ → ℕ → ℕ) (pile : P)
    (law : Lawful (count pile) (value pile) same) (card part : Table R) (size : part.inputs ≡ card.inputs) (a : Lists)
    (ha : GivesLists (count pile) (value pile) card.inputs card.rows.now a)
    (number : ℕ) where
  abbrev this : Part R
  this = record { number = number; inputs = part.inputs; rows = part.rows.now }

  -- a part that agrees has the card's lists in another order: as many pairs are struck as of the card with itself
  pub one_proposed : (w : Wiring) (struck : ℕ) → Fits same card part (Some w) → struck ≡ struck_pairs (lists a) (lists a)
      → Proposes same (list_by count value) (λ x. x ≡ this) card.inputs card.rows.now pile number (pin w.pins) struck
  one_proposed w struck found e =
      let f = found.1 in
      let n = card.inputs in
      let kept = list_kept (count pile) (value pile) same law n card.rows.now part.rows.now (pin w.pins) f.agree in
      record {
        part = this;
        stands = refl;
        named = refl;
        serves = (size, f.agree);
        lowest = λ other v is serves. inl is;
        first = λ v serves other. f.first v serves.1 other;
        spared = kept;
        count = e
            ∙ ap (λ x. struck_pairs x x) (lists_are (count pile) (value pile) n card.rows.now a ha)
            ∙ struck_kept n (list_of (count pile) (value pile) n card.rows.now) (list_of (count pile) (value pile) n part.rows.now) (pin w.pins) f.agree.wires kept (all_lists (count pile) (value pile) n card.rows.now);
      }
