-- What the law says of the lists of two tables that agree.
use Rattle.std.proofs.Common.{◌≡◌, ℕ, ◌<◌, Bool, List, [], map, length, get_or, take, sym, ◌∙◌, arith}
use Rattle.std.proofs.lemmas.List.FromFn.{fill_by_all, length-map-range_with_len, get_or-map-range_with_len}
use Rattle.std.proofs.lemmas.List.{get_or-take, length-take-le}
use Rattle.std.specs.List.{range_with_len as counting}
use Rattle.lists.specs.Lists.{list, Keeps}
use Rattle.lists.specs.declared.lists.Lists.{Lists}
use Rattle.lists.proofs.Rows.{list_here}
use Rattle.tables.specs.Agreement.{Agree}
use Rattle.signatures.specs.Law.{list_of, GivesLists, Lawful}
use Rattle.signatures.proofs.Asking.{given_yes}

-- two lists of answers are equal where each answer is
same_answers : (f g : ℕ → ℕ) (n : ℕ) → ((p : ℕ) → p < n → f p ≡ g p) → map f (counting 0 n) ≡ map g (counting 0 n)
same_answers f g n same = fill_by_all g (map f (counting 0 n)) n 0 (length-map-range_with_len f 0 n) (λ k lk. get_or-map-range_with_len f 0 n k k 0 lk (omega arith) ∙ same k lk)

module _ {R : Type 0} (count : ℕ) (value : ℕ → List R → ℕ → ℕ → ℕ) where
  pub list_is : (n : ℕ) (rows : List R) (lists : Lists) → GivesLists count value n rows lists → (i : ℕ) → i < n → list lists i ≡ list_of count value n rows i
  list_is n rows lists h i li =
      let row = get_or lists.answers i [] in
      let long : length (take lists.places row) ≡ count = length-take-le lists.places row (omega (arith, h.wide i li, lists.short)) ∙ h.places in
      list_here lists i (omega (arith, h.inputs))
      ∙ fill_by_all (value n rows i) (take lists.places row) count 0 long (λ p lp. get_or-take lists.places row p 0 (omega (arith, h.places)) ∙ h.answers i p li ∙ given_yes count value n rows i p li lp)

  -- a wiring under which they agree gives each input a pin with an equal list
  pub list_kept : (same : R → R → Bool) → Lawful count value same → (n : ℕ) (card part : List R) (w : ℕ → ℕ) → Agree same n w card part → (i : ℕ) → i < n → list_of count value n card i ≡ list_of count value n part (w i)
  list_kept same law n card part w agree i li = same_answers (value n card i) (value n part (w i)) count (λ p lp. law n card part w agree i p li lp)

  pub keeps : (same : R → R → Bool) → Lawful count value same → (n : ℕ) (card part : List R) (a b : Lists) → GivesLists count value n card a → GivesLists count value n part b
      → (w : ℕ → ℕ) → Agree same n w card part → Keeps n a b w
  keeps same law n card part a b ha hb w agree i li =
      list_is n card a ha i li ∙ list_kept same law n card part w agree i li ∙ sym (list_is n part b hb (w i) (agree.wires.0 i li))
