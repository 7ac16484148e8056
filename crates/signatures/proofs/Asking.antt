-- Which questions have an answer, and which get 0.
use Rattle.std.proofs.Common.{◌≡◌, ℕ, ◌<◌, ◌≤◌, List, length, get_or, set, arith}
use Rattle.std.proofs.lemmas.Bool.Decides.{nat_tests}
use Rattle.std.proofs.lemmas.Grind.{get_or-set_at}
use Rattle.std.proofs.lemmas.List.{get_or-set_other}
use Rattle.signatures.specs.Law.{given}

module _ {R : Type 0} (count : ℕ) (value : ℕ → List R → ℕ → ℕ → ℕ) (n : ℕ) (rows : List R) (i p : ℕ) where
  pub given_yes : i < n → p < count → given count value n rows i p ≡ value n rows i p
  given_yes li lp = grind (arith, nat_tests)

  pub given_no_place : count ≤ p → given count value n rows i p ≡ 0
  given_no_place le = grind (arith, nat_tests)

-- a room of zeros with one answer
pub given_one : {R : Type 0} (value : ℕ → List R → ℕ → ℕ → ℕ) (n : ℕ) (rows : List R) (i x : ℕ) → i < n → x ≡ value n rows i 0 → (room : List ℕ) → ((p : ℕ) → get_or room p 0 ≡ 0)
    → (p : ℕ) → p < length room → get_or (set room 0 x) p 0 ≡ given 1 value n rows i p
given_one value n rows i x li e room free p lp =
    let own : p ≡ 0 → get_or (set room 0 x) p 0 ≡ x = λ z. get_or-set_at room 0 p x 0 z (omega (arith, z, lp)) in
    let other = get_or-set_other room 0 p x 0 in
    let none = free p in
    grind (arith, nat_tests)
