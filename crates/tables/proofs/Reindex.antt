use Rattle.std.proofs.Common.{◌≡◌, ℕ, ◌^◌, ◌<◌, Bool, true, List, [], ◌∷◌, map, length, get_or, sym, ap, ◌∙◌, arith}
use Rattle.std.proofs.lemmas.List.{get_or-map}
use Rattle.tables.specs.Sums.{sum_to, weighed}
use Rattle.tables.specs.Wirings.{Wires}
use Rattle.tables.specs.Agreement.{bit, Carried, Agree}
use Rattle.tables.proofs.Sums.{sum_reindex}
use Rattle.tables.proofs.Digits.{number, bit_lt, number_lt, bit_number, bits_ext}
use Rattle.tables.proofs.Onto.{back, back_into, there_back, back_there}

-- the part's row that a card's row is carried to, and back
module _ (n : ℕ) (w : ℕ → ℕ) (h : Wires n w) where
  abbrev pub row_there : ℕ → ℕ
  row_there r = number n (λ j. bit (back n w h j) r)

  abbrev pub row_back : ℕ → ℕ
  row_back q = number n (λ i. bit (w i) q)

  pub there_lt : (r : ℕ) → row_there r < 2 ^ n
  there_lt r = number_lt (λ j. bit (back n w h j) r) (λ j. bit_lt (back n w h j) r) n

  pub back_lt : (q : ℕ) → row_back q < 2 ^ n
  back_lt q = number_lt (λ i. bit (w i) q) (λ i. bit_lt (w i) q) n

  pub bit_there : (r j : ℕ) → j < n → bit j (row_there r) ≡ bit (back n w h j) r
  bit_there r j lt = bit_number (λ j. bit (back n w h j) r) (λ j. bit_lt (back n w h j) r) n j lt

  bit_back : (q i : ℕ) → i < n → bit i (row_back q) ≡ bit (w i) q
  bit_back q i lt = bit_number (λ i. bit (w i) q) (λ i. bit_lt (w i) q) n i lt

  pub carried : (r : ℕ) → Carried n w r (row_there r)
  carried r i lt = bit_there r (w i) (h.0 i lt) ∙ ap (λ x. bit x r) (back_there n w h i lt)

  pub row_back_there : (r : ℕ) → r < 2 ^ n → row_back (row_there r) ≡ r
  row_back_there r lr = bits_ext n (row_back (row_there r)) r (back_lt (row_there r)) lr (λ j lt. bit_back (row_there r) j lt ∙ carried r j lt)

  pub row_there_back : (q : ℕ) → q < 2 ^ n → row_there (row_back q) ≡ q
  row_there_back q lq = bits_ext n (row_there (row_back q)) q (there_lt (row_back q)) lq (λ j lt.
      bit_there (row_back q) j lt ∙ bit_back q (back n w h j) (back_into n w h j lt) ∙ ap (λ x. bit x q) (there_back n w h j lt))

  -- a sum over the rows, carried over
  pub sum_rows : (f g : ℕ → ℕ) → ((r : ℕ) → r < 2 ^ n → f r ≡ g (row_there r)) → sum_to (2 ^ n) f ≡ sum_to (2 ^ n) g
  sum_rows f g same = sum_reindex (2 ^ n) row_there row_back f g (λ r _. there_lt r) (λ q _. back_lt q) row_back_there row_there_back same

module _ {R : Type 0} (same : R → R → Bool) (weight : R → ℕ) (alike : (x y : R) → same x y ≡ true → weight x ≡ weight y) where
  weighs : (card part : List R) (r q : ℕ) → r < length card → q < length part → ((d : R) → same (get_or card r d) (get_or part q d) ≡ true) → get_or (map weight card) r 0 ≡ get_or (map weight part) q 0
  weighs [] part r q lr lq s = absurd (omega arith)
  weighs (x ∷ card) part r q lr lq s = get_or-map weight (x ∷ card) r x 0 lr ∙ alike _ _ (s x) ∙ sym (get_or-map weight part q x 0 lq)

  module _ (n : ℕ) (card part : List R) (w : ℕ → ℕ) (a : Agree same n w card part) where
    abbrev pub there : ℕ → ℕ
    there = row_there n w a.wires

    pub weight_there : (r : ℕ) → r < 2 ^ n → get_or (map weight card) r 0 ≡ get_or (map weight part) (there r) 0
    weight_there r lr =
        let lq = there_lt n w a.wires r in
        weighs card part r (there r) (rw a.card_rows lr) (rw a.part_rows lq) (λ d. a.rows r (there r) d lr lq (carried n w a.wires r))

    -- tables that agree weigh alike
    pub total_there : weighed weight card (2 ^ n) ≡ weighed weight part (2 ^ n)
    total_there = sum_rows n w a.wires _ _ weight_there
