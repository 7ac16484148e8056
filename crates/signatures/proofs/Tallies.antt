-- A room of zeros to which each row in turn adds at one place, or at none.
use Rattle.std.proofs.Common.{◌≡◌, ℕ, ◌+◌, ◌*◌, ◌<◌, ◌≤◌, cond, eqb, List, length, get_or, set, sym, ap, ◌∙◌, ⊎_elim, arith, length-set, eq-eqb}
use Rattle.std.proofs.lemmas.List.{get_or-set_other, get_or_past}
use Rattle.std.proofs.lemmas.Grind.{get_or-set_at}
use Rattle.std.proofs.lemmas.Bool.{cases_eq, cases_lt, ne_eqb}
use Rattle.tables.specs.Sums.{sum_to}
use Rattle.signatures.specs.Law.{given}
use Rattle.signatures.proofs.Asking.{given_yes, given_no_place}
use Rattle.signatures.proofs.Turns.{sum_more, sum_most}

-- f p r: what row r adds at place p
module _ (places : ℕ) (f : ℕ → ℕ → ℕ) where
  pub record Tally (k : ℕ) (room : List ℕ) : Type 0 where
    pub summed : (p : ℕ) → p < length room → p < places → get_or room p 0 ≡ sum_to k (f p)
    pub empty : (p : ℕ) → places ≤ p → get_or room p 0 ≡ 0

  module _ (k : ℕ) (room : List ℕ) (t : Tally k room) where
    pub tally_most : (m : ℕ) → ((p j : ℕ) → f p j ≤ m) → (q : ℕ) → q < places → get_or room q 0 ≤ m * k
    tally_most m small q lq =
        ⊎_elim (λ lr. omega (arith, t.summed q lr lq, sum_most k m (f q) (small q))) (λ le. omega (arith, get_or_past room q 0 le)) (cases_lt q (length room))

    pub tally_same : ((p : ℕ) → p < places → f p k ≡ 0) → Tally (k + 1) room
    tally_same none = record { summed = λ p lr lp. omega (arith, t.summed p lr lp, sum_more k (f p), none p lp); empty = t.empty }

    pub tally_more : (q x : ℕ) → q < places → ((p : ℕ) → p < places → f p k ≡ cond (eqb p q) x 0) → Tally (k + 1) (set room q (get_or room q 0 + x))
    tally_more q x lq here =
        let sum = get_or room q 0 + x in
        record {
          summed = λ p ls lp.
              let lr : p < length room = omega (arith, ls, length-set room q sum) in
              ⊎_elim
              (λ e. get_or-set_at room q p sum 0 e (omega (arith, e, lr)) ∙ omega (arith, ap (λ j. get_or room j 0) e, t.summed p lr lp, sum_more k (f p), here p lp, ap (λ b. cond b x 0) (eq-eqb p q e)))
              (λ ne. get_or-set_other room q p sum 0 ne ∙ omega (arith, t.summed p lr lp, sum_more k (f p), here p lp, ap (λ b. cond b x 0) (ne_eqb p q ne)))
              (cases_eq p q);
          empty = λ p le. get_or-set_other room q p sum 0 (λ e. omega arith) ∙ t.empty p le;
        }

    pub tally_given : {R : Type 0} (value : ℕ → List R → ℕ → ℕ → ℕ) (n : ℕ) (rows : List R) (i : ℕ) → i < n → ((p : ℕ) → sum_to k (f p) ≡ value n rows i p)
        → (p : ℕ) → p < length room → get_or room p 0 ≡ given places value n rows i p
    tally_given value n rows i li is p lr =
        ⊎_elim
        (λ lp. t.summed p lr lp ∙ is p ∙ sym (given_yes places value n rows i p li lp))
        (λ le. t.empty p le ∙ sym (given_no_place places value n rows i p le))
        (cases_lt p places)
