-- What is proposed and measured depends on which parts stand, and on a wiring's pins for the card's inputs.
use Rattle.std.proofs.Common.{◌≡◌, ℕ, ◌<◌, ◌⊎◌, Bool, List, ap, ◌∙◌}
use Rattle.tables.specs.Wirings.{Alike}
use Rattle.tables.proofs.Alikes.{agree_alike, other_alike, before_alike}
use Rattle.ledger.specs.Ledger.{Part}
use Rattle.ledger.specs.Questions.{NoPart, Proposes, Serves, Spreads}

module _ {R P : Type 0} (same : R → R → Bool) (list : P → ℕ → List R → ℕ → List ℕ) (inputs : ℕ) (card : List R) where
  -- a part of the one kind that stays the lowest is proposed of the other kind too
  pub proposes_among : (A B : Part R → Type 0) (pile : P) (number : ℕ) (w : ℕ → ℕ) (struck : ℕ) → (x : Proposes same list A inputs card pile number w struck) → B x.part
      → ((other : Part R) (v : ℕ → ℕ) → B other → Serves same list B inputs card other v → (other ≡ x.part) ⊎ (number < other.number))
      → Proposes same list B inputs card pile number w struck
  proposes_among A B pile number w struck x stands lowest =
      record { part = x.part; stands = stands; named = x.named; serves = x.serves; lowest = lowest; first = x.first; spared = x.spared; count = x.count }

  -- the same parts stand
  module _ (A B : Part R → Type 0) (to : (p : Part R) → A p → B p) (from : (p : Part R) → B p → A p) where
    pub no_part_over : NoPart same list A inputs card → NoPart same list B inputs card
    no_part_over none p w stands = none p w (from p stands)

    pub proposes_over : (pile : P) (number : ℕ) (w : ℕ → ℕ) (struck : ℕ)
        → Proposes same list A inputs card pile number w struck → Proposes same list B inputs card pile number w struck
    proposes_over pile number w struck x = proposes_among A B pile number w struck x (to x.part x.stands) (λ other v stands. x.lowest other v (from other stands))

    pub spreads_over : (pile : P) (number k : ℕ) → Spreads same list A inputs card pile number k → Spreads same list B inputs card pile number k
    spreads_over pile number k x = record { part = x.part; stands = to x.part x.stands; named = x.named; formula = x.formula; bound = x.bound }

  pub proposes_alike : (standing : Part R → Type 0) (pile : P) (number : ℕ) (v w : ℕ → ℕ) (struck : ℕ) → Alike inputs v w
      → Proposes same list standing inputs card pile number v struck → Proposes same list standing inputs card pile number w struck
  proposes_alike standing pile number v w struck alike x =
      let rows = x.part.rows in
      record {
        part = x.part;
        stands = x.stands;
        named = x.named;
        serves = (x.serves.0, agree_alike inputs v w alike same card rows x.serves.1);
        lowest = x.lowest;
        first = λ u serves other. before_alike inputs v w alike u (x.first u serves (other_alike inputs v w alike u other));
        spared = λ i li. x.spared i li ∙ ap (list pile inputs rows) (alike i li);
        count = x.count;
      }
