-- The steps of the search: a pin more, a pin that no usable wiring goes on with, and the end.
use Rattle.std.proofs.Common.{rules, ◌≡◌, ℕ, suc, ◌+◌, ◌-◌, ◌^◌, ◌<◌, ◌≤◌, ◌≢◌, Bool, true, false, List, [], ◌∷◌, length, get_or, set, Some, None, Option, sym, ap, ◌∙◌, subst, inl, inr, refl, ⊎_elim, add-one, arith, pow_pos, pow_mono}
use borrow.Author.Count.{below_more}
use Rattle.std.proofs.lemmas.List.{get_or-set_same, get_or-set_other}
use Rattle.std.proofs.lemmas.Bool.{cases_eq, cases_lt, both_ways}
use Rattle.std.proofs.Math.Nat.{two-pow-succ}
use Rattle.tables.specs.Wirings.{pin, Placed, Wires, Alike}
use Rattle.tables.specs.Carry.{carry}
use Rattle.tables.specs.Making.{Takes, Extended}
use Rattle.tables.specs.declared.partial_wiring.PartialWiring.{PartialWiring}
use Rattle.tables.specs.declared.table.Table.{Table}
use Rattle.tables.specs.declared.wiring.Wiring.{Wiring}
use Rattle.tables.specs.Above.{SumsAbove}
use Rattle.tables.specs.Sums.{weighed}
use Rattle.tables.proofs.Reading.{same_inputs}
use Rattle.tables.proofs.Reindex.{total_there}
use Rattle.tables.proofs.Carries.{carry_ext, carry_low, carry_high, carry_up, carry_lt, agree_row, rows_agree}
use Rattle.matching.specs.declared.search.Search.{Search}
use Rattle.matching.specs.Struck.{struck}
use Rattle.matching.specs.Search.{Usable, Found}
use Rattle.matching.specs.Fitting.{Parted}
use Rattle.matching.proofs.Shared.{sums_there}
use Rattle.matching.specs.Begun.{Barred, Begins, Begun, Differs, Placing, FirstFrom, SameSearch, Settled, Within}

some : {R : Type 0} (xs : List R) → 0 < length xs → R
some [] lt = absurd (omega arith)
some (x ∷ xs) lt = x

a_row : {R : Type 0} → Table R → R
a_row table = let pos = pow_pos table.inputs in some table.rows.now (omega (arith, table.whole))

-- tables with unlike numbers of inputs have no usable wiring
pub unlike_sizes : {R : Type 0} (same : R → R → Bool) (card part : Table R) (strikes : List (List Bool)) → card.inputs ≢ part.inputs → Found same card part strikes None
unlike_sizes same card part strikes unlike w usable = unlike (same_inputs card.inputs part.inputs (sym usable.agree.part_rows ∙ part.whole))

-- nor have tables whose rows weigh unlike in all
pub unlike_weights : {R : Type 0} (same : R → R → Bool) (weight : R → ℕ) (alike : (x y : R) → same x y ≡ true → weight x ≡ weight y) (card part : Table R) (strikes : List (List Bool))
    → weighed weight card.rows.now (2 ^ card.inputs) ≢ weighed weight part.rows.now (2 ^ part.inputs) → Found same card part strikes None
unlike_weights same weight alike card part strikes unlike w usable =
    let a = usable.agree in
    unlike (total_there same weight alike card.inputs card.rows.now part.rows.now w a ∙ ap (λ k. weighed weight part.rows.now k) (sym a.part_rows ∙ part.whole))

-- what holds of the lower and of the upper half
halves : (P : ℕ → Type 0) (h m : ℕ) → m ≡ h + h → ((r : ℕ) → r < h → P r) → ((r : ℕ) → r < h → P (h + r)) → (r : ℕ) → r < m → P r
halves P h m e low high r lt = ⊎_elim (low r) (λ ge. let x : h + (r - h) ≡ r = omega arith in subst P x (high (r - h) (omega arith))) (cases_lt r h)

-- the longer wiring gives the next input pin p
pub record Grown (begun : PartialWiring) (p : ℕ) (longer : PartialWiring) : Type 0 where
  pub inputs : longer.inputs ≡ begun.inputs
  pub len : longer.len ≡ begun.len + 1
  pub before : Alike begun.len (pin longer.pins) (pin begun.pins)
  pub next : pin longer.pins begun.len ≡ p

pub grown : (begun : PartialWiring) (p : ℕ) (longer : PartialWiring) → Extended begun p (Some longer) → Grown begun p longer
grown begun p longer e = record { inputs = e.0; len = e.1; before = e.2; next = e.3 }

-- w's first k pins, and then one that they leave free
placed_next : {n k p : ℕ} {w u : ℕ → ℕ} → Alike k u w → u k ≡ p → Placed n k w → p < n → ((i : ℕ) → i < k → w i ≡ p → ⊥) → Placed n (suc k) u
placed_next kept new h lp free = (search rules, search rules)

module _ {R : Type 0} (same : R → R → Bool) (weight : R → ℕ) (alike : (x y : R) → same x y ≡ true → weight x ≡ weight y) (card part : Table R) (strikes : List (List Bool)) (inputs : card.inputs ≡ part.inputs) where
  -- a wiring that carries a row where it does not belong is not usable
  parted_none : (card_sums part_sums : List ℕ) → SumsAbove weight card card_sums → SumsAbove weight part part_sums → (r q : ℕ) (v : ℕ → ℕ) → r < 2 ^ card.inputs → carry card.inputs v r ≡ q
      → Parted same card part card_sums part_sums r q → Usable same card part strikes v → ⊥
  parted_none card_sums part_sums in_card in_part r q v lt e off usable =
      let n = card.inputs in
      let xs = card.rows.now in
      let ys = part.rows.now in
      let d = a_row card in
      let a = usable.agree in
      ⊎_elim
      (λ rows. both_ways (same (get_or xs r d) (get_or ys q d)) (rows d) (ap (λ z. same (get_or xs r d) (get_or ys z d)) (sym e) ∙ agree_row same n xs ys v a r d lt))
      (λ sums. sums (sums_there same weight alike card part inputs card_sums part_sums in_card in_part v a r q lt e))
      off

  -- row 0 is decided before any pin, and the sum above it is that of all weights
  pub parted_first : (card_sums part_sums : List ℕ) → SumsAbove weight card card_sums → SumsAbove weight part part_sums → Parted same card part card_sums part_sums 0 0 → Found same card part strikes None
  parted_first card_sums part_sums in_card in_part off v =
      let n = card.inputs in
      parted_none card_sums part_sums in_card in_part 0 0 v (pow_pos n) (carry_up 0 n v 0 (omega arith) (omega arith)) off

-- what is said of a search later holds of it now, since its tables and strikes stay
module _ {R : Type 0} {m : ℕ} {before after : Search R} (on : SameSearch m before after) where
  pub same_on : {k : ℕ} {last : Search R} → SameSearch k after last → m ≤ k → SameSearch m before last
  same_on more le = record {
    card = more.card ∙ on.card;
    part = more.part ∙ on.part;
    card_sums = more.card_sums ∙ on.card_sums;
    part_sums = more.part_sums ∙ on.part_sums;
    strikes = more.strikes ∙ on.strikes;
    lowers = more.lowers ∙ on.lowers;
    kept = λ r lt. more.kept r (omega arith) ∙ on.kept r lt;
  }

  module _ (same : R → R → Bool) where
    usable_on : (v : ℕ → ℕ) → Usable same before.card.now before.part.now before.strikes.now.struck v → Usable same after.card.now after.part.now after.strikes.now.struck v
    usable_on v usable = rw (on.card, on.part, on.strikes) usable

    usable_back : (v : ℕ → ℕ) → Usable same after.card.now after.part.now after.strikes.now.struck v → Usable same before.card.now before.part.now before.strikes.now.struck v
    usable_back v usable = rw (← on.card, ← on.part, ← on.strikes) usable

    pub barred_on : (begun : PartialWiring) (p : ℕ) → Barred same after begun p → Barred same before begun p
    barred_on begun p barred v usable = barred v (usable_on v usable)

    pub within_on : (begun : PartialWiring) (r : Option Wiring) → Within same after begun r → Within same before begun r
    within_on begun (Some x) h = record {
      inputs = rw (← on.card) h.inputs;
      usable = usable_back (pin x.pins) h.usable;
      begins = h.begins;
      first = λ v usable a. rw (← on.card) (h.first v (usable_on v usable) a);
    }
    within_on begun None h = λ v usable. h v (usable_on v usable)

module _ {R : Type 0} {same : R → R → Bool} {weight : R → ℕ} {search : Search R} {begun : PartialWiring} (h : Begun same weight search begun) where
  abbrev card : Table R
  card = search.card.now

  abbrev part : Table R
  part = search.part.now

  abbrev carried : List ℕ
  carried = search.carried

  abbrev k : ℕ
  k = begun.len

  abbrev w : ℕ → ℕ
  w = pin begun.pins

  part_whole : length part.rows.now ≡ 2 ^ begun.inputs
  part_whole = part.whole ∙ ap (λ n. 2 ^ n) (sym (h.card_inputs ∙ search.same_inputs))

  -- the rows that the next pin decides are carried so much further than those without the bit
  carry_next : {p : ℕ} (u : ℕ → ℕ) → Alike k u w → u k ≡ p → (r : ℕ) → r < 2 ^ k → get_or carried r 0 + 2 ^ p ≡ carry (suc k) u (2 ^ k + r)
  carry_next {p} u kept new r lt = let a = carry_high k u r lt in let b = carry_ext k u w r kept in let m = h.carries r lt in let y : 2 ^ u k ≡ 2 ^ p = ap (λ z. 2 ^ z) new in omega arith

  -- they lie in the part
  pub in_part : (p : ℕ) → Takes begun p → (r : ℕ) → r < 2 ^ k → get_or carried r 0 + 2 ^ p < length part.rows.now
  in_part p takes r lt =
      let u = pin (set begun.pins k p) in
      let few = begun.few in
      let whole = begun.whole in
      let kept : Alike k u w = λ i l. get_or-set_other begun.pins k i p 0 (λ e. omega arith) in
      let new : u k ≡ p = get_or-set_same begun.pins k p 0 (omega (arith, takes.0)) in
      let c = carry_lt begun.inputs (suc k) u (2 ^ k + r) (placed_next kept new (begun.into, begun.apart) takes.1 takes.2) in
      omega (arith, carry_next u kept new r lt, part_whole)

  module _ {p : ℕ} {longer : PartialWiring} (g : Grown begun p longer) where
    abbrev u : ℕ → ℕ
    u = pin longer.pins

    begun_more : (after : Search R) → SameSearch (2 ^ k) search after → struck search.strikes.now.struck k p ≡ false
        → Settled same card.rows.now part.rows.now (2 ^ k) (2 ^ k) (2 ^ p) carried after.carried → Begun same weight after longer
    begun_more after on free s =
        let up : (r : ℕ) → carry longer.len u r ≡ carry (suc k) u r = λ r. ap (λ m. carry m u r) (g.len ∙ add-one k) in
        let low : (r : ℕ) → r < 2 ^ k → carry k w r ≡ carry longer.len u r = λ r lt. sym (carry_ext k u w r g.before) ∙ sym (carry_low k u r lt) ∙ sym (up r) in
        let high : (r : ℕ) → r < 2 ^ k → get_or carried r 0 + 2 ^ p ≡ carry longer.len u (2 ^ k + r) = λ r lt. carry_next u g.before g.next r lt ∙ sym (up (2 ^ k + r)) in
        let two : 2 ^ longer.len ≡ 2 ^ k + 2 ^ k = ap (λ m. 2 ^ m) (g.len ∙ add-one k) ∙ two-pow-succ k in
        record {
          card_inputs = g.inputs ∙ h.card_inputs ∙ ap (λ t. t.inputs) (sym on.card);
          card_sums = rw (on.card, on.card_sums) h.card_sums;
          part_sums = rw (on.part, on.part_sums) h.part_sums;
          lowers = rw (on.part, on.strikes, on.lowers) h.lowers;
          spared = rw on.strikes (λ i li. below_more (λ i. struck search.strikes.now.struck i (u i) ≡ false) k
              (λ i l. ap (λ y. struck search.strikes.now.struck i y) (g.before i l) ∙ h.spared i l) (ap (λ y. struck search.strikes.now.struck k y) g.next ∙ free) i (omega (arith, g.len)));
          carries = halves (λ r. get_or after.carried r 0 ≡ carry longer.len u r) (2 ^ k) (2 ^ longer.len) two
              (λ r l. on.kept r l ∙ h.carries r l ∙ low r l)
              (λ r l. s.carries r l ∙ high r l);
          alike = λ r d lt.
              ap (λ t. same (get_or t.rows.now r d) (get_or after.part.now.rows.now (carry longer.len u r) d)) on.card
              ∙ ap (λ t. same (get_or card.rows.now r d) (get_or t.rows.now (carry longer.len u r) d)) on.part
              ∙ halves (λ r. same (get_or card.rows.now r d) (get_or part.rows.now (carry longer.len u r) d) ≡ true) (2 ^ k) (2 ^ longer.len) two
              (λ r l. ap (λ y. same (get_or card.rows.now r d) (get_or part.rows.now y d)) (sym (low r l)) ∙ h.alike r d l)
              (λ r l. ap (λ y. same (get_or card.rows.now (2 ^ k + r) d) (get_or part.rows.now y d)) (sym (high r l)) ∙ s.alike r d l) r lt;
        }

  -- a row that differs, or the sum above it, shuts out every usable wiring that goes on so
  pub differs_barred : ((x y : R) → same x y ≡ true → weight x ≡ weight y) → (p : ℕ) → k < begun.inputs → Differs same search (2 ^ k) (2 ^ p) → Barred same search begun p
  differs_barred alike p lk f v usable a new =
      let n = card.inputs in
      let r = f.0 in
      let le : suc k ≤ n = omega (arith, h.card_inputs) in
      let top : 2 ^ suc k ≤ 2 ^ n = pow_mono le in
      let two = two-pow-succ k in
      let step = carry_up (suc k) n v (2 ^ k + r) le (omega (arith, f.1)) in
      let b = carry_high k v r f.1 in
      let x = carry_ext k v w r a in
      let m = h.carries r f.1 in
      let y : 2 ^ v k ≡ 2 ^ p = ap (λ z. 2 ^ z) new in
      parted_none same weight alike card part search.strikes.now.struck search.same_inputs search.card_sums.now search.part_sums.now h.card_sums h.part_sums (2 ^ k + r) (get_or carried r 0 + 2 ^ p) v (omega (arith, f.1)) (omega arith) f.2 usable

  -- the rows of the next pin are the same
  pub placed : (p : ℕ) → Takes begun p → struck search.strikes.now.struck k p ≡ false → (after : Search R) → SameSearch (2 ^ k) search after
      → Settled same card.rows.now part.rows.now (2 ^ k) (2 ^ k) (2 ^ p) carried after.carried → (r : Option PartialWiring) → Extended begun p r → Placing same weight search begun p r after
  placed p takes free after on settled (Some longer) e = (e, begun_more (grown begun p longer e) after on free settled)
  placed p takes free after on settled None e = absurd (e takes)

  -- all inputs have their pins
  pub whole : (x : Wiring) → k ≡ begun.inputs → x.inputs ≡ begun.inputs → x.pins ≡ begun.pins → FirstFrom same search begun x
  whole x e en ep =
      let n : ℕ = card.inputs in
      let ek : k ≡ n = e ∙ h.card_inputs in
      let v = pin x.pins in
      let ea : (i : ℕ) → v i ≡ w i = λ i. ap (λ l. pin l i) ep in
      let inside : (i : ℕ) → i < n → i < k = λ i li. omega arith in
      let wires : Wires n v = ((λ i li. let l = x.into i (omega (arith, h.card_inputs)) in omega (arith, h.card_inputs)), (λ i j t. let a = t.0 in let b = t.1 in x.apart i j (omega (arith, h.card_inputs), omega (arith, h.card_inputs), t.2))) in
      record {
        inputs = en ∙ h.card_inputs;
        usable = record {
          agree = rows_agree same n card.rows.now part.rows.now v wires card.whole (part_whole ∙ ap (λ m. 2 ^ m) h.card_inputs)
              (λ r d lr. ap (λ y. same (get_or card.rows.now r d) (get_or part.rows.now y d)) (carry_ext n v w r (λ i _. ea i) ∙ ap (λ m. carry m w r) (sym ek)) ∙ h.alike r d (subst (λ m. r < 2 ^ m) (sym ek) lr));
          spared = λ i li. ap (λ y. struck search.strikes.now.struck i y) (ea i) ∙ h.spared i (inside i li);
        };
        begins = λ i li. ea i;
        first = λ v' usable a. inl (λ i li. a i (inside i li) ∙ sym (ea i));
      }

module _ {begun : PartialWiring} {p : ℕ} {longer : PartialWiring} (g : Grown begun p longer) where
  goes_on : (v : ℕ → ℕ) → Begins begun v → v begun.len ≡ p → Begins longer v
  goes_on v a e i li = below_more (λ i. v i ≡ pin longer.pins i) begun.len (λ i l. a i l ∙ sym (g.before i l)) (e ∙ sym g.next) i (omega (arith, g.len))

  pub none_on : {R : Type 0} (same : R → R → Bool) (search : Search R) → Within same search longer None → Barred same search begun p
  none_on same search none v usable a e = none v usable (goes_on v a e)

  pub first_on : {R : Type 0} {same : R → R → Bool} {search : Search R} (x : Wiring) → begun.len < search.card.now.inputs → ((q : ℕ) → q < p → Barred same search begun q) → FirstFrom same search longer x → FirstFrom same search begun x
  first_on x lk past found =
      let begins : Begins begun (pin x.pins) = λ i li. found.begins i (omega (arith, g.len)) ∙ g.before i li in
      let at_k : pin x.pins begun.len ≡ p = found.begins begun.len (omega (arith, g.len)) ∙ g.next in
      record {
        inputs = found.inputs;
        usable = found.usable;
        begins = begins;
        first = λ v usable a. ⊎_elim
            (λ lt. absurd (past (v begun.len) lt v usable a refl))
            (λ ge. ⊎_elim
            (λ e. found.first v usable (goes_on v a e))
            (λ ne. inr (begun.len, lk, (λ i li. begins i li ∙ sym (a i li)), omega arith))
            (cases_eq (v begun.len) p))
            (cases_lt (v begun.len) p);
      }

module _ {R : Type 0} (same : R → R → Bool) (search : Search R) (begun : PartialWiring) where
  pub none_left : (p : ℕ) → begun.len < search.card.now.inputs → search.card.now.inputs ≤ p → ((q : ℕ) → q < p → Barred same search begun q) → Within same search begun None
  none_left p lk le past v usable a = past (v begun.len) (let l = usable.agree.wires.0 begun.len lk in omega arith) v usable a refl

  module _ (none : begun.len ≡ 0) where
    -- among the wirings that begin with no pin are all
    pub found : (r : Option Wiring) → Within same search begun r → Found same search.card.now search.part.now search.strikes.now.struck r
    found (Some x) h = (
      h.inputs,
      record {
        usable = h.usable;
        first = λ v usable o. ⊎_elim (λ a. absurd (o.2 (sym (a o.0 o.1)))) (λ b. b) (h.first v usable (λ i li. absurd (omega arith)));
      },
    )
    found None h = λ v usable. h v usable (λ i li. absurd (omega arith))
