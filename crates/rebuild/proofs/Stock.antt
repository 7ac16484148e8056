-- The stock on a shelf: one part more, and what stands there.
use Rattle.std.proofs.Common.{◌≡◌, ℕ, suc, ◌+◌, ◌*◌, ◌<◌, ◌⊎◌, Bool, true, leb, List, [], ◌∷◌, ◌++◌, map, length, get_or, take, drop, Ok, Err, Result, IfErr, Contains, sym, refl, ap, ◌∙◌, subst, inl, inr, ⊎_elim, arith}
use Rattle.std.proofs.Math.Seq.{split_at}
use Rattle.std.proofs.lemmas.Bool.{leb-true}
use Rattle.std.proofs.lemmas.List.{map_push, take_more}
use Rattle.refusals.specs.Due.{Due, none}
use Rattle.refusals.specs.Numbers.{number}
use Rattle.refusals.specs.declared.refusal.Refusal.{Refusal}
use Rattle.tables.specs.declared.table.Table.{Table}
use Rattle.tables.specs.Wirings.{pin}
use Rattle.lists.specs.Counting.{Mem}
use Rattle.lists.proofs.Members.{mem-get_or}
use Rattle.ledger.specs.Ledger.{Part, unless, change_due, after, ledger}
use Rattle.ledger.specs.Questions.{Proposes}
use Rattle.ledger.specs.Fixed.{Once}
use Rattle.ledger.specs.Refused.{enter_due}
use Rattle.ledger.proofs.Questions.{nothing_asked, nothing_lawful}
use Rattle.ledger.proofs.After.{once_from}
use Rattle.ledger.proofs.Standing.{mem_once}
use Rattle.inventory.specs.Slots.{labelled, full, memory_due}
use Rattle.inventory.specs.Stocking.{Entered}
use Rattle.inventory.specs.declared.proposal.Proposal.{Proposal}
use Rattle.inventory.specs.declared.shelf.Shelf.{Shelf}
use Rattle.runs.specs.Holding.{Holds}
use Rattle.runs.specs.Transcript.{answered}
use Rattle.runs.specs.declared.answer.Grant.TheVariants.{Done}
use Rattle.runs.proofs.Steps.{does_leads}
use Rattle.runs.proofs.Stock.{enter_same}
use Rattle.runs.proofs.Turns.{ledger_more}
use Rattle.rebuild.specs.Stocking.{entry, stood_after, stood, entering, AllStand, FirstRefused, NotShown, NoMeans}
use Rattle.rebuild.specs.declared.failure.Failure.{Failure}
use Rattle.rebuild.specs.declared.failure.Failure.TheVariants.{Usage, NotRows, NotAPart, Refused, StockSize, Memory, Output}
use Rattle.rebuild.specs.declared.failure.Side.TheVariants.{Card, Readings, Part as PartSide}
use Rattle.refusals.proofs.Dues.{refusal≢none}
use Rattle.rebuild.specs.Trying.{Serves}
use Rattle.rebuild.specs.declared.job.Stocked.{Stocked}

module _ {R : Type 0} where
  stood_more : (parts : List (Part R)) (before : List (Stocked R)) (part : Stocked R)
      → stood_after parts (before ++ part ∷ []) ≡ entry part ∷ stood_after parts before
  stood_more parts [] part = refl
  stood_more parts (q ∷ before) part = stood_more (entry q ∷ parts) before part

  stays : (p : Part R) (parts : List (Part R)) (stock : List (Stocked R)) → Mem p parts → Mem p (stood_after parts stock)
  stays p parts [] m = m
  stays p parts (q ∷ stock) m = stays p (entry q ∷ parts) stock (inr m)

  mem_stood : (parts : List (Part R)) (stock : List (Stocked R)) (part : Stocked R) → Mem part stock → Mem (entry part) (stood_after parts stock)
  mem_stood parts [] part m = absurd m
  mem_stood parts (q ∷ stock) part (inl e) = stays (entry part) (entry q ∷ parts) stock (inl (ap entry e))
  mem_stood parts (q ∷ stock) part (inr m) = mem_stood (entry q ∷ parts) stock part m

  abbrev Found : Part R → List (Stocked R) → Type 0
  Found p stock = (part : Stocked R) × Contains stock part × (p ≡ entry part)

  later : (p : Part R) (q : Stocked R) (stock : List (Stocked R)) → Found p stock → Found p (q ∷ stock)
  later p q stock (part, (k, lt, is), e) = (part, (suc k, omega (arith, lt), is), e)

  stood_mem : (parts : List (Part R)) (stock : List (Stocked R)) (p : Part R) → Mem p (stood_after parts stock) → Mem p parts ⊎ Found p stock
  stood_mem parts [] p m = inl m
  stood_mem parts (q ∷ stock) p m =
      ⊎_elim
      (λ here. ⊎_elim (λ e. inr (q, (0, omega arith, refl), e)) (λ m. inl m) here)
      (λ found. inr (later p q stock found))
      (stood_mem (entry q ∷ parts) stock p m)

  granted : (d : Due) (later parts : List (Part R)) → d ≡ none → unless d later parts ≡ later
  granted d later parts e = rw e refl

  module _ (slots : ℕ) where
    -- a part that is not refused stands too
    pub stand_more : (before : List (Stocked R)) (part : Stocked R) → AllStand slots before
        → change_due slots (stood before) (entering part) ≡ none → AllStand slots (before ++ part ∷ [])
    stand_more before part stand nothing =
        ap (ledger slots) (map_push entering before part) ∙ ledger_more slots [] (map entering before) (entering part)
        ∙ ap (λ parts. after slots parts (entering part)) stand ∙ granted _ (entry part ∷ stood before) (stood before) nothing
        ∙ sym (stood_more [] before part)

    pub stand_once : (stock : List (Stocked R)) → AllStand slots stock → Once (stood stock)
    stand_once stock stand = subst Once stand (once_from slots [] (map entering stock) tt)

  -- what fit proposes of the stock serves the card
  pub proposal_serves : {P : Type 0} (same : R → R → Bool) (list : P → ℕ → List R → ℕ → List ℕ) (card : Table R) (pile : P) (stock : List (Stocked R)) (proposal : Proposal)
      → AllStand (length stock) stock → proposal.wiring.inputs ≡ card.inputs
      → Proposes same list (λ part. Mem part (stood stock)) card.inputs card.rows.now pile proposal.number (pin proposal.wiring.pins) proposal.struck
      → Serves same card stock proposal
  proposal_serves same list card pile stock proposal stand sized x = record {
    sized = sized;
    some = ⊎_elim
        (λ m. absurd m)
        (λ found. (found.0, found.1, sym (ap (λ (p : Part R). p.number) found.2) ∙ x.named))
        (stood_mem [] stock x.part x.stands);
    each = λ part (k, lt, is) named.
        let stands = mem_stood [] stock part (subst (λ p. Mem p stock) is (mem-get_or stock k part lt)) in
        let one : x.part ≡ entry part = mem_once (stood stock) x.part (entry part) (stand_once (length stock) stock stand) x.stands stands (x.named ∙ sym named) in
        rw one at x.serves;
  }

  module _ (same : R → R → Bool) (shelf : Shelf) (memory : List R) (long : length memory ≡ shelf.count * 1024) (part : Stocked R) where
    abbrev wanted : Due
    wanted = enter_due (memory_due shelf.count (length memory)) (labelled part.number shelf.slots) (full shelf.count shelf.slots) part.number part.table.inputs (length part.table.rows.now)

    abbrev Enters : Result (Unit {0}) Refusal → Shelf → List R → Type 0
    Enters = Entered wanted part.number part.table.inputs part.table.rows.now shelf memory

    -- what the shelf refuses a part with, the ledger does too
    due_same : (parts : List (Part R)) → Holds shelf.slots memory parts → change_due shelf.count parts (entering part) ≡ wanted
    due_same parts h = enter_same h shelf.count long part.number part.table.inputs (length part.table.rows.now)

    -- the shelf that a part was entered on holds it too
    entered_holds : (shelf' : Shelf) (memory' : List R) → Enters (Ok tt) shelf' memory' → (parts : List (Part R)) → Holds shelf.slots memory parts
        → Holds shelf'.slots memory' (entry part ∷ parts)
    entered_holds shelf' memory' so parts h =
        let leads = does_leads nothing_asked nothing_lawful shelf memory long (entering part) (answered (λ _. Done) (Ok (tt {0}))) shelf' memory' (Ok (tt {0}), refl, so) in
        subst (λ standing. Holds shelf'.slots memory' standing)
        (granted _ (entry part ∷ parts) parts (due_same parts h ∙ so.0))
        (leads.1 parts h).1

    -- the part is the next of the stock, and those before it stand
    module _ (stock : List (Stocked R)) (k : ℕ) (count : shelf.count ≡ length stock) (lt : k < length stock) (is : part ≡ get_or stock k part)
        (held : Holds shelf.slots memory (stood (take k stock))) (stand : AllStand (length stock) (take k stock)) where
      next : take (k + 1) stock ≡ take k stock ++ part ∷ []
      next = take_more stock k part lt ∙ ap (λ p. take k stock ++ p ∷ []) (sym is)

      due_is : change_due (length stock) (stood (take k stock)) (entering part) ≡ wanted
      due_is = ap (λ n. change_due n (stood (take k stock)) (entering part)) (sym count) ∙ due_same (stood (take k stock)) held

      pub holds_next : (shelf' : Shelf) (memory' : List R) → Enters (Ok tt) shelf' memory' → Holds shelf'.slots memory' (stood (take (k + 1) stock))
      holds_next shelf' memory' so =
          subst (λ parts. Holds shelf'.slots memory' parts) (sym (ap stood next ∙ stood_more [] (take k stock) part)) (entered_holds shelf' memory' so (stood (take k stock)) held)

      pub stands_next : (shelf' : Shelf) (memory' : List R) → Enters (Ok tt) shelf' memory' → AllStand (length stock) (take (k + 1) stock)
      stands_next shelf' memory' so = subst (AllStand (length stock)) (sym next) (stand_more (length stock) (take k stock) part stand (due_is ∙ so.0))

      pub refused_next : (shelf' : Shelf) (memory' : List R) (reason : Refusal) → Enters (Err reason) shelf' memory' → FirstRefused (length stock) stock part.number (number reason)
      refused_next shelf' memory' reason so = record {
        before = take k stock;
        part = part;
        after = drop (suc k) stock;
        place = split_at stock k part lt ∙ ap (λ p. take k stock ++ p ∷ drop (suc k) stock) (sym is);
        named = refl;
        stand = stand;
        due = due_is ∙ so.0;
      }

  -- each part of the stock is entered after those before it
  abbrev AllEnter : ℕ → List (Part R) → List (Stocked R) → Type 0
  AllEnter slots parts [] = Unit {0}
  AllEnter slots parts (part ∷ stock) = (change_due slots parts (entering part) ≡ none) × AllEnter slots (entry part ∷ parts) stock

  none_refused : (slots : ℕ) (parts : List (Part R)) (stock before after : List (Stocked R)) (part : Stocked R) → AllEnter slots parts stock → stock ≡ before ++ part ∷ after
      → change_due slots (stood_after parts before) (entering part) ≡ none
  none_refused slots parts [] [] after part enters e = absurd (omega (arith, ap length e))
  none_refused slots parts [] (b ∷ before) after part enters e = absurd (omega (arith, ap length e))
  none_refused slots parts (q ∷ stock) [] after part enters e = let same : q ≡ part = cc in rw same at enters.0
  none_refused slots parts (q ∷ stock) (b ∷ before) after part enters e =
      let same : q ≡ b = cc in
      let rest : stock ≡ before ++ part ∷ after = cc in
      none_refused slots (entry b ∷ parts) stock before after part (rw same at enters.1) rest

  -- where each part is entered, a repair fails only by the memory or the output
  no_means : (stock : List (Stocked R)) (result : Result (Unit {0}) Failure) → IfErr result (NotShown stock) → leb 1 (length stock) ≡ true → leb (length stock) 64 ≡ true → AllEnter (length stock) [] stock → IfErr result NoMeans
  no_means stock (Ok x) shown some few enters = tt
  no_means stock (Err failure) (inl e) some few enters = inl e
  no_means stock (Err Usage) (inr e) some few enters = absurd e
  no_means stock (Err (NotRows side)) (inr e) some few enters = absurd e
  no_means stock (Err (NotAPart place)) (inr e) some few enters = absurd e
  no_means stock (Err (Refused Card reason)) (inr e) some few enters = absurd e
  no_means stock (Err (Refused Readings reason)) (inr e) some few enters = absurd e
  no_means stock (Err (Refused (PartSide n) reason)) (inr e) some few enters =
      absurd (refusal≢none (number reason) (sym e.due ∙ none_refused (length stock) [] stock e.before e.after e.part enters e.place))
  no_means stock (Err StockSize) (inr e) some few enters = absurd (⊎_elim (λ none. omega (arith, none, leb-true 1 (length stock) some)) (λ many. omega (arith, many, leb-true (length stock) 64 few)) e)
  no_means stock (Err Memory) (inr e) some few enters = inr refl
  no_means stock (Err Output) (inr e) some few enters = absurd e

  pub no_means_two : (a b : Stocked R) (result : Result (Unit {0}) Failure) → IfErr result (NotShown (a ∷ b ∷ []))
      → change_due 2 [] (entering a) ≡ none → change_due 2 (entry a ∷ []) (entering b) ≡ none → IfErr result NoMeans
  no_means_two a b result shown first second = no_means (a ∷ b ∷ []) result shown refl refl (first, (second, tt))

  pub no_means_three : (a b c : Stocked R) (result : Result (Unit {0}) Failure) → IfErr result (NotShown (a ∷ b ∷ c ∷ []))
      → change_due 3 [] (entering a) ≡ none → change_due 3 (entry a ∷ []) (entering b) ≡ none → change_due 3 (entry b ∷ entry a ∷ []) (entering c) ≡ none → IfErr result NoMeans
  no_means_three a b c result shown first second third = no_means (a ∷ b ∷ c ∷ []) result shown refl refl (first, (second, (third, tt)))
