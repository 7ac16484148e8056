-- Agreement as a test that computes, and with it a worked example of agreement.
use Rattle.std.proofs.Common.{◌≡◌, ℕ, ◌^◌, ◌<◌, Bool, true, false, not, ◌&&◌, ◌||◌, eqb, ltb, List, [], ◌∷◌, length, get_or, sym, ap, ◌∙◌, inl, inr, ⊎_elim, arith}
use Rattle.std.proofs.lemmas.List.{get_or_default}
use Rattle.std.proofs.lemmas.Bool.{eqb-true, eq-eqb, ltb-true, lt-ltb, cases_eq, and_parts, and_from, or_cases, or_left, or_right, not-true, both_ways, ne_eqb, false≢true}
use Rattle.rows.specs.declared.on_off.OnOff.{OnOff}
use Rattle.rows.specs.declared.on_off.OnOff.TheVariants.{Off}
use Rattle.rows.specs.Kinds.{on_off_same}
use Rattle.tables.specs.Wirings.{pin, Wires, Alike}
use Rattle.tables.specs.Agreement.{Agree}
use Rattle.tables.specs.Carry.{carry}
use Rattle.tables.proofs.Alikes.{agree_alike}
use Rattle.tables.proofs.Carries.{carry_lt, agree_row, rows_agree}
use Rattle.worked_facts.specs.Cases.{Among, Holds, agreeing}
use Rattle.worked_facts.proofs.Tests.{all_below, all_below_at, all_below_from, first, first_alike, all_lists, all_lists_at}

-- two inputs that have one pin are one input
abbrev apart_test : (ℕ → ℕ) → ℕ → ℕ → Bool
apart_test w i j = not (eqb (w i) (w j)) || eqb i j

apart_from : (w : ℕ → ℕ) (i j : ℕ) → apart_test w i j ≡ true → w i ≡ w j → i ≡ j
apart_from w i j t e =
    ⊎_elim
    (λ differ. absurd (both_ways (eqb (w i) (w j)) (not-true (eqb (w i) (w j)) differ) (eq-eqb (w i) (w j) e)))
    (λ one. eqb-true i j one)
    (or_cases (not (eqb (w i) (w j))) (eqb i j) t)

apart_to : (w : ℕ → ℕ) (i j : ℕ) → (w i ≡ w j → i ≡ j) → apart_test w i j ≡ true
apart_to w i j h =
    ⊎_elim
    (λ e. or_right (not (eqb (w i) (w j))) (eqb i j) (eq-eqb i j (h e)))
    (λ ne. or_left (not (eqb (w i) (w j))) (eqb i j) (ap not (ne_eqb (w i) (w j) ne)))
    (cases_eq (w i) (w j))

abbrev low_test : ℕ → (ℕ → ℕ) → Bool
low_test n w = all_below n (λ i. ltb (w i) n)

abbrev all_apart_test : ℕ → (ℕ → ℕ) → Bool
all_apart_test n w = all_below n (λ i. all_below n (apart_test w i))

-- card row r is the same as the part row that it is carried to
abbrev row_test : ℕ → List OnOff → List OnOff → (ℕ → ℕ) → ℕ → Bool
row_test n card part w r = on_off_same (get_or card r Off) (get_or part (carry n w r) Off)

abbrev sizes_test : ℕ → List OnOff → List OnOff → Bool
sizes_test n card part = eqb (length card) (2 ^ n) && eqb (length part) (2 ^ n)

abbrev pub agree_test : ℕ → List OnOff → List OnOff → (ℕ → ℕ) → Bool
agree_test n card part w =
    let rows = all_below (2 ^ n) (row_test n card part w) in
    (low_test n w && all_apart_test n w) && (sizes_test n card part && rows)

module _ (n : ℕ) (card part : List OnOff) where
  pub test_agree : (w : ℕ → ℕ) → agree_test n card part w ≡ true → Agree on_off_same n w card part
  test_agree w t =
      let halves = and_parts (low_test n w && all_apart_test n w) (sizes_test n card part && all_below (2 ^ n) (row_test n card part w)) t in
      let wired = and_parts (low_test n w) (all_apart_test n w) halves.0 in
      let filled = and_parts (sizes_test n card part) (all_below (2 ^ n) (row_test n card part w)) halves.1 in
      let sized = and_parts (eqb (length card) (2 ^ n)) (eqb (length part) (2 ^ n)) filled.0 in
      let card_size : length card ≡ 2 ^ n = eqb-true (length card) (2 ^ n) sized.0 in
      let part_size : length part ≡ 2 ^ n = eqb-true (length part) (2 ^ n) sized.1 in
      let wires : Wires n w = (
        (λ i li. ltb-true (w i) n (all_below_at n (λ i. ltb (w i) n) wired.0 i li)),
        (λ i j h. apart_from w i j (all_below_at n (apart_test w i) (all_below_at n (λ i. all_below n (apart_test w i)) wired.1 i h.0) j h.1) h.2),
      ) in
      rows_agree on_off_same n card part w wires card_size part_size (λ r d lr.
      let there : carry n w r < 2 ^ n = carry_lt n n w r wires in
      ap (λ x. on_off_same x (get_or part (carry n w r) d)) (get_or_default card r d Off (omega arith))
      ∙ ap (λ x. on_off_same (get_or card r Off) x) (get_or_default part (carry n w r) d Off (omega arith))
      ∙ all_below_at (2 ^ n) (row_test n card part w) filled.1 r lr)

  pub agree_tests : (w : ℕ → ℕ) → Agree on_off_same n w card part → agree_test n card part w ≡ true
  agree_tests w a =
      and_from (low_test n w && all_apart_test n w) (sizes_test n card part && all_below (2 ^ n) (row_test n card part w))
      (and_from (low_test n w) (all_apart_test n w)
      (all_below_from n (λ i. ltb (w i) n) (λ i li. lt-ltb (w i) n (a.wires.0 i li)))
      (all_below_from n (λ i. all_below n (apart_test w i)) (λ i li. all_below_from n (apart_test w i) (λ j lj. apart_to w i j (λ e. a.wires.1 i j (li, lj, e))))))
      (and_from (sizes_test n card part) (all_below (2 ^ n) (row_test n card part w))
      (and_from (eqb (length card) (2 ^ n)) (eqb (length part) (2 ^ n)) (eq-eqb (length card) (2 ^ n) a.card_rows) (eq-eqb (length part) (2 ^ n) a.part_rows))
      (all_below_from (2 ^ n) (row_test n card part w) (λ r lr. agree_row on_off_same n card part w a r Off lr)))

-- a test of each list of pins that passes
abbrev pub all_agreeing : ℕ → List OnOff → List OnOff → (List ℕ → Bool) → Bool
all_agreeing n card part f = all_lists n n (λ pins. let asked = f pins in not (agree_test n card part (pin pins)) || asked)

pub all_agreeing_at : (n : ℕ) (card part : List OnOff) (f : List ℕ → Bool) → all_agreeing n card part f ≡ true → (v : ℕ → ℕ) → Agree on_off_same n v card part → f (first n v) ≡ true
all_agreeing_at n card part f t v a =
    let pins : List ℕ = first n v in
    let passes = agree_tests n card part (pin pins) (agree_alike n v (pin pins) (first_alike n v) on_off_same card part a) in
    ⊎_elim
    (λ fails. absurd (both_ways (agree_test n card part (pin pins)) (not-true (agree_test n card part (pin pins)) fails) passes))
    (λ asked. asked)
    (or_cases (not (agree_test n card part (pin pins))) (f pins) (all_lists_at n n (λ pins. not (agree_test n card part (pin pins)) || f pins) t v a.wires.0))

abbrev pub alike_test : ℕ → (ℕ → ℕ) → (ℕ → ℕ) → Bool
alike_test n v w = all_below n (λ i. eqb (v i) (w i))

abbrev among_test : ℕ → (ℕ → ℕ) → List (List ℕ) → Bool
among_test n v [] = false
among_test n v (u ∷ us) = let rest = among_test n v us in alike_test n v (pin u) || rest

test_among : (n : ℕ) (v w : ℕ → ℕ) → Alike n v w → (wirings : List (List ℕ)) → among_test n w wirings ≡ true → Among n v wirings
test_among n v w same [] t = absurd (false≢true t)
test_among n v w same (u ∷ us) t =
    ⊎_elim
    (λ here. inl (λ i li. same i li ∙ eqb-true (w i) (pin u i) (all_below_at n (λ i. eqb (w i) (pin u i)) here i li)))
    (λ rest. inr (test_among n v w same us rest))
    (or_cases (alike_test n w (pin u)) (among_test n w us) t)

-- each wiring that is given passes
abbrev each_test : ℕ → List OnOff → List OnOff → List (List ℕ) → Bool
each_test n card part [] = true
each_test n card part (u ∷ us) = let rest = each_test n card part us in agree_test n card part (pin u) && rest

each_agree : (n : ℕ) (card part : List OnOff) (v : ℕ → ℕ) (wirings : List (List ℕ)) → each_test n card part wirings ≡ true → Among n v wirings → Agree on_off_same n v card part
each_agree n card part v [] t m = absurd m
each_agree n card part v (u ∷ us) t m =
    let both = and_parts (agree_test n card part (pin u)) (each_test n card part us) t in
    ⊎_elim
    (λ same. agree_alike n (pin u) v (λ i li. sym (same i li)) on_off_same card part (test_agree n card part (pin u) both.0))
    (λ rest. each_agree n card part v us both.1 rest)
    m

abbrev pub agreeing_test : ℕ → List OnOff → List OnOff → List (List ℕ) → Bool
agreeing_test n card part wirings = each_test n card part wirings && all_agreeing n card part (λ pins. among_test n (pin pins) wirings)

pub agreeing_holds : (n : ℕ) (card part : List OnOff) (wirings : List (List ℕ)) → agreeing_test n card part wirings ≡ true → Holds (agreeing n card part wirings)
agreeing_holds n card part wirings t v =
    let given : List ℕ → Bool = λ pins. among_test n (pin pins) wirings in
    let both = and_parts (each_test n card part wirings) (all_agreeing n card part given) t in (
      (λ a. test_among n v (pin (first n v)) (first_alike n v) wirings (all_agreeing_at n card part given both.1 v a)),
      (λ m. each_agree n card part v wirings both.0 m),
    )
