-- At most so many wirings keep the lists.
use Rattle.std.proofs.Common.{◌≡◌, ℕ, zero, suc, ◌+◌, ◌*◌, ◌<◌, ◌≤◌, not, eqb, List, [], ◌∷◌, map, length, get_or, take, sum_by, count_by, filter, sym, refl, ap, ◌∙◌, subst, inl, mul-le-mul, add-one, arith}
use Rattle.std.specs.List.{range_with_len, flat_map}
use Rattle.std.proofs.lemmas.List.FromFn.{length-range_with_len, get_or-range_with_len}
use Rattle.std.proofs.lemmas.List.Filters.{sum_by-filter_both}
use Rattle.std.proofs.lemmas.List.{length-map, take_all}
use Rattle.std.proofs.lemmas.List.Sums.{sum_by_more, length-filter}
use Rattle.std.proofs.lemmas.Bool.{eq-eqb, ne_eqb}
use Rattle.tables.specs.Sums.{sum_to}
use Rattle.tables.specs.Wirings as wirings
use Rattle.tables.specs.Wirings.{pin, Wires}
use Rattle.tables.proofs.Sums.{sum_reindex}
use Rattle.tables.proofs.Onto.{back, back_into, there_back, back_there}
use Rattle.lists.specs.Lists.{list, lists, equal, Keeps}
use Rattle.lists.specs.Spread.{times, spread}
use Rattle.lists.specs.Counting.{Mem, AtMost}
use Rattle.lists.specs.declared.lists.Lists.{Lists}
use Rattle.lists.proofs.Rows.{length-lists, sum_from}
use Rattle.lists.proofs.Members.{mem-get_or, mem_sum, mem_map, mem_joined, mem_kept, kept_mem, length-joined}
use Rattle.lists.proofs.Times.{equal_decides, one, one_same, times_cons, apart_le, Level}
use Rattle.lists.proofs.Running.{running, spread_running}

-- a pin's list is what `of` says
module _ (of : ℕ → List ℕ) where
  abbrev without : ℕ → List ℕ → List ℕ
  without p pins = filter (λ q. not (eqb p q)) pins

  -- each way to give inputs with these lists pins of their own with equal lists
  abbrev ways : List (List ℕ) → List ℕ → List (List ℕ)
  ways [] pins = [] ∷ []
  ways (x ∷ xs) pins = flat_map (λ p. map (λ w. p ∷ w) (ways xs (without p pins))) (filter (λ p. equal x (of p)) pins)

  -- how many of the pins have a list
  abbrev held : List ℕ → List ℕ → ℕ
  held x pins = count_by (λ p. equal x (of p)) pins

  held_without : (x : List ℕ) (p : ℕ) (pins : List ℕ) → Mem p pins → one x (of p) + held x (without p pins) ≤ held x pins
  held_without x p pins m =
      let add : ℕ → ℕ = λ q. one x (of q) in
      omega (arith, sum_by-filter_both (eqb p) (λ q. not (eqb p q)) (λ _. refl) add pins, mem_sum add p (filter (eqb p) pins) (mem_kept (eqb p) p pins m (eq-eqb p p refl)))

  ways_count : (xs : List (List ℕ)) (pins : List ℕ) → ((x : List ℕ) → held x pins ≤ times x xs) → length (ways xs pins) ≤ running xs
  ways_count [] pins le = omega arith
  ways_count (x ∷ xs) pins le =
      let fitting = filter (λ p. equal x (of p)) pins in
      let all = length-joined (λ p. map (λ w. p ∷ w) (ways xs (without p pins))) (running xs) fitting (λ p m.
      let k = kept_mem (λ q. equal x (of q)) p pins m in
      let same = (equal_decides x (of p)).0 k.1 in
      omega (arith, length-map (ways xs (without p pins)) (λ w. p ∷ w), ways_count xs (without p pins) (λ y. omega (arith, le y, times_cons y x xs, held_without y p pins k.0, ap (one y) same)))) in
      let most : length fitting * running xs ≤ suc (times x xs) * running xs = mul-le-mul (omega (arith, le x, times_cons x x xs, one_same x x refl, length-filter (λ p. equal x (of p)) pins)) (omega arith) in
      omega arith

  ways_all : (xs : List (List ℕ)) (pins w : List ℕ) → length w ≡ length xs → ((i : ℕ) → i < length xs → get_or xs i [] ≡ of (pin w i)) → ((i : ℕ) → i < length xs → Mem (pin w i) pins) → wirings.Apart (length xs) (pin w) → Mem w (ways xs pins)
  ways_all [] pins [] long keeps inside apart = inl refl
  ways_all [] pins (p ∷ w) long keeps inside apart = absurd (omega arith)
  ways_all (x ∷ xs) pins [] long keeps inside apart = absurd (omega arith)
  ways_all (x ∷ xs) pins (p ∷ w) long keeps inside apart =
      mem_joined (λ q. map (λ v. q ∷ v) (ways xs (without q pins))) (p ∷ w) p (filter (λ q. equal x (of q)) pins)
      (mem_kept (λ q. equal x (of q)) p pins (inside 0 (omega arith)) ((equal_decides x (of p)).1 (keeps 0 (omega arith))))
      (mem_map (λ v. p ∷ v) w (ways xs (without p pins))
      (ways_all xs (without p pins) w (omega arith) (λ i li. keeps (suc i) (omega arith))
      (λ i li. mem_kept (λ q. not (eqb p q)) (pin w i) pins (inside (suc i) (omega arith)) (ap not (ne_eqb p (pin w i) (λ e. let z : 0 ≡ suc i = apart 0 (suc i) (omega arith, omega arith, e) in omega arith))))
      (λ i j t. let z : suc i ≡ suc j = apart (suc i) (suc j) (let a = t.0 in omega arith, let a = t.1 in omega arith, t.2) in omega arith)))

mem_counting : (n i : ℕ) → i < n → Mem i (range_with_len 0 n)
mem_counting n i lt = subst (λ j. Mem j (range_with_len 0 n)) (get_or-range_with_len 0 n i 0 lt ∙ omega arith) (mem-get_or (range_with_len 0 n) i 0 (omega (arith, length-range_with_len 0 n)))

-- a sum over a list, by its places
sum_front : {X : Type 0} (f : X → ℕ) (d : X) (xs : List X) (k : ℕ) → k ≤ length xs → sum_by f (take k xs) ≡ sum_to k (λ i. f (get_or xs i d))
sum_front f d xs zero le = refl
sum_front f d xs (suc k) le = ap (λ n. sum_by f (take n xs)) (sym (add-one k)) ∙ sum_by_more f xs k d (omega arith) ∙ ap (λ n. n + f (get_or xs k d)) (sum_front f d xs k (omega arith))

sum_all : {X : Type 0} (f : X → ℕ) (d : X) (xs : List X) (n : ℕ) → length xs ≡ n → sum_by f xs ≡ sum_to n (λ i. f (get_or xs i d))
sum_all f d xs n e = ap (sum_by f) (sym (take_all n xs (omega arith))) ∙ sum_front f d xs n (omega arith)

module _ (card part : Lists) (n : ℕ) (inputs : card.inputs ≡ n) (pins : part.inputs ≡ n) where
  part_times : (x : List ℕ) → times x (lists part) ≡ sum_to n (λ p. one x (list part p))
  part_times x = sum_all (one x) [] (lists part) n (length-lists part ∙ pins)

  pins_held : (x : List ℕ) → held (list part) x (range_with_len 0 n) ≡ times x (lists part)
  pins_held x = sum_from (one x) [] (lists part) 0 n (omega (arith, length-lists part, pins))

  -- a wiring that keeps the lists gives each list as many pins as inputs
  kept_level : (w : ℕ → ℕ) → Wires n w → Keeps n card part w → Level (lists card) (lists part)
  kept_level w h keeps x =
      sum_all (one x) [] (lists card) n (length-lists card ∙ inputs)
      ∙ sum_reindex n w (back n w h) (λ i. one x (list card i)) (λ p. one x (list part p)) h.0 (back_into n w h) (back_there n w h) (there_back n w h) (λ i li. ap (one x) (keeps i li))
      ∙ sym (part_times x)

  pub spread_bound : AtMost (λ w. Wires n w × Keeps n card part w) n (spread (lists card) (lists part))
  spread_bound [] a each = omega arith
  spread_bound (w ∷ ws) a each =
      let first = (each w (inl refl)).1 in
      let level = kept_level (pin w) first.0 first.1 in
      let long : length (lists card) ≡ n = length-lists card ∙ inputs in
      let listed : (v : List ℕ) → Mem v (w ∷ ws) → Mem v (ways (list part) (lists card) (range_with_len 0 n)) = λ v m.
      (let k = each v m in
      ways_all (list part) (lists card) (range_with_len 0 n) v (k.0 ∙ sym long) (λ i li. k.1.1 i (omega arith))
      (λ i li. mem_counting n (pin v i) (k.1.0.0 i (omega arith)))
      (λ i j t. k.1.0.1 i j (let l = t.0 in omega arith, let l = t.1 in omega arith, t.2))) in
      omega (arith, apart_le (w ∷ ws) (ways (list part) (lists card) (range_with_len 0 n)) a listed, ways_count (list part) (lists card) (range_with_len 0 n) (λ x. omega (arith, pins_held x, level x)), spread_running (lists card) (lists part) level)
