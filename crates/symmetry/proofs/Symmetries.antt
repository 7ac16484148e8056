-- Symmetry of the inputs of a table.
use Rattle.std.proofs.Common.{◌≡◌, ℕ, ◌^◌, ◌<◌, ◌≤◌, Bool, true, Option, Some, None, List, get_or, sym, refl, ap, ◌∙◌, ⊎_elim, arith}
use Rattle.std.proofs.lemmas.Bool.{cases_eq, cases_lt}
use Rattle.std.specs.Option.{MatchOption, unwrap_or}
use Rattle.rows.specs.Laws.{RowKindLaws}
use Rattle.tables.specs.Agreement.{bit}
use Rattle.tables.proofs.Digits.{bit_lt}
use Rattle.symmetry.specs.Symmetry.{exchanged, Symmetric, Class}
use Rattle.symmetry.proofs.Exchanges.{swap_here, swap_there, exchanged_lt, bit_exchanged, exchanged_alike, exchanged_turned, exchanged_back, exchanged_round}

module _ {R : Type 0} (same : R → R → Bool) (weight : R → ℕ) (laws : RowKindLaws same weight) (n : ℕ) (rows : List R) where
  abbrev Like : ℕ → ℕ → R → Type 0
  Like r q d = same (get_or rows r d) (get_or rows q d) ≡ true

  -- it is enough to ask the rows with i on and k off
  pub of_moved : (i k : ℕ) → i < n → k < n → ((r : ℕ) (d : R) → r < 2 ^ n → bit i r ≡ 1 → bit k r ≡ 0 → same (get_or rows r d) (get_or rows (exchanged n i k r) d) ≡ true) → Symmetric same n rows i k
  of_moved i k li lk asked r d lr =
      let q = exchanged n i k r in
      let bi : bit i q ≡ bit k r = bit_exchanged n i k r i li ∙ ap (λ x. bit x r) (swap_here i k i refl) in
      let bk : bit k q ≡ bit i r = bit_exchanged n i k r k lk ∙ ap (λ x. bit x r) (swap_there i k k refl) in
      let si = bit_lt i r in
      let sk = bit_lt k r in
      ⊎_elim
      (λ e. ap (λ x. same (get_or rows r d) (get_or rows x d)) (exchanged_alike n i k r lr e) ∙ laws.reflexive (get_or rows r d))
      (λ ne. ⊎_elim
      (λ on. asked r d lr on (omega (arith, on, ne, si, sk)))
      (λ off.
      let there = asked q d (exchanged_lt n i k r) (bi ∙ omega (arith, off, ne, si, sk)) (bk ∙ omega (arith, off, si)) in
      laws.symmetric (get_or rows q d) (get_or rows r d) (ap (λ x. same (get_or rows q d) (get_or rows x d)) (sym (exchanged_back n i k li lk r lr)) ∙ there))
      (cases_eq (bit i r) 1))
      (cases_eq (bit i r) (bit k r))

  pub reflexive : (i : ℕ) → Symmetric same n rows i i
  reflexive i r d lr = ap (λ x. same (get_or rows r d) (get_or rows x d)) (exchanged_alike n i i r lr refl) ∙ laws.reflexive (get_or rows r d)

  pub symmetric : (i k : ℕ) → Symmetric same n rows i k → Symmetric same n rows k i
  symmetric i k s r d lr = ap (λ x. same (get_or rows r d) (get_or rows x d)) (exchanged_turned n i k r) ∙ s r d lr

  pub transitive : (i k j : ℕ) → i < n → k < n → j < n → Symmetric same n rows i k → Symmetric same n rows k j → Symmetric same n rows i j
  transitive i k j li lk lj ik kj r d lr =
      ⊎_elim
      (λ e. ap (λ x. same (get_or rows r d) (get_or rows (exchanged n i x r) d)) (sym e) ∙ reflexive i r d lr)
      (λ ij. ⊎_elim
      (λ e. ap (λ x. same (get_or rows r d) (get_or rows (exchanged n i x r) d)) (sym e) ∙ ik r d lr)
      (λ nkj.
      let a = exchanged n i k r in
      let b = exchanged n k j a in
      let la = exchanged_lt n i k r in
      let lb = exchanged_lt n k j a in
      let first = laws.transitive (get_or rows r d) (get_or rows a d) (get_or rows b d) (ik r d lr) (kj a d la) in
      let all = laws.transitive (get_or rows r d) (get_or rows b d) (get_or rows (exchanged n i k b) d) first (ik b d lb) in
      ap (λ x. same (get_or rows r d) (get_or rows x d)) (sym (exchanged_round n i k j r li lk lj ij nkj)) ∙ all)
      (cases_eq k j))
      (cases_eq i j)

  -- inputs have one class exactly when they are symmetric
  pub of_class : (i k c e : ℕ) → i < n → k < n → Class same n rows i c → Class same n rows k e → c ≡ e → Symmetric same n rows i k
  of_class i k c e li lk x y ce =
      let lc : c < n = omega (arith, x.counted, li) in
      let back : Symmetric same n rows c k = symmetric k c (λ r d lr. ap (λ z. same (get_or rows r d) (get_or rows (exchanged n k z r) d)) ce ∙ y.symmetric r d lr) in
      transitive i c k li lc lk x.symmetric back

  pub class_below : (i k c e : ℕ) → i < n → k < n → Class same n rows i c → Class same n rows k e → Symmetric same n rows i k → c ≤ e
  class_below i k c e li lk x y s =
      let le : e < n = omega (arith, y.counted, lk) in
      x.lowest e le (transitive i k e li lk le s y.symmetric)

  pub one_class : (i k c e : ℕ) → i < n → k < n → Class same n rows i c → Class same n rows k e → Symmetric same n rows i k → c ≡ e
  one_class i k c e li lk x y s = omega (arith, class_below i k c e li lk x y s, class_below k i e c lk li y x (symmetric i k s))

  -- the lowest of the inputs below i that are symmetric with it, or else i
  pub class_found : (i : ℕ) → i < n → (found : Option ℕ) → MatchOption found ((k : ℕ) → 0 ≤ k → k < i → k < n → Symmetric same n rows i k → ⊥) (λ c. (0 ≤ c) × (c < i) × (c < n → Symmetric same n rows i c) × ((k : ℕ) → 0 ≤ k → k < c → k < n → Symmetric same n rows i k → ⊥)) → Class same n rows i (unwrap_or found i)
  class_found i li None none = record {
    symmetric = reflexive i;
    counted = omega arith;
    lowest = λ j lj s. ⊎_elim (λ below. absurd (none j (omega arith) below lj s)) (λ above. above) (cases_lt j i);
  }
  class_found i li (Some c) f = record {
    symmetric = f.2 (omega (arith, f.1, li));
    counted = omega (arith, f.1);
    lowest = λ j lj s. ⊎_elim (λ below. absurd (f.3 j (omega arith) below lj s)) (λ above. above) (cases_lt j c);
  }
