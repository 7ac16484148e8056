use Rattle.std.proofs.Common.{◌≡◌, ℕ, zero, suc, ◌<◌, ◌≤◌, cond, eqb, ◌⊎◌, sym, refl, ap, ◌∙◌, inl, inr, ⊎_elim, arith, eq-eqb, true-eqb}
use Rattle.std.proofs.lemmas.Bool.{cases_eq, cases_lt, cond-true, cond_both}
use Rattle.tables.specs.Wirings.{Wires, Inverse}

pub apart : (n : ℕ) (w : ℕ → ℕ) → Wires n w → (i j : ℕ) → i < n → j < n → w i ≡ w j → i ≡ j
apart n w h i j li lj e = h.1 i j (li, lj, e)

-- w with n taken out of its values
abbrev less : ℕ → (ℕ → ℕ) → ℕ → ℕ
less n w i = cond (eqb (w i) n) (w n) (w i)

less_yes : (n : ℕ) (w : ℕ → ℕ) (i : ℕ) → w i ≡ n → less n w i ≡ w n
less_yes n w i e = cond-true (eqb (w i) n) (w n) (w i) (eq-eqb (w i) n e)

less_no : (n : ℕ) (w : ℕ → ℕ) (i : ℕ) → (w i ≡ n → ⊥) → less n w i ≡ w i
less_no n w i ne = cond_both (eqb (w i) n) (w n) (w i) (λ y. y ≡ w i) (λ e. absurd (ne (true-eqb (w i) n (sym e)))) (λ _. refl)

less_wires : (n : ℕ) (w : ℕ → ℕ) → Wires (suc n) w → Wires n (less n w)
less_wires n w h = (
  (λ i lt.
      let own : w n < suc n = h.0 n (omega arith) in
      let here : w i < suc n = h.0 i (omega arith) in
      ⊎_elim
      (λ e.
      let off : w n ≡ n → ⊥ = λ same. let x : i ≡ n = apart (suc n) w h i n (omega arith) (omega arith) (e ∙ sym same) in omega arith in
      let val = less_yes n w i e in ⊎_elim (λ l. omega arith) (λ g. absurd (off (omega arith))) (cases_lt (w n) n))
      (λ ne. let val = less_no n w i ne in ⊎_elim (λ l. omega arith) (λ g. absurd (ne (omega arith))) (cases_lt (w i) n))
      (cases_eq (w i) n)),
  (λ i j h3.
      let li : i < n = h3.0 in
      let lj : j < n = h3.1 in
      let same : less n w i ≡ less n w j = h3.2 in
      ⊎_elim
      (λ ei. ⊎_elim
      (λ ej. apart (suc n) w h i j (omega arith) (omega arith) (ei ∙ sym ej))
      (λ nj. let x : n ≡ j = apart (suc n) w h n j (omega arith) (omega arith) (sym (less_yes n w i ei) ∙ same ∙ less_no n w j nj) in absurd (omega arith))
      (cases_eq (w j) n))
      (λ ni. ⊎_elim
      (λ ej. let x : i ≡ n = apart (suc n) w h i n (omega arith) (omega arith) (sym (less_no n w i ni) ∙ same ∙ less_yes n w j ej) in absurd (omega arith))
      (λ nj. apart (suc n) w h i j (omega arith) (omega arith) (sym (less_no n w i ni) ∙ same ∙ less_no n w j nj))
      (cases_eq (w j) n))
      (cases_eq (w i) n)),
)

-- every pin is used
pub onto : (n : ℕ) (w : ℕ → ℕ) → Wires n w → (j : ℕ) → j < n → (i : ℕ) × (i < n) × (w i ≡ j)
onto zero w h j lt = absurd (omega arith)
onto (suc n) w h j lt =
    ⊎_elim
    (λ e. (n, omega arith, sym e))
    (λ ne.
    ⊎_elim
    (λ top.
    let low : w n < n = (let a : w n < suc n = h.0 n (omega arith) in ⊎_elim (λ l. l) (λ g. absurd (ne (omega arith))) (cases_lt (w n) n)) in
    let r = onto n (less n w) (less_wires n w h) (w n) low in
    let lr = r.1 in
    ⊎_elim
    (λ e. (r.0, omega arith, e ∙ sym top))
    (λ no'. let x : r.0 ≡ n = apart (suc n) w h r.0 n (omega arith) (omega arith) (sym (less_no n w r.0 no') ∙ r.2) in absurd (omega arith))
    (cases_eq (w r.0) n))
    (λ below.
    let r = onto n (less n w) (less_wires n w h) j (omega arith) in
    let lr = r.1 in
    ⊎_elim
    (λ e. absurd (ne (sym (sym (less_yes n w r.0 e) ∙ r.2))))
    (λ no'. (r.0, omega arith, sym (less_no n w r.0 no') ∙ r.2))
    (cases_eq (w r.0) n))
    (cases_eq j n))
    (cases_eq j (w n))

module _ (n : ℕ) (w : ℕ → ℕ) (h : Wires n w) where
  pub pick : (j : ℕ) → (j < n) ⊎ (n ≤ j) → ℕ
  pick j (inl lt) = (onto n w h j lt).0
  pick j (inr le) = 0

  abbrev pub back : ℕ → ℕ
  back j = pick j (cases_lt j n)

  pick_back : (j : ℕ) → j < n → (x : (j < n) ⊎ (n ≤ j)) → (pick j x < n) × (w (pick j x) ≡ j)
  unfolding pick
  pick_back j lt (inl l) = let o = onto n w h j l in (o.1, o.2)
  pick_back j lt (inr le) = absurd (omega arith)

  pub back_into : (j : ℕ) → j < n → back j < n
  back_into j lt = (pick_back j lt (cases_lt j n)).0

  pub there_back : (j : ℕ) → j < n → w (back j) ≡ j
  there_back j lt = (pick_back j lt (cases_lt j n)).1

  pub back_there : (i : ℕ) → i < n → back (w i) ≡ i
  back_there i lt = let l = h.0 i lt in apart n w h (back (w i)) i (back_into (w i) l) lt (there_back (w i) l)

-- what takes each pin back to its input is a wiring too, and the inverse
module _ (n : ℕ) (w v : ℕ → ℕ) (h : Wires n w) (turned : (i : ℕ) → i < n → v (w i) ≡ i) where
  pub turned_inverse : Inverse n w v
  turned_inverse = (
    turned,
    λ j lj.
        let o = onto n w h j lj in
        let e : v j ≡ o.0 = ap v (sym o.2) ∙ turned o.0 o.1 in
        (let lo = o.1 in omega arith, ap w e ∙ o.2),
  )

  pub turned_wires : Wires n v
  turned_wires = ((λ j lj. (turned_inverse.1 j lj).0), λ i j t. sym (turned_inverse.1 i t.0).1 ∙ ap w t.2 ∙ (turned_inverse.1 j t.1).1)
