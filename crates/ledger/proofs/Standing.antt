-- What stands in a list of parts, where each number stands once.
use Rattle.std.proofs.Common.{◌≡◌, ℕ, ◌+◌, Bool, true, false, cond, not, eqb, List, [], ◌∷◌, length, filter, sym, refl, ap, ◌∙◌, subst, inl, inr, ⊎_elim, arith}
use Rattle.std.proofs.lemmas.Bool.{cases_Bool, eq-eqb, eqb-true, eqb-false, false≢true, ne_eqb, not-true, or_cases, or_left, or_parts, or_right}
use Rattle.std.proofs.lemmas.Grind.{common_steps}
use Rattle.lists.specs.Counting.{Mem}
use Rattle.lists.proofs.Members.{kept_mem, mem_kept}
use Rattle.ledger.specs.Ledger.{Part, any, stands, without}
use Rattle.ledger.specs.Fixed.{Once}

module _ {X : Type 0} (test : X → Bool) where
  pub any_mem : (x : X) (xs : List X) → Mem x xs → test x ≡ true → any test xs ≡ true
  any_mem x [] m on = absurd m
  any_mem x (y ∷ ys) (inl e) on = or_left (test y) (any test ys) (ap test (sym e) ∙ on)
  any_mem x (y ∷ ys) (inr m) on = or_right (test y) (any test ys) (any_mem x ys m on)

  pub any_none : (xs : List X) → any test xs ≡ false → (x : X) → Mem x xs → test x ≡ false
  any_none [] off x m = absurd m
  any_none (y ∷ ys) off x (inl e) = ap test e ∙ (or_parts (test y) (any test ys) off).0
  any_none (y ∷ ys) off x (inr m) = any_none ys (or_parts (test y) (any test ys) off).1 x m

  pub any_some : (xs : List X) → any test xs ≡ true → (x : X) × Mem x xs × (test x ≡ true)
  any_some [] on = absurd (false≢true on)
  any_some (y ∷ ys) on =
      ⊎_elim
      (λ here. (y, inl refl, here))
      (λ rest. let found = any_some ys rest in (found.0, inr found.1, found.2))
      (or_cases (test y) (any test ys) on)

  -- where none passes, none of those kept does
  pub any_kept : (keep : X → Bool) (xs : List X) → any test xs ≡ false → any test (filter keep xs) ≡ false
  any_kept keep [] off = off
  any_kept keep (y ∷ ys) off =
      let both = or_parts (test y) (any test ys) off in
      let rest = any_kept keep ys both.1 in
      grind (arith, common_steps)

  -- where none passes, all are kept that do not pass
  pub all_kept : (xs : List X) → any test xs ≡ false → filter (λ x. not (test x)) xs ≡ xs
  all_kept [] off = refl
  all_kept (y ∷ ys) off =
      let both = or_parts (test y) (any test ys) off in
      let rest = all_kept ys both.1 in
      grind (arith, common_steps)

module _ {R : Type 0} where
  -- the tests by which a number stands, and by which the parts of other numbers are kept
  abbrev named : ℕ → Part R → Bool
  named number part = eqb part.number number

  abbrev other : ℕ → Part R → Bool
  other number part = not (named number part)

  module _ (number : ℕ) (parts : List (Part R)) where
    pub stands_mem : (p : Part R) → Mem p parts → p.number ≡ number → stands number parts ≡ true
    stands_mem p m e = any_mem (named number) p parts m (eq-eqb p.number number e)

    pub stands_none : stands number parts ≡ false → (p : Part R) → Mem p parts → p.number ≡ number → ⊥
    stands_none off p m = eqb-false p.number number (any_none (named number) parts off p m)

    pub without_none : stands number parts ≡ false → without number parts ≡ parts
    without_none off = all_kept (named number) parts off

    pub mem_without : (p : Part R) → Mem p (without number parts) → Mem p parts × (p.number ≡ number → ⊥)
    mem_without p m =
        let kept = kept_mem (other number) p parts m in
        (kept.0, eqb-false p.number number (not-true (named number p) kept.1))

    pub mem_stays : (p : Part R) → Mem p parts → (p.number ≡ number → ⊥) → Mem p (without number parts)
    mem_stays p m ne = mem_kept (other number) p parts m (ap not (ne_eqb p.number number ne))

  -- parts that stand under one number are one part
  pub mem_once : (parts : List (Part R)) (p q : Part R) → Once parts → Mem p parts → Mem q parts → p.number ≡ q.number → p ≡ q
  mem_once [] p q once mp mq same = absurd mp
  mem_once (x ∷ xs) p q once (inl ep) (inl eq) same = ep ∙ sym eq
  mem_once (x ∷ xs) p q once (inl ep) (inr mq) same =
      absurd (stands_none x.number xs once.0 q mq (sym same ∙ ap (λ (part : Part R). part.number) ep))
  mem_once (x ∷ xs) p q once (inr mp) (inl eq) same =
      absurd (stands_none x.number xs once.0 p mp (same ∙ ap (λ (part : Part R). part.number) eq))
  mem_once (x ∷ xs) p q once (inr mp) (inr mq) same = mem_once xs p q once.1 mp mq same

  pub once_without : (number : ℕ) (parts : List (Part R)) → Once parts → Once (without number parts)
  once_without number [] once = once
  once_without number (x ∷ xs) once =
      let rest = once_without number xs once.1 in
      elim (other number x) as (λ b. Once (cond b (x ∷ without number xs) (without number xs))) [
        | true ↦ (any_kept (named x.number) (other number) xs once.0, rest)
        | false ↦ rest
      ]

  -- where the number stands, one part goes
  pub without_less : (number : ℕ) (parts : List (Part R)) → Once parts → stands number parts ≡ true → length (without number parts) + 1 ≡ length parts
  without_less number [] once on = absurd (false≢true on)
  without_less number (x ∷ xs) once on =
      ⊎_elim
      (λ here.
      let off : stands number xs ≡ false = subst (λ k. stands k xs ≡ false) (eqb-true x.number number here) once.0 in
      rw here (omega (arith, ap length (without_none number xs off))))
      (λ later. rw later (omega (arith, without_less number xs once.1 (rw later at on))))
      (cases_Bool (named number x))
