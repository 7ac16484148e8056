-- The stretches of the slots after rows are written into one of them.
use Rattle.std.proofs.Common.{◌≡◌, ℕ, ◌+◌, ◌-◌, ◌*◌, ◌^◌, ◌<◌, ◌≤◌, List, ◌++◌, length, take, drop, sym, refl, ap, ◌∙◌, ⊎_elim, arith}
use Rattle.std.proofs.lemmas.List.{drop_at, drop-drop, drop-take, length-take-le}
use Rattle.std.proofs.lemmas.Bool.{cases_lt}
use Rattle.std.proofs.lemmas.Grind.{common_steps}
use Rattle.inventory.specs.Slots.{front, written}
use Rattle.inventory.proofs.Writes.{rows_fit}

module _ {X : Type 0} (m new : List X) where
  -- the new rows lie from start on
  module _ (start : ℕ) (within : start ≤ length m) where
    abbrev later : List X
    later = written m start new

    abbrev end : ℕ
    end = start + length new

    starts : length (take start m) ≡ start
    starts = length-take-le start m within

    drop_new : drop start later ≡ new ++ drop end m
    drop_new = grind (arith, common_steps, starts)

    take_before : (n : ℕ) → n ≤ start → take n later ≡ take n m
    take_before n le = grind (arith, common_steps, starts)

    drop_past : drop end later ≡ drop end m
    drop_past = sym (drop-drop (length new) start later) ∙ ap (drop (length new)) drop_new ∙ drop_at new (drop end m) (length new) refl

    drop_after : (n : ℕ) → end ≤ n → drop n later ≡ drop n m
    drop_after n le =
        let there : end + (n - end) ≡ n = omega arith in
        rw (← there, ← drop-drop (n - end) end later, ← drop-drop (n - end) end m) (ap (drop (n - end)) drop_past)

  -- the new rows lie in the stretch of slot k
  module _ (k : ℕ) (within : k * 1024 ≤ length m) where
    pub front_new : (n : ℕ) → length new ≡ 2 ^ n → front (written m (k * 1024) new) k n ≡ new
    front_new n whole = grind (arith, common_steps, drop_new)

    pub front_other : (j n : ℕ) → (j ≡ k → ⊥) → n ≤ 10 → length new ≤ 1024 → front (written m (k * 1024) new) j n ≡ front m j n
    front_other j n ne few short =
        let fits = rows_fit n few in
        let then = written m (k * 1024) new in
        ⊎_elim
        (λ lower. let kept = take_before (k * 1024) within (j * 1024 + 2 ^ n) (omega arith) in rw (← drop-take (j * 1024) (2 ^ n) then, kept, drop-take (j * 1024) (2 ^ n) m))
        (λ higher. let past : k < j = omega arith in ap (take (2 ^ n)) (drop_after (k * 1024) within (j * 1024) (omega arith)))
        (cases_lt j k)
