-- A worked example of the first wiring in dictionary order.
use Rattle.std.proofs.Common.{◌≡◌, ℕ, zero, suc, Bool, true, false, ◌&&◌, ◌||◌, eqb, ltb, List, sym, ◌∙◌, ⊎_elim, arith}
use Rattle.std.proofs.lemmas.Bool.{eqb-true, ltb-true, and_parts, or_cases, false≢true}
use Rattle.rows.specs.declared.on_off.OnOff.{OnOff}
use Rattle.tables.specs.Wirings.{pin, Alike, Other, Before}
use Rattle.worked_facts.specs.Cases.{Holds, leading}
use Rattle.worked_facts.proofs.Tests.{all_below_at, first, first_alike}
use Rattle.worked_facts.proofs.Agreeing.{agree_test, test_agree, alike_test, all_agreeing, all_agreeing_at}

abbrev before_test : ℕ → (ℕ → ℕ) → (ℕ → ℕ) → Bool
before_test zero v w = false
before_test (suc n) v w = before_test n v w || (alike_test n v w && ltb (v n) (w n))

test_before : (n : ℕ) (v w : ℕ → ℕ) → before_test n v w ≡ true → Before n v w
test_before zero v w t = absurd (false≢true t)
test_before (suc n) v w t =
    ⊎_elim
    (λ earlier. let b = test_before n v w earlier in (b.0, omega (arith, b.1), b.2, b.3))
    (λ here.
    let both = and_parts (alike_test n v w) (ltb (v n) (w n)) here in
    (n, omega arith, (λ i li. eqb-true (v i) (w i) (all_below_at n (λ i. eqb (v i) (w i)) both.0 i li)), ltb-true (v n) (w n) both.1))
    (or_cases (before_test n v w) (alike_test n v w && ltb (v n) (w n)) t)

-- v is u as far as n inputs go, or comes before it
abbrev not_after_test : ℕ → (ℕ → ℕ) → (ℕ → ℕ) → Bool
not_after_test n v u = alike_test n v u || before_test n v u

test_not_after : (n : ℕ) (v u w : ℕ → ℕ) → not_after_test n v u ≡ true → Alike n w u → Other n v w → Before n v w
test_not_after n v u w t same other =
    ⊎_elim
    (λ alike. absurd (other.2 (eqb-true (v other.0) (u other.0) (all_below_at n (λ i. eqb (v i) (u i)) alike other.0 other.1) ∙ sym (same other.0 other.1))))
    (λ before.
    let b = test_before n v u before in
    (b.0, b.1, (λ i li. b.2 i li ∙ sym (same i (omega (arith, li, b.1)))), omega (arith, b.3, same b.0 b.1)))
    (or_cases (alike_test n v u) (before_test n v u) t)

abbrev pub leading_test : ℕ → List OnOff → List OnOff → List ℕ → Bool
leading_test n card part wiring = agree_test n card part (pin wiring) && all_agreeing n card part (λ pins. not_after_test n (pin wiring) (pin pins))

pub leading_holds : (n : ℕ) (card part : List OnOff) (wiring : List ℕ) → leading_test n card part wiring ≡ true → Holds (leading n card part wiring)
leading_holds n card part wiring t =
    let later : List ℕ → Bool = λ pins. not_after_test n (pin wiring) (pin pins) in
    let both = and_parts (agree_test n card part (pin wiring)) (all_agreeing n card part later) t in (
      test_agree n card part (pin wiring) both.0,
      (λ v a other. test_not_after n (pin wiring) (pin (first n v)) v (all_agreeing_at n card part later both.1 v a) (first_alike n v) other),
    )
