-- What is appended by two in turn is appended by their pile.
use Rattle.std.proofs.Common.{◌≡◌, ℕ, ◌+◌, ◌-◌, ◌≤◌, min, List, ◌∙◌, ⊎_elim, arith}
use Rattle.std.proofs.lemmas.List.{get_or_past}
use Rattle.std.proofs.lemmas.Bool.Decides.{nat_tests}
use Rattle.std.proofs.lemmas.Bool.{cases_lt}
use Rattle.signatures.specs.Law.{given}
use Rattle.signatures.specs.Writing.{Free, Appended}
use Rattle.signatures.specs.Values.{piled, piled_count}
use Rattle.signatures.proofs.Asking.{given_no_place}

module _ {R : Type 0} (a b : ℕ) (first second : ℕ → List R → ℕ → ℕ → ℕ) (n : ℕ) (rows : List R) (i from next : ℕ) (is : next ≡ min (from + a) 64)
    (old mid : List ℕ) (free : Free from old) (one : Appended from (given a first n rows i) old mid) where
  pub free_next : Free next mid
  free_next = record {
    len = one.len ∙ free.len;
    blank = λ p le. ⊎_elim
        (λ room. one.after p (omega (arith, is, le, room)) room ∙ given_no_place a first n rows i (p - from) (omega (arith, is, le, room)))
        (λ full. get_or_past mid p 0 (omega (arith, one.len, free.len, full)))
        (cases_lt p 64);
  }

  pub appended_both : (new : List ℕ) → from ≤ 64 → Appended next (given b second n rows i) mid new → Appended from (given (piled_count a b) (piled a first second) n rows i) old new
  appended_both new few two = record {
    len = two.len ∙ one.len;
    before = λ p lt. two.before p (omega (arith, is, lt, few)) ∙ one.before p lt;
    after = λ p le room. ⊎_elim
        (λ low.
        let here = two.before p low ∙ one.after p le room in
        grind (arith, nat_tests))
        (λ high.
        let here = two.after p high room in
        grind (arith, nat_tests))
        (cases_lt p next);
  }
