-- A block of zeros.
use Rattle.std.proofs.Common.{◌≡◌, ℕ, ◌≤◌, List, [], get_or, replicate, refl, sym, subst, ⊎_elim, arith}
use Rattle.std.proofs.lemmas.List.{get_or-replicate}
use Rattle.std.proofs.lemmas.Grind.{common_steps}
use Rattle.std.proofs.lemmas.Bool.{cases_lt}
use Rattle.signatures.specs.Writing.{Free, AllFree}

pub zeros : (n p : ℕ) → ◌≡◌ {A = ℕ} (get_or (replicate n 0) p 0) 0
zeros n p =
    ⊎_elim (get_or-replicate {A = ℕ} n p 0 0) (λ ge. grind (arith, common_steps)) (cases_lt p n)

pub blank_block : (n : ℕ) → n ≤ 10 → AllFree n 0 (replicate 10 (replicate 64 0))
blank_block n few i li = subst (Free 0) (sym (get_or-replicate {A = List ℕ} 10 i (replicate 64 0) [] (omega (arith, li, few)))) (record { len = refl; blank = λ p _. zeros 64 p })
