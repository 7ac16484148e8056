-- What a row that is read from a table says of the table.
use Rattle.std.proofs.Common.{◌≡◌, ℕ, ◌^◌, ◌<◌, Bool, List, length, get_or, sym, ap, ◌∙◌, ⊎_elim, arith}
use lib.Pow.{pow-lt}
use Rattle.std.proofs.lemmas.List.{get_or_read}
use Rattle.std.proofs.lemmas.Bool.{cases_eq, cases_lt}

-- tables with as many rows have as many inputs
pub same_inputs : (m n : ℕ) → 2 ^ m ≡ 2 ^ n → m ≡ n
same_inputs m n e =
    ⊎_elim
    (λ l. let p : 2 ^ m < 2 ^ n = pow-lt l in absurd (omega arith))
    (λ ge. ⊎_elim (λ x. sym x) (λ ne. let l : n < m = omega arith in let p : 2 ^ n < 2 ^ m = pow-lt l in absurd (omega arith)) (cases_eq n m))
    (cases_lt m n)

-- x is the card's row r, and y the part's row q
pub same_rows : {R : Type 0} (same : R → R → Bool) (card part : List R) (r q : ℕ) (x y : R) (b : Bool) → r < length card → q < length part → x ≡ get_or card r x → y ≡ get_or part q y → same x y ≡ b → (d : R) → same (get_or card r d) (get_or part q d) ≡ b
same_rows same card part r q x y b lr lq ex ey e d =
    ap (λ z. same z (get_or part q d)) (sym (get_or_read card r x lr ex d)) ∙ ap (λ z. same x z) (sym (get_or_read part q y lq ey d)) ∙ e
