-- What a bit shifted into place is worth.
use Rattle.std.proofs.Common.{◌≡◌, ℕ, ◌*◌, ◌%◌, ◌^◌, ◌<◌, ◌≤◌, ap, ◌∙◌, mod-eq_of_lt, arith, pow_mono}

pub pow_small : (k : ℕ) → k < 10 → 2 ^ k ≤ 512
pow_small k lt = let le : k ≤ 9 = omega arith in let top : 2 ^ k ≤ 2 ^ 9 = pow_mono le in omega arith

-- at any width that holds it
pub shift : (k m : ℕ) → k < 10 → 512 < m → 1 * 2 ^ k % m ≡ 2 ^ k
shift k m lt wide = let small = pow_small k lt in ap (λ x. x % m) (omega arith) ∙ mod-eq_of_lt (omega arith)
