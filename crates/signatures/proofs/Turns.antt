-- One row more in a sum over rows.
use Rattle.std.proofs.Common.{◌≡◌, ℕ, zero, suc, ◌+◌, ◌*◌, ◌<◌, ◌≤◌, Bool, true, false, cond, ◌&&◌, eqb, List, [], ◌∷◌, length, get_or, sym, ap, ◌∙◌, mul-suc, add-one, arith, eq-eqb}
use Rattle.std.proofs.lemmas.List.{get_or-map}
use Rattle.std.proofs.lemmas.Bool.{ne_eqb, eqb-true, eqb-false}
use mir.Val.{bool_byte}
use Rattle.tables.specs.Sums.{sum_to}
use Rattle.tables.specs.Agreement.{bit}
use Rattle.signatures.specs.Values.{where_on, weight_at}

pub sum_more : (k : ℕ) (f : ℕ → ℕ) → sum_to (k + 1) f ≡ sum_to k f + f k
sum_more k f = rw add-one

pub on_yes : (i r x : ℕ) → bit i r ≡ 1 → where_on i r x ≡ x
on_yes i r x b = ap (λ t. cond t x 0) (eq-eqb (bit i r) 1 b)

pub on_no : (i r x : ℕ) → (bit i r ≡ 1 → ⊥) → where_on i r x ≡ 0
on_no i r x b = ap (λ t. cond t x 0) (ne_eqb (bit i r) 1 b)

-- what a test of the bit has told
pub on_from : (i r : ℕ) (b : Bool) → b ≡ eqb (bit i r) 1 → b ≡ true → bit i r ≡ 1
on_from i r b e t = eqb-true (bit i r) 1 (sym e ∙ t)

pub off_from : (i r : ℕ) (b : Bool) → b ≡ eqb (bit i r) 1 → b ≡ false → bit i r ≡ 1 → ⊥
off_from i r b e t = eqb-false (bit i r) 1 (sym e ∙ t)

pub weight_is : {R : Type 0} (weight : R → ℕ) (rows : List R) (r : ℕ) (x : R) → r < length rows → x ≡ get_or rows r x → weight_at weight rows r ≡ weight x
weight_is weight rows r x lt e = get_or-map weight rows r x 0 lt ∙ ap weight (sym e)

-- sums of small terms are small
pub sum_most : (k m : ℕ) (f : ℕ → ℕ) → ((j : ℕ) → f j ≤ m) → sum_to k f ≤ m * k
sum_most zero m f small = omega arith
sum_most (suc k) m f small = let rest = sum_most k m f small in let here = small k in let e = mul-suc m k in omega arith

pub weight_small : {R : Type 0} (weight : R → ℕ) → ((x : R) → weight x < 256) → (rows : List R) (r : ℕ) → weight_at weight rows r ≤ 255
weight_small weight light [] r = omega arith
weight_small weight light (x ∷ rows) zero = let a = light x in omega arith
weight_small weight light (x ∷ rows) (suc r) = weight_small weight light rows r

pub cond_most : (b : Bool) (x m : ℕ) → x ≤ m → cond b x 0 ≤ m
cond_most b x m le = grind arith

pub cond_and : (a b : Bool) (x : ℕ) → cond (a && b) x 0 ≡ cond a (cond b x 0) 0
cond_and a b x = grind arith

-- a weight that is counted or not
pub times_bool : (w : ℕ) (b : Bool) → w * bool_byte b ≡ cond b w 0
times_bool w true = omega arith
times_bool w false = omega arith
