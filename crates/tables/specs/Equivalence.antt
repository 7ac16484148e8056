-- Permutation equivalence as it is published, over Boolean vectors and with sameness in the place of equal values:
-- f = g∘π, where (g∘π)(x_0, .., x_{n-1}) = g(x_π(0), .., x_π(n-1)).
use Rattle.std.specs.Prelude.{◌≡◌, ℕ, ◌*◌, ◌^◌, Bool, true, if◌then◌else◌, List, slice_index_or}
use Rattle.tables.specs.Sums.{sum_to}

-- the row of a truth table that a vector names
abbrev pub named : ℕ → (ℕ → Bool) → ℕ
named n x = sum_to n (λ i. (if x i then 1 else 0) * 2 ^ i)

-- f(x), for the function f whose truth table these rows are
abbrev pub value : {R : Type 0} → ℕ → List R → (ℕ → Bool) → R → R
value n rows x d = slice_index_or rows (named n x) d

-- f(x) is the same as (g∘π)(x), for every vector x
abbrev pub Equivalent : {R : Type 0} → (R → R → Bool) → ℕ → (ℕ → ℕ) → List R → List R → Type 0
Equivalent {R} same n π f g = (x : ℕ → Bool) (d : R) → same (value n f x d) (value n g (λ j. x (π j)) d) ≡ true
