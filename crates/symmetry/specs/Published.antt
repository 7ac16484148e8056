-- Classical symmetry as it is published, over Boolean vectors and with sameness in the place of equal values: exchanging
-- two variables leaves the function the same.
use Rattle.std.specs.Prelude.{◌≡◌, ℕ, ◌^◌, ◌<◌, Bool, true, false, if◌then◌else◌, List, length, ◌==◌, ◌≢◌, ◌↔◌}
use Rattle.tables.specs.Agreement.{bit, Agree}
use Rattle.tables.specs.Equivalence.{value, Equivalent}
use Rattle.symmetry.specs.Symmetry.{swap, exchanged, Symmetric, Class}

-- vector x with v as the value of input i
abbrev pub put : (ℕ → Bool) → ℕ → Bool → ℕ → Bool
put x i v j = if j == i then v else x j

-- a row with the values of two inputs exchanged is a row, is known by its bits, and goes back where it came from
pub record ExchangesBits (n i k r : ℕ) : Type 0 where
  pub row : exchanged n i k r < 2 ^ n
  pub here : bit i (exchanged n i k r) ≡ bit k r
  pub there : bit k (exchanged n i k r) ≡ bit i r
  pub others : (j : ℕ) → j < n → j ≢ i → j ≢ k → bit j (exchanged n i k r) ≡ bit j r
  pub back : r < 2 ^ n → exchanged n i k (exchanged n i k r) ≡ r

abbrev pub ExchangedByBits : Type 0
ExchangedByBits = (n i k r : ℕ) → i < n → k < n → ExchangesBits n i k r

module _ {R : Type 0} (same : R → R → Bool) where
  -- f(x) is the same as f(x') for every vector x, where x' is x with x_i and x_k exchanged
  abbrev pub Invariant : Type 0
  Invariant = (n : ℕ) (rows : List R) (i k : ℕ) → i < n → k < n → Symmetric same n rows i k ↔ Equivalent same n (swap i k) rows rows

  -- f(.., x_i = 1, .., x_k = 0, ..) is the same as f(.., x_i = 0, .., x_k = 1, ..), whatever the others
  abbrev pub MixedCofactors : ℕ → List R → ℕ → ℕ → Type 0
  MixedCofactors n rows i k = (x : ℕ → Bool) (d : R) → same (value n rows (put (put x i true) k false) d) (value n rows (put (put x i false) k true) d) ≡ true

  abbrev pub CofactorsSame : Type 0
  CofactorsSame = (n : ℕ) (rows : List R) (i k : ℕ) → i < n → k < n → i ≢ k → Symmetric same n rows i k ↔ MixedCofactors n rows i k

  -- the table agrees with itself under the wiring that exchanges the two
  abbrev pub AgreesWithItself : Type 0
  AgreesWithItself = (n : ℕ) (rows : List R) (i k : ℕ) → i < n → k < n → length rows ≡ 2 ^ n → Symmetric same n rows i k ↔ Agree same n (swap i k) rows rows

  -- symmetry of the inputs of a table is an equivalence
  pub record IsEquivalence (n : ℕ) (rows : List R) : Type 0 where
    pub reflexive : (i : ℕ) → i < n → Symmetric same n rows i i
    pub symmetric : (i k : ℕ) → i < n → k < n → Symmetric same n rows i k → Symmetric same n rows k i
    pub transitive : (i k j : ℕ) → i < n → k < n → j < n → Symmetric same n rows i k → Symmetric same n rows k j → Symmetric same n rows i j

  abbrev pub Equivalence : Type 0
  Equivalence = (n : ℕ) (rows : List R) → IsEquivalence n rows

  -- inputs have the same class exactly when they are symmetric; so an input has no two classes
  abbrev pub ClassesTell : Type 0
  ClassesTell = (n : ℕ) (rows : List R) (i k c e : ℕ) → i < n → k < n → Class same n rows i c → Class same n rows k e → (c ≡ e) ↔ Symmetric same n rows i k
