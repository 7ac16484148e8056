use Rattle.std.specs.Prelude.{◌≡◌, ℕ, ◌<◌, Bool, true}

-- what every kind of row owes: sameness is an equivalence, rows that are the same weigh alike, and a weight is at most 255
pub record RowKindLaws {R : Type 0} (same : R → R → Bool) (weight : R → ℕ) : Type 0 where
  pub reflexive : (x : R) → same x x ≡ true
  pub symmetric : (x y : R) → same x y ≡ true → same y x ≡ true
  pub transitive : (x y z : R) → same x y ≡ true → same y z ≡ true → same x z ≡ true
  pub alike : (x y : R) → same x y ≡ true → weight x ≡ weight y
  pub light : (x : R) → weight x < 256
