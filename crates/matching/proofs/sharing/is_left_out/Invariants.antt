use Rattle.std.proofs.Common.{◌≡◌, ℕ, ◌<◌, true}
use Rattle.matching.specs.Struck.{struck}
use Rattle.matching.proofs.sharing.is_left_out.Given as goal

abbrev pub invariant-loop-other : goal.invariant-loop-other
invariant-loop-other l = record {
  input : l.input_left ≡ true → (p : ℕ) → p < l.other → struck l.strikes.struck l.number p ≡ true;
  pin : l.pin_left ≡ true → (i : ℕ) → i < l.other → struck l.strikes.struck i l.number ≡ true;
}
