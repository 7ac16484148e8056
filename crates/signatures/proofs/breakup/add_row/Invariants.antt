use Rattle.std.proofs.Common.{◌≡◌, ℕ, ◌+◌, ◌<◌, ◌≤◌, [], length, get_or}
use Rattle.signatures.specs.Values.{adds}
use Rattle.signatures.proofs.breakup.add_row.Given as goal

abbrev pub invariant-loop-input : goal.invariant-loop-input
invariant-loop-input l = record {
  whole : length l.answers ≡ 10;
  added : (i p : ℕ) → i < l.input → p < 64 → get_or (get_or l.answers i []) p 0 ≡ get_or (get_or l.initial.answers i []) p 0 + adds l.from l.weight i l.row p;
  wide : (i : ℕ) → i < l.input → length (get_or l.answers i []) ≡ 64;
  left : (i : ℕ) → l.input ≤ i → get_or l.answers i [] ≡ get_or l.initial.answers i [];
}
