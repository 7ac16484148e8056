use Rattle.std.proofs.Common.{◌≡◌, ℕ, ◌<◌, ◌≤◌, [], get_or}
use Rattle.signatures.specs.Writing.{Appended}
use Rattle.signatures.proofs.per_input.write_each.Given as goal

abbrev pub invariant-loop-input : goal.invariant-loop-input
invariant-loop-input g l = record {
  written : (i : ℕ) → i < l.input → Appended l.from (g.S.PerInput.says l.signature l.table.inputs l.table.rows.now i) (get_or l.fn.answers i []) (get_or l.list-items i []);
  left : (i : ℕ) → l.input ≤ i → i < l.table.inputs → get_or l.list-items i [] ≡ get_or l.fn.answers i [];
}
