use Rattle.std.proofs.Common.{◌≡◌, ℕ, ◌<◌, get_or}
use Rattle.signatures.specs.Values.{refined_from}
use Rattle.signatures.proofs.refined.BelowPerInput.put.Given as goal

abbrev pub invariant-loop-place : goal.invariant-loop-place
invariant-loop-place g l = (p : ℕ) → p < l.place → get_or l.answer-items p 0 ≡ refined_from l.self.sums.now l.self.answers.now l.table.inputs l.input p
