use Rattle.inventory.proofs.Labels.{all_free, unshared}
use Rattle.inventory.proofs.shelf.Shelf.open.Goals as goal

pub invariant_of-result-clause-past : goal.invariant_of-result-clause-past
invariant_of-result-clause-past c = λ k le. all_free 64 k

pub invariant_of-result-clause-once : goal.invariant_of-result-clause-once
invariant_of-result-clause-once c = λ j k on. absurd (unshared _ _ (all_free 64 j) on)
