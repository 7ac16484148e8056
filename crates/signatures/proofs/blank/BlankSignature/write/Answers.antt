use Rattle.std.proofs.Common.{refl, sym, ◌-◌, ◌∙◌, arith}
use Rattle.signatures.proofs.Asking.{given_no_place}
use Rattle.signatures.proofs.blank.BlankSignature.write.Goals as goal

pub returns-clause-written : goal.returns-clause-written
returns-clause-written g c = λ i li. record {
  len = refl;
  before = λ p _. refl;
  after = λ p le _. (c.requires.free i li).blank p le ∙ sym (given_no_place 0 (λ _ _ _ _. 0) c.args._table.now.inputs c.args._table.now.rows.now i (p - c.args._from) (omega arith));
}
