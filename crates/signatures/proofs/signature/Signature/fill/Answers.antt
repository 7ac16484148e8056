use Rattle.signatures.proofs.Places.{blank_block}
use Rattle.signatures.proofs.signature.Signature.fill.Goals as goal

pub write-requires-clause-free : goal.write-requires-clause-free
write-requires-clause-free g c = blank_block c.args.table.now.inputs c.args.table.now.few
