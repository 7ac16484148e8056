-- How long the parts of an answer's text are.
use Rattle.std.proofs.Common.{◌≡◌, ℕ, ◌<◌, ◌≤◌, length, take, arith}
use Rattle.std.specs.Fmt.{decimal}
use Rattle.std.proofs.lemmas.Fmt.{length-decimal-le}
use Rattle.inventory.specs.declared.proposal.Proposal.{Proposal}
use Rattle.texts.proofs.Lengths.{length-pins_text-take}

pub length-decimal-byte : (n : ℕ) → n < 256 → length (decimal n) ≤ 3
length-decimal-byte n byte = length-decimal-le 3 n (omega arith) (omega arith) (omega arith)

pub length-decimal-number : (p : Proposal) → length (decimal p.number) ≤ 4
length-decimal-number p = length-decimal-le 4 p.number (omega arith) (omega (arith, p.numbered)) (omega (arith, p.numbered))

pub length-decimal-struck : (p : Proposal) → length (decimal p.struck) ≤ 3
length-decimal-struck p = length-decimal-le 3 p.struck (omega arith) (omega (arith, p.few)) (omega (arith, p.few))

pub ruleset lengths = (arith, length-decimal-byte, length-decimal-number, length-decimal-struck, length-pins_text-take)
