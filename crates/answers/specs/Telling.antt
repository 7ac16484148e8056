-- Answers of the program as the law of runs speaks of them.
use Rattle.std.specs.Prelude.{take, Ok, Err, Result}
use Rattle.refusals.specs.Numbers.{number}
use Rattle.refusals.specs.declared.refusal.Refusal.{Refusal}
use Rattle.ledger.specs.Questions.{Answer, done, refused, proposed}
use Rattle.inventory.specs.declared.proposal.Proposal.{Proposal}
use Rattle.answers.specs.declared.reply.Reply.{Reply}
use Rattle.answers.specs.declared.reply.Reply.TheVariants.{Done, Fit}

-- what a proposal offers: the part's number, the pin of each input in order, and how many pairs are struck
abbrev pub offers : Proposal → Answer
offers p = proposed p.number p.wiring.inputs (take p.wiring.inputs p.wiring.pins) p.struck

-- what an answer of the program tells
abbrev pub told : Result Reply Refusal → Answer
told (Ok Done) = done
told (Ok (Fit proposal)) = offers proposal
told (Err reason) = refused (number reason)
