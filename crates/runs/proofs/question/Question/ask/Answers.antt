use Rattle.std.proofs.Common.{rules, ◌≡◌, length}
use Rattle.ledger.specs.Refused.{fit_due}
use Rattle.ledger.specs.Questions.{list_by}
use Rattle.inventory.specs.Slots.{memory_due, Held}
use Rattle.runs.specs.Transcript.{answered, told}
use Rattle.runs.specs.declared.answer.Grant.TheVariants.{Proposed}
use Rattle.runs.proofs.Questions.{fit_owed}
use Rattle.runs.proofs.question.Question.ask.Goals as goal

pub returns-in-Fit : goal.returns-in-Fit
returns-in-Fit g c =
    let tells : told c.map.result ≡ answered Proposed c.fit.result = search rules in
    let shelf = c.args.shelf.now in
    let memory = c.args.memory.now in
    let inputs = c.in-Fit.inputs in
    let card = c.in-Fit.card.now in
    rw (c.in-Fit.is, tells)
    (fit_owed g.R.RowKind.same (list_by g.P.Signature.count g.P.Signature.value) (Held shelf.slots memory) inputs card c.in-Fit.pile.now
    (fit_due (memory_due shelf.count (length memory)) inputs (length card)) c.fit.result c.fit.ensures)
