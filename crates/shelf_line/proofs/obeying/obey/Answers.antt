use Rattle.std.proofs.Common.{rules, ◌≡◌, ◌∙◌, Some, length, take, ap, refl, inr}
use Rattle.ledger.specs.Ledger.{unread}
use Rattle.ledger.specs.Questions.{list_by, questions_by}
use Rattle.ledger.specs.Refused.{fit_due}
use Rattle.inventory.specs.Slots.{memory_due, Held}
use Rattle.runs.specs.Transcript.{answered}
use Rattle.runs.proofs.Questions.{fit_owed}
use Rattle.runs.specs.declared.answer.Grant.TheVariants.{Done, Proposed}
use Rattle.answers.specs.Telling.{told}
use Rattle.shelf_line.proofs.Forms.{part_obeys, drop_obeys, card_obeys}
use Rattle.rows.specs.Kinds.{on_off_same}
use Rattle.shelf_line.proofs.obeying.obey.Goals as goal

pub returns-in_default : goal.returns-in_default
returns-in_default g c = (unread 1, inr (c.in_default.ensures, refl), (refl, refl, refl))

pub returns-in-Part : goal.returns-in-Part
returns-in-Part g c =
    let tells : told c.map.result ≡ answered (λ _. Done) c.enter.result = search rules in
    let digits = c.in-Part.digits in
    part_obeys (questions_by on_off_same g.P.Signature.count g.P.Signature.value) c.args.pile.now c.args.line.now c.args.shelf.now c.args.memory.now (told c.map.result) c.enter.new.self c.enter.new.memory
    c.in-Part.number c.in-Part.inputs digits (take (length digits.now) c.rows_of-rows.result) (rw (c.in-Some.is ∙ ap Some c.in-Part.is) at c.read.ensures) c.rows_of-rows.ensures
    (c.enter.result, tells, c.enter.ensures)

pub returns-in-Drop : goal.returns-in-Drop
returns-in-Drop g c =
    let tells : told c.map-in-Drop.result ≡ answered (λ _. Done) c.drop_part.result = search rules in
    drop_obeys (questions_by on_off_same g.P.Signature.count g.P.Signature.value) c.args.pile.now c.args.line.now c.args.shelf.now c.args.memory.now (told c.map-in-Drop.result) c.drop_part.new.self c.args.memory.now
    c.in-Drop.number (rw (c.in-Some.is ∙ ap Some c.in-Drop.is) at c.read.ensures)
    (c.drop_part.result, tells, refl, c.drop_part.ensures)

pub returns-in-Card : goal.returns-in-Card
returns-in-Card g c =
    let tells : told c.map-in-Card.result ≡ answered Proposed c.fit.result = search rules in
    let shelf = c.args.shelf.now in
    let memory = c.args.memory.now in
    let digits = c.in-Card.digits in
    card_obeys (questions_by on_off_same g.P.Signature.count g.P.Signature.value) c.args.pile.now c.args.line.now c.args.shelf.now c.args.memory.now (told c.map-in-Card.result) c.args.shelf.now c.args.memory.now
    c.in-Card.inputs digits (take (length digits.now) c.rows_of-card.result) (rw (c.in-Some.is ∙ ap Some c.in-Card.is) at c.read.ensures) c.rows_of-card.ensures (
      rw tells (fit_owed on_off_same (list_by g.P.Signature.count g.P.Signature.value) (Held shelf.slots memory) c.in-Card.inputs (take (length digits.now) c.rows_of-card.result) c.args.pile.now
          (fit_due (memory_due shelf.count (length memory)) c.in-Card.inputs (length (take (length digits.now) c.rows_of-card.result))) c.fit.result c.fit.ensures),
      refl,
      refl,
    )
