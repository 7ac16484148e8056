-- Calls and answers as the ledger and the law speak of them.
use Rattle.std.specs.Prelude.{take, Ok, Err, Result}
use Rattle.refusals.specs.Numbers.{number}
use Rattle.refusals.specs.declared.refusal.Refusal.{Refusal}
use Rattle.ledger.specs.Ledger.{Call as LedgerCall, enter, remove, ask}
use Rattle.ledger.specs.Questions.{Answer, done, refused, proposed, measured, Question as LedgerQuestion, fit, spread}
use Rattle.runs.specs.declared.answer.Grant.{Grant}
use Rattle.runs.specs.declared.answer.Grant.TheVariants.{Done, Proposed, Spread}
use Rattle.runs.specs.declared.call.Call.{Call}
use Rattle.runs.specs.declared.call.Call.TheVariants.{Enter, Drop, Ask}
use Rattle.runs.specs.declared.question.Question.{Question}
use Rattle.runs.specs.declared.question.Question.TheVariants.{Fit, Spread as AskSpread}

-- the question that one of the program is
abbrev pub question_of : {R P : Type 0} → Question R P → LedgerQuestion R P
question_of (Fit inputs card pile) = fit inputs card.now pile.now
question_of (AskSpread n inputs card pile) = spread n inputs card.now pile.now

-- what a call of the program asks
abbrev pub said : {R P : Type 0} → Call R P → LedgerCall R (LedgerQuestion R P)
said (Enter n inputs rows) = enter n inputs rows.now
said (Drop n) = remove n
said (Ask question) = ask (question_of question)

-- what a call that is granted tells
abbrev pub tells : Grant → Answer
tells Done = done
tells (Proposed p) = proposed p.number p.wiring.inputs (take p.wiring.inputs p.wiring.pins) p.struck
tells (Spread k) = measured k

-- what the result of a call tells, where its value is granted so
abbrev pub answered : {T : Type 0} → (T → Grant) → Result T Refusal → Answer
answered grant (Ok value) = tells (grant value)
answered grant (Err reason) = refused (number reason)

-- what an answer of the program tells
abbrev pub told : Result Grant Refusal → Answer
told answer = answered (λ grant. grant) answer
