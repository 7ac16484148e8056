use Rattle.std.proofs.Common.{rules, ◌≡◌, ◌<◌, length, subst, sym, arith, ⊎_elim}
use Rattle.tokens.specs.declared.characters.Kind.TheVariants.{Digit}
use Rattle.tokens.specs.Characters.{Is}
use Rattle.tokens.proofs.Digits.{Sofar, shape, sofar_bound, sofar_more, sofar_done}
use Rattle.tokens.proofs.Runs.{digit_at}
use Rattle.tokens.proofs.numerals.number_of.Goals as goal
use Rattle.tokens.proofs.numerals.number_of.Goals.{In-loop-byte}

pub returns-then-is_empty : goal.returns-then-is_empty
returns-then-is_empty c = λ n small e.
    let s = shape c.args.run.now n small e in
    ⊎_elim (λ empty. let zero : length c.args.run.now ≡ 0 = search rules in omega arith) (λ long. omega (arith, long.1)) c.then-is_empty.either

pub returns-then-run-gt1 : goal.returns-then-run-gt1
returns-then-run-gt1 c = λ n small e. omega (arith, (shape c.args.run.now n small e).lead)

bounded : (c : In-loop-byte) → c.loop-byte.number < 100000
bounded c = sofar_bound c.args.run.now _ _ (omega arith) (omega arith) c.loop-byte.invariant

pub overflow_mul-number : goal.overflow_mul-number
overflow_mul-number c = omega (arith, bounded c)

pub overflow_add-number : goal.overflow_add-number
overflow_add-number c = omega (arith, bounded (goal.at.overflow_add-number c).In-loop-byte, c.in_ok-number.ensures)

pub returns-in_err-number : goal.returns-in_err-number
returns-in_err-number c =
    rw c.from_residual.ensures
    (λ n small e. c.in_err-number.ensures (subst (Is Digit) (sym c.from.ensures) (digit_at c.args.run.now _ (shape c.args.run.now n small e).all (omega arith))))

pub loop-byte-preserved : goal.loop-byte-preserved
loop-byte-preserved c =
    let digit = c.in_ok-number.ensures in
    sofar_more c.args.run.now _ _ c.from.result _ (omega arith) c.loop-byte.invariant c.from.ensures digit.0 digit.1

pub returns : goal.returns
returns c =
    let whole : c.loop-byte.byte-index ≡ length c.args.run.now = omega arith in
    sofar_done c.args.run.now c.loop-byte.number (omega arith) (search rules)
    (λ zero. ⊎_elim (λ one. search rules) (λ other. absurd (other zero)) c.else-run-eq48.either)
    (subst (λ i. Sofar c.args.run.now i c.loop-byte.number) whole c.loop-byte.invariant)
