-- What questions keep, and that the questions to a shelf keep it.
use Rattle.std.proofs.Common.{◌≡◌, ℕ, Bool, List, length, sym, refl, ap, ◌∙◌, inl, inr, ⊎_elim, arith}
use Rattle.refusals.specs.Due.{Due}
use Rattle.tables.specs.Wirings.{pin}
use Rattle.ledger.specs.Refused.{spread_due}
use Rattle.ledger.specs.Ledger.{Part}
use Rattle.ledger.specs.Questions.{Answer, refused, proposed, measured, Questions, Question, fit, spread, NoPart, Proposes, Spreads, question_due, QuestionRight, shelf_questions}
use Rattle.ledger.proofs.Serving.{no_part_over, proposes_over, spreads_over}
use Rattle.ledger.proofs.Orders.{first_pins}

-- parts that stand under one number are one part
abbrev pub Single : {R : Type 0} → (Part R → Type 0) → Type 0
Single {R} standing = (p q : Part R) → standing p → standing q → p.number ≡ q.number → p ≡ q

-- what the law of runs rests on
pub record Lawful {R Q : Type 0} (questions : Questions R Q) : Type 1 where
  -- what is due depends on which tests standing parts pass
  pub steady : (memory : Due) (a b : (ℕ → ℕ → Bool) → Bool) → ((test : ℕ → ℕ → Bool) → a test ≡ b test)
      → (question : Q) → questions.due memory a question ≡ questions.due memory b question
  -- what is right depends on which parts stand
  pub over : (A B : Part R → Type 0) → ((p : Part R) → A p → B p) → ((p : Part R) → B p → A p)
      → (question : Q) (answer : Answer) → questions.right A question answer → questions.right B question answer
  -- one answer is right
  pub one : (standing : Part R → Type 0) → Single standing → (question : Q) (a b : Answer)
      → questions.right standing question a → questions.right standing question b → a ≡ b

-- no questions, of which all of it holds
abbrev pub nothing_asked : {R : Type 0} → Questions R ⊥
nothing_asked = record { due = λ memory some question. absurd question; right = λ standing question answer. ⊥ }

pub nothing_lawful : {R : Type 0} → Lawful (nothing_asked {R = R})
nothing_lawful = record {
  steady = λ memory a b equal question. absurd question;
  over = λ A B to from question answer x. absurd x;
  one = λ standing single question a b x y. absurd x;
}

module _ {R P : Type 0} (same : R → R → Bool) (list : P → ℕ → List R → ℕ → List ℕ) where
  module _ (standing : Part R → Type 0) (inputs : ℕ) (card : List R) (pile : P) where
    abbrev None : Type 0
    None = NoPart same list standing inputs card

    abbrev Proposal : ℕ → (ℕ → ℕ) → ℕ → Type 0
    Proposal = Proposes same list standing inputs card pile

    abbrev Measure : ℕ → ℕ → Type 0
    Measure = Spreads same list standing inputs card pile

    -- what a fit is answered of which nothing is due
    abbrev Fit : Answer → Type 0
    Fit = QuestionRight same list standing (fit inputs card pile)

    one_spread : {number j k : ℕ} → Single standing → Measure number j → Measure number k → j ≡ k
    one_spread single x y =
        let one = single x.part y.part x.stands y.stands (x.named ∙ sym y.named) in
        cc

    one_part : {m n : ℕ} {w v : ℕ → ℕ} {s t : ℕ} → (x : Proposal m w s) (y : Proposal n v t) → x.part ≡ y.part
    one_part {w = w} {v = v} x y =
        ⊎_elim
        (λ e. sym e)
        (λ lower. ⊎_elim (λ e. e) (λ higher. absurd (omega (arith, x.named, y.named))) (y.lowest x.part w x.stands x.serves))
        (x.lowest y.part v y.stands y.serves)

    one_proposal : {m n : ℕ} {xs ys : List ℕ} {s t : ℕ} → length xs ≡ inputs → length ys ≡ inputs → Proposal m (pin xs) s → Proposal n (pin ys) t
        → proposed m inputs xs s ≡ proposed n inputs ys t
    one_proposal {xs = xs} {ys = ys} lx ly x y =
        let one = one_part x y in
        let pins = first_pins inputs xs ys lx ly (x.first (pin ys) (rw one y.serves)) (y.first (pin xs) (rw (← one) x.serves)) in
        cc

    some_part : {number : ℕ} {w : ℕ → ℕ} {struck : ℕ} → Proposal number w struck → None → ⊥
    some_part {w = w} x empty = empty x.part w x.stands x.serves

    one_fit : (a b : Answer) → Fit a → Fit b → a ≡ b
    one_fit a b (inl x) (inl y) = x.0 ∙ sym y.0
    one_fit a b (inl x) (inr y) = absurd (some_part y.5 x.1)
    one_fit a b (inr x) (inl y) = absurd (some_part x.5 y.1)
    one_fit a b (inr x) (inr y) = x.3 ∙ one_proposal x.4 y.4 x.5 y.5 ∙ sym y.3

    pub ten : (answer : Answer) → Fit answer → (answer ≡ refused 10 → None) × (None → answer ≡ refused 10)
    ten answer (inl x) = ((λ _. x.1), λ _. x.0)
    ten answer (inr x) = ((λ e. let z : ◌≡◌ {A = ℕ} 0 1 = cc x.3 in absurd (omega arith)), λ empty. absurd (some_part x.5 empty))

  due_steady : (memory : Due) (a b : (ℕ → ℕ → Bool) → Bool) → ((test : ℕ → ℕ → Bool) → a test ≡ b test)
      → (question : Question R P) → question_due same list memory a question ≡ question_due same list memory b question
  due_steady memory a b equal (fit inputs card pile) = refl
  due_steady memory a b equal (spread number inputs card pile) = ap (λ on. spread_due memory on number inputs (length card)) (equal _)

  right_over : (A B : Part R → Type 0) → ((p : Part R) → A p → B p) → ((p : Part R) → B p → A p)
      → (question : Question R P) (answer : Answer) → QuestionRight same list A question answer → QuestionRight same list B question answer
  right_over A B to from (fit inputs card pile) answer (inl x) = inl (x.0, no_part_over same list inputs card A B to from x.1)
  right_over A B to from (fit inputs card pile) answer (inr (number, pins, struck, is, sized, x)) =
      inr (number, pins, struck, is, sized, proposes_over same list inputs card A B to from pile number (pin pins) struck x)
  right_over A B to from (spread number inputs card pile) answer (k, is, x) = (k, is, spreads_over same list inputs card A B to from pile number k x)

  one_right : (standing : Part R → Type 0) → Single standing → (question : Question R P) (a b : Answer)
      → QuestionRight same list standing question a → QuestionRight same list standing question b → a ≡ b
  one_right standing single (fit inputs card pile) a b x y = one_fit standing inputs card pile a b x y
  one_right standing single (spread number inputs card pile) a b x y =
      x.1 ∙ ap measured (one_spread standing inputs card pile single x.2 y.2) ∙ sym y.1

  pub shelf_lawful : Lawful (shelf_questions same list)
  shelf_lawful = record { steady = due_steady; over = right_over; one = one_right }
