-- Entries taken one after the other: one more at the end of a list.
use Rattle.std.proofs.Common.{◌≡◌, ℕ, ◌+◌, ◌<◌, ◌≤◌, true, leb, List, [], ◌∷◌, ◌++◌, length, get_or, take, drop, Ok, refl, sym, ap, ◌∙◌, subst, arith}
use Rattle.std.proofs.lemmas.Bool.{leb-true}
use Rattle.std.proofs.lemmas.Grind.{common_steps}
use Rattle.std.proofs.lemmas.List.{drop-drop, drop-take, length-drop, take_more, take-append-drop}
use Rattle.std.proofs.lemmas.List.Sums.{sum_by-cons, sum_by_push, sum_by-take-le}
use Rattle.ledger.specs.Ledger.{Call, after, ledger_from}
use Rattle.ledger.specs.Questions.{Answer, Questions}
use Rattle.refusals.specs.Due.{none}
use Rattle.ledger.specs.Law.{RightFor, Answered}
use Rattle.ledger.proofs.Questions.{Lawful as Keeps}
use Rattle.ledger.proofs.One.{one_transcript}
use Rattle.inventory.specs.Stocking.{open_due, IsEmpty}
use Rattle.inventory.specs.declared.shelf.Shelf.{Shelf}
use Rattle.runs.specs.Holding.{Holds}
use Rattle.runs.specs.Entries.{Lent, Entries, rooms, OneCall, OneTelling, AreCalls, AllTell, Takes, Lawful, EntriesPlayed, EntriesOpened, OneWriting}
use Rattle.runs.proofs.Stock.{empty_holds}
use Rattle.runs.proofs.Turns.{answered_more, ledger_more, does_more}

-- memory in which what stands from start on is replaced
abbrev pub replaced : (start : ℕ) → List ℕ → List ℕ → List ℕ
replaced start memory new = take start memory ++ (new ++ drop (length new) (drop start memory))

front_kept : (n start : ℕ) (memory new : List ℕ) → n + start + length new ≤ length memory → take n (replaced (n + start) memory new) ≡ take n memory
front_kept n start memory new fits = grind (arith, common_steps)

rest_replaced : (n start : ℕ) (memory new : List ℕ) → n + start + length new ≤ length memory
    → drop n (replaced (n + start) memory new) ≡ replaced start (drop n memory) new
rest_replaced n start memory new fits = grind (arith, common_steps, drop-take n start memory, drop-drop start n memory)

pub one_more : {X : Type 0} (xs : List X) (k : ℕ) (x : X) → k < length xs → x ≡ get_or xs k x → take (k + 1) xs ≡ take k xs ++ x ∷ []
one_more xs k x lt is = take_more xs k x lt ∙ ap (λ y. take k xs ++ y ∷ []) (sym is)

module _ {X A : Type 0} (lent : Lent X A) where
  module _ (xs : List X) (k : ℕ) (x : X) (lt : k < length xs) (is : x ≡ get_or xs k x) where
    pub rooms_more : rooms lent (take (k + 1) xs) ≡ rooms lent (take k xs) + lent.room x
    rooms_more = ap (rooms lent) (one_more xs k x lt is) ∙ sum_by_push lent.room (take k xs) x

    -- what is lent to an entry lies within the whole of it
    pub entry_fits : (start size : ℕ) → start ≡ rooms lent (take k xs) → true ≡ leb (rooms lent xs) size → start + lent.room x ≤ size
    entry_fits start size at enough =
        omega (arith, at, rooms_more, sum_by-take-le lent.room xs (k + 1), leb-true (rooms lent xs) size (sym enough))

  pub rooms_within : (xs : List X) (k : ℕ) → rooms lent (take k xs) ≤ rooms lent xs
  rooms_within xs k = sum_by-take-le lent.room xs k

  -- one entry more at the end, with what is lent to it
  tell_more : (xs : List X) (answers : List A) (before memory : List ℕ) (tells : List Answer) (x : X) (t : A) (new : List ℕ) (a : Answer)
      → rooms lent xs + lent.room x ≤ length memory → length memory ≡ length before → length new ≡ lent.room x
      → AllTell lent xs answers before memory tells → lent.Tells x t (take (lent.room x) (drop (rooms lent xs) memory)) new a
      → AllTell lent (xs ++ x ∷ []) (answers ++ t ∷ []) before (replaced (rooms lent xs) memory new) (tells ++ a ∷ [])
  tell_more [] [] before memory [] x t new a fits long sized so tells =
      let here : take (lent.room x) (replaced 0 memory new) ≡ new = grind (arith, common_steps, sized) in
      let past : drop (lent.room x) (replaced 0 memory new) ≡ drop (lent.room x) before = grind (arith, common_steps, sized, so) in
      (rw (here, ← so) tells, past)
  tell_more (y ∷ xs) (s ∷ answers) before memory (b ∷ rest) x t new a fits long sized so tells =
      let e : rooms lent (y ∷ xs) ≡ lent.room y + rooms lent xs = sum_by-cons lent.room y xs in
      let whole : lent.room y + rooms lent xs + length new ≤ length memory = omega (arith, fits, e, sized) in
      let begun : drop (lent.room y + rooms lent xs) memory ≡ drop (rooms lent xs) (drop (lent.room y) memory) = sym (drop-drop (rooms lent xs) (lent.room y) memory) in
      let next = rw (e, begun) at tells in
      rw (e, front_kept (lent.room y) (rooms lent xs) memory new whole, rest_replaced (lent.room y) (rooms lent xs) memory new whole) (
        so.0,
        tell_more xs answers (drop (lent.room y) before) (drop (lent.room y) memory) rest x t new a
            (omega (arith, whole, sized, length-drop (lent.room y) memory)) (omega (arith, long, length-drop (lent.room y) memory, length-drop (lent.room y) before)) sized so.1 next,
      )
  tell_more [] [] before memory (b ∷ rest) x t new a fits long sized so tells = absurd so
  tell_more [] (s ∷ answers) before memory rest x t new a fits long sized so tells = absurd so
  tell_more (y ∷ xs) [] before memory rest x t new a fits long sized so tells = absurd so
  tell_more (y ∷ xs) (s ∷ answers) before memory [] x t new a fits long sized so tells = absurd so

module _ {X A C : Type 0} (kind : Entries X A C) where
  calls_more : (xs : List X) (calls : List C) (x : X) (c : C) → AreCalls kind xs calls → kind.IsCall x c → AreCalls kind (xs ++ x ∷ []) (calls ++ c ∷ [])
  calls_more [] [] x c so is = (is, tt)
  calls_more [] (d ∷ calls) x c so is = absurd so
  calls_more (y ∷ xs) [] x c so is = absurd so
  calls_more (y ∷ xs) (d ∷ calls) x c so is = (so.0, calls_more xs calls x c so.1 is)

module _ {R Q X A : Type 0} (questions : Questions R Q) (kind : Entries X A (Call R Q)) where
  -- one entry more at the end of a list that is played
  pub lawful_more : (xs : List X) (first : Shelf) (memory0 : List R) (answers : List A) (before bytes before_words words : List ℕ) (shelf : Shelf) (memory : List R)
      (x : X) (t : A) (new new_words : List ℕ) (shelf' : Shelf) (memory' : List R)
      → shelf.count ≡ first.count
      → rooms kind.bytes xs + kind.bytes.room x ≤ length bytes → length bytes ≡ length before → length new ≡ kind.bytes.room x
      → rooms kind.words xs + kind.words.room x ≤ length words → length words ≡ length before_words → length new_words ≡ kind.words.room x
      → Lawful questions kind xs first memory0 answers before bytes before_words words shelf memory
      → Takes questions kind x shelf memory (take (kind.bytes.room x) (drop (rooms kind.bytes xs) bytes)) (take (kind.words.room x) (drop (rooms kind.words xs) words)) t shelf' memory' new new_words
      → Lawful questions kind (xs ++ x ∷ []) first memory0 (answers ++ t ∷ []) before (replaced (rooms kind.bytes xs) bytes new) before_words (replaced (rooms kind.words xs) words new_words) shelf' memory'
  lawful_more xs first memory0 answers before bytes before_words words shelf memory x t new new_words shelf' memory' count fits long sized fits_words long_words sized_words (calls, tells, are, told, told_words, did, holds) (c, a, is, so, so_words, leads, does) = (
    calls ++ c ∷ [],
    tells ++ a ∷ [],
    calls_more kind xs calls x c are is,
    tell_more kind.bytes xs answers before bytes tells x t new a fits long sized told so,
    tell_more kind.words xs answers before_words words tells x t new_words a fits_words long_words sized_words told_words so_words,
    does_more questions calls tells first memory0 shelf memory c a shelf' memory' did does,
    λ parts h.
        let then = holds parts h in
        let standing = ledger_from first.count parts calls in
        let next = leads.1 standing then.1 in
        let right = subst (λ n. RightFor questions n standing c a) count next.0 in
        let held = subst (λ n. Holds shelf'.slots memory' (after n standing c)) count next.1 in
        rw (ledger_more first.count parts calls c) (answered_more questions first.count parts calls tells c a then.0 right, held),
  )

  -- playing on a shelf just opened
  pub entries_opened : (xs : List X) (memory : List R) (bytes words : List ℕ) (answers : List A)
      (slots : ℕ) (shelf shelf' : Shelf) (memory' : List R) (bytes' words' : List ℕ) (answers' : List A)
      → open_due slots ≡ none → IsEmpty slots shelf → EntriesPlayed questions kind xs memory bytes words answers shelf (Ok tt) shelf' memory' bytes' words' answers'
      → EntriesOpened questions kind xs memory bytes words answers slots (Ok shelf') memory' bytes' words' answers'
  entries_opened xs memory bytes words answers slots shelf shelf' memory' bytes' words' answers' lawful empty (due, count, kept, (calls, tells, are, told, told_words, did, law)) =
      let then = law [] (empty_holds shelf.slots memory empty.1) in
      subst (λ n. EntriesOpened questions kind xs memory bytes words answers n (Ok shelf') memory' bytes' words' answers') empty.0
      (rw (empty.0, lawful) (rw empty.0 at due), count, kept, (calls, tells, are, told, told_words, then.0, then.1, (shelf, (refl, empty.1), did)))

-- where each entry is one call and tells in one way, lists of them do
module _ {X A C : Type 0} (kind : Entries X A C) where
  one_calls : OneCall kind → (xs : List X) (calls others : List C) → AreCalls kind xs calls → AreCalls kind xs others → calls ≡ others
  one_calls one [] [] [] is so = refl
  one_calls one [] [] (d ∷ others) is so = absurd so
  one_calls one [] (c ∷ calls) others is so = absurd is
  one_calls one (x ∷ xs) [] others is so = absurd is
  one_calls one (x ∷ xs) (c ∷ calls) [] is so = absurd so
  one_calls one (x ∷ xs) (c ∷ calls) (d ∷ others) is so =
      let here = one x c d is.0 so.0 in
      let rest = one_calls one xs calls others is.1 so.1 in
      cc

module _ {X A : Type 0} (lent : Lent X A) where
  one_writing_of : OneTelling lent → (xs : List X) (answers others : List A) (bytes after after' : List ℕ) (tells : List Answer)
      → AllTell lent xs answers bytes after tells → AllTell lent xs others bytes after' tells → after ≡ after'
  one_writing_of one [] [] [] bytes after after' [] is so = is ∙ sym so
  one_writing_of one (x ∷ xs) (t ∷ answers) (u ∷ others) bytes after after' (a ∷ tells) is so =
      let n = lent.room x in
      let here = one x t u (take n bytes) (take n after) (take n after') a is.0 so.0 in
      let rest = one_writing_of one xs answers others (drop n bytes) (drop n after) (drop n after') tells is.1 so.1 in
      sym (take-append-drop n after) ∙ ap (λ front. front ++ drop n after) here ∙ ap (λ back. take n after' ++ back) rest ∙ take-append-drop n after'
  one_writing_of one [] [] [] bytes after after' (a ∷ tells) is so = absurd is
  one_writing_of one [] [] (u ∷ others) bytes after after' tells is so = absurd so
  one_writing_of one [] (t ∷ answers) others bytes after after' tells is so = absurd is
  one_writing_of one (x ∷ xs) [] others bytes after after' tells is so = absurd is
  one_writing_of one (x ∷ xs) (t ∷ answers) [] bytes after after' tells is so = absurd so
  one_writing_of one (x ∷ xs) (t ∷ answers) (u ∷ others) bytes after after' [] is so = absurd is

module _ {R Q X A : Type 0} (questions : Questions R Q) (keeps : Keeps questions) (kind : Entries X A (Call R Q)) where
  pub one_writing : (lent : Lent X A) → OneCall kind → OneTelling lent → OneWriting questions kind lent
  one_writing lent one_call one_telling slots xs memory calls calls' tells tells' answers answers' after after' are right told are' right' told' =
      let same = one_calls kind one_call xs calls calls' are are' in
      let one = one_transcript questions keeps slots calls' tells tells' (subst (λ cs. Answered questions slots [] cs tells) same right) right' in
      (one, one_writing_of lent one_telling xs answers answers' memory after after' tells' (subst (AllTell lent xs answers memory after) one told) told')
