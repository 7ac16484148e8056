-- A conversation on a shelf just opened.
use Rattle.std.proofs.Common.{◌≡◌, ℕ, List, [], ◌++◌, map, take, sym, refl, ap, ◌∙◌, subst, inl, inr, arith}
use Rattle.std.proofs.lemmas.List.{append_assoc, append-nil}
use Rattle.rows.specs.declared.on_off.OnOff.{OnOff}
use Rattle.ledger.specs.Ledger.{ledger_from}
use Rattle.ledger.specs.Law.{Answered}
use Rattle.ledger.specs.Questions.{Answer}
use Rattle.inventory.specs.Stocking.{IsEmpty}
use Rattle.inventory.specs.declared.shelf.Shelf.{Shelf}
use Rattle.runs.specs.Holding.{Holds}
use Rattle.runs.proofs.Stock.{empty_holds}
use Rattle.shelf_line.specs.Lines.{OnOffQuestions}
use Rattle.line_service.specs.Peers.{PassesInOrder}
use Rattle.line_service.specs.Lines.{split, last, lines, kept}
use Rattle.line_service.specs.Service.{Plays, Talks, TalksInPart, Says, SaysInPart, Hears, HearsInPart, Conversation, AnswersTo, BreaksOff}
use Rattle.line_service.proofs.Passing.{then_read, then_written, then_nothing}
use Rattle.line_service.proofs.Composing.{kept_append, talks_append, talks_then_part, talks_whole, talks_nothing}
use Rattle.line_service.proofs.Cutting.{kept_lines, whole_lines, read_whole, front_lines}

module _ {P : Type 0} (questions : OnOffQuestions P) (pile : P) (shelf : Shelf) (memory : List OnOff) where
  module _ {C : Type 0} (passes : C → List ℕ → List ℕ → C → Type 0) (in_order : PassesInOrder passes) (peer : C) where
    -- nothing more is written
    pub says_kept : (lines : List (List ℕ)) (a : Shelf) (m : List OnOff) (p : C) (b : Shelf) (n : List OnOff) (q r : C)
        → Says questions pile passes lines a m p b n q → passes q [] [] r → Says questions pile passes lines a m p b n r
    says_kept lines a m p b n q r (text, passed, talks) then = (text, then_nothing passes in_order p q r [] text passed then, talks)

    pub says_whole : (lines : List (List ℕ)) (a : Shelf) (m : List OnOff) (p : C) (b : Shelf) (n : List OnOff) (q : C)
        → Says questions pile passes lines a m p b n q → SaysInPart questions pile passes lines a m p b n q
    says_whole lines a m p b n q (text, passed, talks) = (text, passed, talks_whole questions pile a m b n lines text talks)

    -- what some bytes of a peer lead to
    abbrev pub Goes : (bytes : List ℕ) → C → (begun' : List ℕ) → Shelf → List OnOff → Type 0
    Goes bytes peer' begun' shelf' memory' =
        (text : List ℕ) × passes peer bytes text peer' × (begun' ≡ (kept 1101 [] bytes).begun) × Talks questions pile (kept 1101 [] bytes).whole shelf memory text shelf' memory'

    pub goes_nothing : passes peer [] [] peer → Goes [] peer [] shelf memory
    goes_nothing nothing = ([], nothing, refl, talks_nothing questions pile shelf memory)

    module _ (bytes begun' : List ℕ) (shelf' : Shelf) (memory' : List OnOff) where
      pub goes_kept : (p q : C) → Goes bytes p begun' shelf' memory' → passes p [] [] q → Goes bytes q begun' shelf' memory'
      goes_kept p q (text, passed, is, talks) then = (text, then_nothing passes in_order peer p q bytes text passed then, is, talks)

      pub goes_on : (chunk begun2 : List ℕ) (shelf2 : Shelf) (memory2 : List OnOff) (p q r : C) → Goes bytes p begun' shelf' memory' → passes p chunk [] q
          → Hears questions pile passes begun' chunk shelf' memory' q begun2 shelf2 memory2 r → Goes (bytes ++ chunk) r begun2 shelf2 memory2
      goes_on chunk begun2 shelf2 memory2 p q r (text, passed, is, talks) read (so, (more, wrote, then)) =
          let kept_so = kept 1101 [] bytes in (
            text ++ more,
            then_written passes in_order peer q r (bytes ++ chunk) text more (then_read passes in_order peer p q bytes chunk text passed read) wrote,
            rw (kept_append 1101 [] bytes chunk) (so ∙ ap (λ l. (kept 1101 l chunk).begun) is),
            rw (kept_append 1101 [] bytes chunk)
                (talks_append questions pile shelf memory shelf' memory' shelf2 memory2 kept_so.whole (kept 1101 kept_so.begun chunk).whole text more talks
                (subst (λ l. Talks questions pile (kept 1101 l chunk).whole shelf' memory' more shelf2 memory2) is then)),
          )

  module _ (slots : ℕ) (empty : IsEmpty slots shelf) where
    opened : (whole fronts : List (List ℕ)) (answers : List Answer) (shelf' : Shelf) (memory' : List OnOff)
        → fronts ≡ map (take 1101) whole → Plays questions pile fronts shelf memory answers shelf' memory' → Conversation questions pile slots whole answers memory'
    opened whole fronts answers shelf' memory' are (calls, read, count, holds) =
        let law = holds [] (empty_holds shelf.slots memory empty.1) in (
          calls,
          read_whole pile whole calls (rw are at read),
          subst (λ n. Answered questions n [] calls answers) empty.0 law.0,
          (shelf', count ∙ empty.0, subst (λ n. Holds shelf'.slots memory' (ledger_from n [] calls)) empty.0 law.1),
        )

    module _ {C : Type 0} (passes : C → List ℕ → List ℕ → C → Type 0) (in_order : PassesInOrder passes) (peer : C)
        (bytes begun' : List ℕ) (shelf' : Shelf) (memory' : List OnOff) where
      -- each line that is whole is answered
      pub answers_whole : (p : C) → Goes passes in_order peer bytes p begun' shelf' memory' → AnswersTo questions pile passes slots peer memory' p (split bytes).whole bytes
      answers_whole p (text, passed, is, (answers, e, plays)) =
          (answers, subst (λ l. passes peer bytes l p) e passed, opened (split bytes).whole (kept 1101 [] bytes).whole answers shelf' memory' (whole_lines 1101 bytes) plays)

      -- and at the end the last line too
      module _ (p q : C) (shelf2 : Shelf) (memory2 : List OnOff) where
        pub answers_all : Goes passes in_order peer bytes p begun' shelf' memory' → Says questions pile passes (last begun') shelf' memory' p shelf2 memory2 q
            → AnswersTo questions pile passes slots peer memory2 q (lines bytes) bytes
        answers_all (text, passed, is, talks) (more, wrote, then) =
            let so = kept 1101 [] bytes in
            let whole = talks_append questions pile shelf memory shelf' memory' shelf2 memory2 so.whole (last so.begun) text more talks
            (subst (λ l. Talks questions pile (last l) shelf' memory' more shelf2 memory2) is then) in (
              whole.0,
              subst (λ l. passes peer bytes l q) whole.1 (then_written passes in_order peer p q bytes text more passed wrote),
              opened (lines bytes) (so.whole ++ last so.begun) whole.0 shelf2 memory2 (kept_lines 1101 (omega arith) bytes) whole.2,
            )

        pub breaks_at_end : (at_end : Type 0) → at_end → Goes passes in_order peer bytes p begun' shelf' memory' → SaysInPart questions pile passes (last begun') shelf' memory' p shelf2 memory2 q
            → BreaksOff questions pile passes slots peer memory2 q at_end
        breaks_at_end at_end ended (text, passed, is, talks) (more, wrote, then) =
            let so = kept 1101 [] bytes in
            let part = talks_then_part questions pile shelf memory shelf' memory' shelf2 memory2 so.whole (last so.begun) text more talks
            (subst (λ l. TalksInPart questions pile (last l) shelf' memory' more shelf2 memory2) is then) in (
              bytes,
              text ++ more,
              lines bytes,
              [],
              part.0,
              then_written passes in_order peer p q bytes text more passed wrote,
              inr (ended, sym (append-nil (lines bytes))),
              part.1,
              opened (lines bytes) (so.whole ++ last so.begun) part.0 shelf2 memory2 (kept_lines 1101 (omega arith) bytes) part.2,
            )

      pub breaks_here : (p : C) (at_end : Type 0) → Goes passes in_order peer bytes p begun' shelf' memory' → BreaksOff questions pile passes slots peer memory' p at_end
      breaks_here p at_end (text, passed, is, talks) =
          let part = talks_whole questions pile shelf memory shelf' memory' (kept 1101 [] bytes).whole text talks in (
            bytes,
            text,
            (split bytes).whole,
            [],
            part.0,
            passed,
            inl (sym (append-nil (split bytes).whole)),
            part.1,
            opened (split bytes).whole (kept 1101 [] bytes).whole part.0 shelf' memory' (whole_lines 1101 bytes) part.2,
          )

      pub breaks_later : (chunk : List ℕ) (shelf2 : Shelf) (memory2 : List OnOff) (p q r : C) (at_end : Type 0) → Goes passes in_order peer bytes p begun' shelf' memory' → passes p chunk [] q
          → HearsInPart questions pile passes begun' chunk shelf' memory' q shelf2 memory2 r → BreaksOff questions pile passes slots peer memory2 r at_end
      breaks_later chunk shelf2 memory2 p q r at_end (text, passed, is, talks) read (front, rest, splits, (more, wrote, then)) =
          let so = kept 1101 [] bytes in
          let all = bytes ++ front in
          let more_lines = front_lines all rest in
          let part = talks_then_part questions pile shelf memory shelf' memory' shelf2 memory2 so.whole (kept 1101 so.begun front).whole text more talks
          (subst (λ l. TalksInPart questions pile (kept 1101 l front).whole shelf' memory' more shelf2 memory2) is then) in (
            bytes ++ chunk,
            text ++ more,
            (split all).whole,
            more_lines.0,
            part.0,
            then_written passes in_order peer q r (bytes ++ chunk) text more (then_read passes in_order peer p q bytes chunk text passed read) wrote,
            inl (ap (λ l. (split l).whole) (ap (λ l. bytes ++ l) splits ∙ sym (append_assoc bytes front rest)) ∙ more_lines.1),
            part.1,
            opened (split all).whole (so.whole ++ (kept 1101 so.begun front).whole) part.0 shelf2 memory2 (ap (λ s. s.whole) (sym (kept_append 1101 [] bytes front)) ∙ whole_lines 1101 all) part.2,
          )
