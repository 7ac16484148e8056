-- Conversations that go on.
use Rattle.std.proofs.Common.{◌≡◌, ℕ, ◌+◌, ◌<◌, Bool, true, false, eqb, ne_eqb, List, [], ◌∷◌, ◌++◌, take, drop, get_or, length, sym, refl, ap, ◌∙◌, subst, arith}
use Rattle.std.specs.List.{fold}
use Rattle.std.proofs.lemmas.Bool.{eqb-true}
use Rattle.std.proofs.lemmas.List.{append-nil, append_assoc, take_more, take-append-drop}
use Rattle.std.proofs.lemmas.Grind.{flat_map-append, fold-append}
use Rattle.rows.specs.declared.on_off.OnOff.{OnOff}
use Rattle.ledger.specs.Ledger.{Part, after, ledger_from}
use Rattle.ledger.specs.Law.{Answered}
use Rattle.ledger.specs.Questions.{Answer}
use Rattle.inventory.specs.declared.shelf.Shelf.{Shelf}
use Rattle.answers.specs.Spelling.{text_of}
use Rattle.shelf_line.specs.Lines.{OnOffCall, OnOffQuestions}
use Rattle.line_service.specs.Peers.{PassesNothing, PassesInOrder}
use Rattle.line_service.specs.Lines.{keep, kept, last}
use Rattle.line_service.specs.Service.{AllRead, texts, Plays, Talks, TalksInPart, Says, SaysInPart, Hears, HearsInPart}

pub is_nothing : (bytes : List ℕ) → true ≡ eqb (length bytes) 0 → bytes ≡ []
is_nothing [] e = refl
is_nothing (byte ∷ bytes) e = absurd (omega (arith, eqb-true (length (byte ∷ bytes)) 0 (sym e)))

pub around : (bytes : List ℕ) (k : ℕ) → k < length bytes → take k bytes ++ ((get_or bytes k 0 ∷ []) ++ drop (k + 1) bytes) ≡ bytes
around bytes k within =
    sym (append_assoc (take k bytes) (get_or bytes k 0 ∷ []) (drop (k + 1) bytes)) ∙ ap (λ l. l ++ drop (k + 1) bytes) (sym (take_more bytes k 0 within)) ∙ take-append-drop (k + 1) bytes

-- what is kept after more bytes
module _ (most : ℕ) where
  abbrev Whole : List ℕ → Type 0
  Whole bytes = (w : List (List ℕ)) (b : List ℕ)
      → fold (keep most) (record { whole = w; begun = b }) bytes ≡ record { whole = w ++ (kept most b bytes).whole; begun = (kept most b bytes).begun }

  -- a byte that ends these lines and leaves this one begun
  kept_step : (byte : ℕ) (bytes : List ℕ) (b : List ℕ) (ends : List (List ℕ)) (left : List ℕ)
      → ((v : List (List ℕ)) → keep most (record { whole = v; begun = b }) byte ≡ record { whole = v ++ ends; begun = left })
      → Whole bytes → (w : List (List ℕ))
      → fold (keep most) (record { whole = w; begun = b }) (byte ∷ bytes) ≡ record { whole = w ++ (kept most b (byte ∷ bytes)).whole; begun = (kept most b (byte ∷ bytes)).begun }
  kept_step byte bytes b ends left step whole w =
      ap (λ so. fold (keep most) so bytes) (step w) ∙ whole (w ++ ends) left
      ∙ ap (λ l. record { whole = l; begun = (kept most left bytes).begun }) (append_assoc w ends (kept most left bytes).whole)
      ∙ ap (λ so. record { whole = w ++ so.whole; begun = so.begun }) (sym (whole ends left))
      ∙ ap (λ so. record { whole = w ++ (fold (keep most) so bytes).whole; begun = (fold (keep most) so bytes).begun }) (sym (step []))

  kept_by : (byte : ℕ) (bytes : List ℕ) (newline : Bool) → eqb byte 10 ≡ newline → Whole bytes → Whole (byte ∷ bytes)
  kept_by byte bytes true e whole w b = kept_step byte bytes b (take most (b ++ byte ∷ []) ∷ []) [] (λ v. rw e refl) whole w
  kept_by byte bytes false e whole w b =
      let line = take most (b ++ byte ∷ []) in
      kept_step byte bytes b [] line (λ v. rw e (ap (λ l. record { whole = l; begun = line }) (sym (append-nil v)))) whole w

  kept_whole : (bytes : List ℕ) → Whole bytes
  kept_whole [] = λ w b. ap (λ l. record { whole = l; begun = b }) (sym (append-nil w))
  kept_whole (byte ∷ bytes) = kept_by byte bytes (eqb byte 10) refl (kept_whole bytes)

  pub keep_other : (b : List ℕ) (byte : ℕ) → (byte ≡ 10 → ⊥) → keep most (record { whole = []; begun = b }) byte ≡ record { whole = []; begun = take most (b ++ byte ∷ []) }
  keep_other b byte ne = rw (ne_eqb byte 10 ne) refl

  pub kept_append : (b xs ys : List ℕ)
      → kept most b (xs ++ ys) ≡ record { whole = (kept most b xs).whole ++ (kept most (kept most b xs).begun ys).whole; begun = (kept most (kept most b xs).begun ys).begun }
  kept_append b xs ys = fold-append (keep most) (record { whole = []; begun = b }) xs ys ∙ kept_whole ys (kept most b xs).whole (kept most b xs).begun

module _ {P : Type 0} (questions : OnOffQuestions P) (pile : P) where
  read_append : (lines more : List (List ℕ)) (calls others : List (OnOffCall P)) → AllRead pile lines calls → AllRead pile more others → AllRead pile (lines ++ more) (calls ++ others)
  read_append [] more [] others first then = then
  read_append [] more (c ∷ calls) others first then = absurd first
  read_append (l ∷ lines) more [] others first then = absurd first
  read_append (l ∷ lines) more (c ∷ calls) others first then = (first.0, read_append lines more calls others first.1 then)

  module _ (slots : ℕ) where
    answered_append : (parts : List (Part OnOff)) (calls others : List (OnOffCall P)) (xs ys : List Answer) → Answered questions slots parts calls xs
        → Answered questions slots (ledger_from slots parts calls) others ys → Answered questions slots parts (calls ++ others) (xs ++ ys)
    answered_append parts [] others [] ys first then = then
    answered_append parts [] others (x ∷ xs) ys first then = absurd first
    answered_append parts (c ∷ calls) others [] ys first then = absurd first
    answered_append parts (c ∷ calls) others (x ∷ xs) ys first then = (first.0, answered_append (after slots parts c) calls others xs ys first.1 then)

    ledger_append : (parts : List (Part OnOff)) (calls others : List (OnOffCall P))
        → ledger_from slots parts (calls ++ others) ≡ ledger_from slots (ledger_from slots parts calls) others
    ledger_append parts [] others = refl
    ledger_append parts (c ∷ calls) others = ledger_append (after slots parts c) calls others

  plays_append : (a : Shelf) (m : List OnOff) (b : Shelf) (n : List OnOff) (c : Shelf) (o : List OnOff) (lines more : List (List ℕ)) (answers others : List Answer)
      → Plays questions pile lines a m answers b n → Plays questions pile more b n others c o → Plays questions pile (lines ++ more) a m (answers ++ others) c o
  plays_append a m b n c o lines more answers others (calls, read, count, holds) (next, more_read, more_count, more_holds) = (
    calls ++ next,
    read_append lines more calls next read more_read,
    more_count ∙ count,
    λ parts h.
        let so = holds parts h in
        let then = rw count at (more_holds (ledger_from a.count parts calls) so.1) in
        (answered_append a.count parts calls next answers others so.0 then.0, rw (ledger_append a.count parts calls next) then.1),
  )

  module _ (a : Shelf) (m : List OnOff) (b : Shelf) (n : List OnOff) (c : Shelf) (o : List OnOff) (lines more : List (List ℕ)) (text then : List ℕ) where
    pub talks_append : Talks questions pile lines a m text b n → Talks questions pile more b n then c o → Talks questions pile (lines ++ more) a m (text ++ then) c o
    talks_append (answers, is, plays) (others, so, goes) = (
      answers ++ others,
      ap (λ l. l ++ then) is ∙ ap (λ l. texts answers ++ l) so ∙ sym (flat_map-append text_of answers others),
      plays_append a m b n c o lines more answers others plays goes,
    )

    pub talks_then_part : Talks questions pile lines a m text b n → TalksInPart questions pile more b n then c o → TalksInPart questions pile (lines ++ more) a m (text ++ then) c o
    talks_then_part (answers, is, plays) (others, (said, ending, part, rest, are, one, cut, ends), goes) = (
      answers ++ others,
      (
        answers ++ said,
        ending,
        part,
        rest,
        ap (λ l. answers ++ l) are ∙ sym (append_assoc answers said ending),
        one,
        ap (λ l. l ++ then) is ∙ ap (λ l. texts answers ++ l) cut ∙ sym (append_assoc (texts answers) (texts said) part)
            ∙ ap (λ l. l ++ part) (sym (flat_map-append text_of answers said)),
        ends,
      ),
      plays_append a m b n c o lines more answers others plays goes,
    )

  -- a text that is not cut
  pub talks_whole : (a : Shelf) (m : List OnOff) (b : Shelf) (n : List OnOff) (lines : List (List ℕ)) (text : List ℕ)
      → Talks questions pile lines a m text b n → TalksInPart questions pile lines a m text b n
  talks_whole a m b n lines text (answers, is, plays) =
      (answers, (answers, [], [], [], sym (append-nil answers), omega arith, is ∙ sym (append-nil (texts answers)), refl), plays)

  pub talks_nothing : (a : Shelf) (m : List OnOff) → Talks questions pile [] a m [] a m
  talks_nothing a m = ([], refl, ([], tt, refl, λ parts h. (tt, h)))

  module _ {C : Type 0} (passes : C → List ℕ → List ℕ → C → Type 0) (nothing : PassesNothing passes) (in_order : PassesInOrder passes) where
    module _ (a : Shelf) (m : List OnOff) (p : C) (b : Shelf) (n : List OnOff) (q : C) (c : Shelf) (o : List OnOff) (r : C) where
      says_append : (lines more : List (List ℕ)) → Says questions pile passes lines a m p b n q → Says questions pile passes more b n q c o r
          → Says questions pile passes (lines ++ more) a m p c o r
      says_append lines more (text, passed, talks) (then, goes, more_talks) =
          (text ++ then, in_order p q r [] [] text then passed goes, talks_append a m b n c o lines more text then talks more_talks)

      says_then_part : (lines more : List (List ℕ)) → Says questions pile passes lines a m p b n q → SaysInPart questions pile passes more b n q c o r
          → SaysInPart questions pile passes (lines ++ more) a m p c o r
      says_then_part lines more (text, passed, talks) (then, goes, more_talks) =
          (text ++ then, in_order p q r [] [] text then passed goes, talks_then_part a m b n c o lines more text then talks more_talks)

      pub hears_append : (begun xs ys middle end : List ℕ) → Hears questions pile passes begun xs a m p middle b n q → Hears questions pile passes middle ys b n q end c o r
          → Hears questions pile passes begun (xs ++ ys) a m p end c o r
      hears_append begun xs ys middle end (kept_so, says) (next, more) =
          let so = kept 1101 begun xs in
          rw (kept_append 1101 begun xs ys) (
            next ∙ ap (λ l. (kept 1101 l ys).begun) kept_so,
            says_append so.whole (kept 1101 so.begun ys).whole says (subst (λ l. Says questions pile passes (kept 1101 l ys).whole b n q c o r) kept_so more),
          )

      pub hears_then_part : (begun xs ys rest middle : List ℕ) → Hears questions pile passes begun xs a m p middle b n q → HearsInPart questions pile passes middle ys b n q c o r
          → HearsInPart questions pile passes begun (xs ++ (ys ++ rest)) a m p c o r
      hears_then_part begun xs ys rest middle (kept_so, says) (front, back, is, more) =
          let so = kept 1101 begun xs in (
            xs ++ front,
            back ++ rest,
            ap (λ l. xs ++ (l ++ rest)) is ∙ ap (λ l. xs ++ l) (append_assoc front back rest) ∙ sym (append_assoc xs front (back ++ rest)),
            rw (kept_append 1101 begun xs front)
                (says_then_part so.whole (kept 1101 so.begun front).whole says (subst (λ l. SaysInPart questions pile passes (kept 1101 l front).whole b n q c o r) kept_so more)),
          )

    says_nothing : (shelf : Shelf) (memory : List OnOff) (peer : C) → Says questions pile passes [] shelf memory peer shelf memory peer
    says_nothing shelf memory peer = ([], nothing peer, talks_nothing shelf memory)

    pub says_no_last : (begun : List ℕ) → begun ≡ [] → (shelf : Shelf) (memory : List OnOff) (peer : C) → Says questions pile passes (last begun) shelf memory peer shelf memory peer
    says_no_last begun e shelf memory peer = rw e (says_nothing shelf memory peer)

    module _ (begun : List ℕ) (shelf : Shelf) (memory : List OnOff) (peer : C) where
      pub hears_nothing : Hears questions pile passes begun [] shelf memory peer begun shelf memory peer
      hears_nothing = (refl, says_nothing shelf memory peer)

      -- a byte that ends no line
      pub hears_other : (byte : ℕ) → (byte ≡ 10 → ⊥) → Hears questions pile passes begun (byte ∷ []) shelf memory peer (take 1101 (begun ++ byte ∷ [])) shelf memory peer
      hears_other byte ne = rw (keep_other 1101 begun byte ne) (refl, says_nothing shelf memory peer)

    -- a byte that ends a line whose answer is cut
    pub hears_cut : (begun : List ℕ) (byte : ℕ) → byte ≡ 10 → (a : Shelf) (m : List OnOff) (p : C) (b : Shelf) (n : List OnOff) (q : C)
        → SaysInPart questions pile passes (take 1101 (begun ++ byte ∷ []) ∷ []) a m p b n q → HearsInPart questions pile passes begun (byte ∷ []) a m p b n q
    hears_cut begun byte e a m p b n q says =
        rw e (10 ∷ [], [], refl, subst (λ l. SaysInPart questions pile passes (take 1101 (begun ++ l ∷ []) ∷ []) a m p b n q) e says)
