-- Lines of which only the fronts are kept.
use Rattle.std.proofs.Common.{◌≡◌, ℕ, ◌<◌, ◌≤◌, Bool, true, false, eqb, List, [], ◌∷◌, ◌++◌, map, length, take, sym, refl, ap, ◌∙◌, inl, inr, arith}
use Rattle.std.specs.List.{fold}
use Rattle.std.proofs.lemmas.List.{take_all, length-take, map-append, append-nil, append_assoc}
use Rattle.std.proofs.Math.Seq.{take-nil}
use Rattle.std.proofs.lemmas.Grind.{common_steps, fold-append}
use Rattle.shelf_line.specs.Lines.{OnOffCall}
use Rattle.line_service.specs.Lines.{Split, add, split, last, lines, keep, kept}
use Rattle.line_service.specs.Service.{AllRead, LongLinesAreNoForm}

module _ {P : Type 0} where
  pub long_reads : LongLinesAreNoForm P
  long_reads pile line call (inl (said, (few, lawful, is), e)) =
      let short : length line ≤ 1100 = omega (arith, few, length-take 1101 line) in
      inl (said, (short, lawful, sym (take_all 1101 line (omega (arith, short))) ∙ is), e)
  long_reads pile line call (inr (none, e)) = inr (λ said writes. none said (rw (take_all 1101 line (omega (arith, writes.0))) writes), e)

  pub read_whole : (pile : P) (all : List (List ℕ)) (calls : List (OnOffCall P)) → AllRead pile (map (take 1101) all) calls → AllRead pile all calls
  read_whole pile [] [] read = tt
  read_whole pile [] (call ∷ calls) read = absurd read
  read_whole pile (line ∷ all) [] read = absurd read
  read_whole pile (line ∷ all) (call ∷ calls) read = (long_reads pile line call read.0, read_whole pile all calls read.1)

module _ (most : ℕ) where
  abbrev cut : Split → Split
  cut so = record { whole = map (take most) so.whole; begun = take most so.begun }

  cut_twice : (bytes : List ℕ) (byte : ℕ) → take most (take most bytes ++ byte ∷ []) ≡ take most (bytes ++ byte ∷ [])
  cut_twice bytes byte = grind (arith, common_steps)

  keep_by : (so : Split) (byte : ℕ) (newline : Bool) → eqb byte 10 ≡ newline → keep most (cut so) byte ≡ cut (add so byte)
  keep_by so byte true e =
      rw (e, take-nil {A = ℕ} most)
      (ap (λ l. record { whole = l; begun = [] })
      (ap (λ l. map (take most) so.whole ++ l ∷ []) (cut_twice so.begun byte) ∙ sym (map-append (take most) so.whole ((so.begun ++ byte ∷ []) ∷ []))))
  keep_by so byte false e = rw e (ap (λ l. record { whole = map (take most) so.whole; begun = l }) (cut_twice so.begun byte))

  kept_cut : (bytes : List ℕ) (so : Split) → fold (keep most) (cut so) bytes ≡ cut (fold add so bytes)
  kept_cut [] so = refl
  kept_cut (byte ∷ bytes) so = ap (λ l. fold (keep most) l bytes) (keep_by so byte (eqb byte 10) refl) ∙ kept_cut bytes (add so byte)

  -- what is kept of some bytes is what is kept of their lines
  kept_is : (bytes : List ℕ) → kept most [] bytes ≡ cut (split bytes)
  kept_is bytes = ap (λ l. fold (keep most) (record { whole = []; begun = l }) bytes) (sym (take-nil most)) ∙ kept_cut bytes (record { whole = []; begun = [] })

  last_some : (bytes : List ℕ) → 0 < length bytes → last bytes ≡ bytes ∷ []
  last_some [] some = absurd (omega (arith, some))
  last_some (byte ∷ bytes) some = refl

  last_cut : 0 < most → (bytes : List ℕ) → last (take most bytes) ≡ map (take most) (last bytes)
  last_cut some [] = rw (take-nil {A = ℕ} most) refl
  last_cut some (byte ∷ bytes) = last_some (take most (byte ∷ bytes)) (omega (arith, some, length-take most (byte ∷ bytes)))

  pub kept_lines : 0 < most → (bytes : List ℕ) → (kept most [] bytes).whole ++ last (kept most [] bytes).begun ≡ map (take most) (lines bytes)
  kept_lines some bytes =
      let so = split bytes in
      rw (kept_is bytes) (ap (λ l. map (take most) so.whole ++ l) (last_cut some so.begun) ∙ sym (map-append (take most) so.whole (last so.begun)))

  -- the lines that are whole
  pub whole_lines : (bytes : List ℕ) → (kept most [] bytes).whole ≡ map (take most) (split bytes).whole
  whole_lines bytes = ap (λ so. so.whole) (kept_is bytes)

-- the lines of a front that are whole are the first lines
abbrev Grows : Split → Split → Type 0
Grows so then = (more : List (List ℕ)) × (then.whole ≡ so.whole ++ more)

grows_by : (so : Split) (byte : ℕ) (newline : Bool) → eqb byte 10 ≡ newline → Grows so (add so byte)
grows_by so byte true e = rw e ((so.begun ++ byte ∷ []) ∷ [], refl)
grows_by so byte false e = rw e ([], sym (append-nil so.whole))

grows : (bytes : List ℕ) (so : Split) → Grows so (fold add so bytes)
grows [] so = ([], sym (append-nil so.whole))
grows (byte ∷ bytes) so =
    let first = grows_by so byte (eqb byte 10) refl in
    let then = grows bytes (add so byte) in
    (first.0 ++ then.0, then.1 ∙ ap (λ l. l ++ then.0) first.1 ∙ append_assoc so.whole first.0 then.0)

pub front_lines : (front rest : List ℕ) → (more : List (List ℕ)) × ((split (front ++ rest)).whole ≡ (split front).whole ++ more)
front_lines front rest =
    let empty : Split = record { whole = []; begun = [] } in
    let more = grows rest (split front) in
    (more.0, ap (λ s. s.whole) (fold-append add empty front rest) ∙ more.1)
