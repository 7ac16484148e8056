-- A list of calls is a list of entries that are lent nothing.
use Rattle.std.proofs.Common.{◌≡◌, ℕ, Bool, true, false, ◌||◌, ltb, List, [], ◌∷◌, map, length, sum_by, take, Ok, Err, Result, refl, ◌∙◌, arith}
use Rattle.std.proofs.lemmas.List.{length-map}
use Rattle.std.proofs.lemmas.List.Sums.{sum_by-cons}
use Rattle.refusals.specs.declared.refusal.Refusal.{Refusal}
use Rattle.ledger.specs.Ledger.{Call as LedgerCall}
use Rattle.ledger.specs.Questions.{Answer, Questions, Question as LedgerQuestion}
use Rattle.inventory.specs.declared.shelf.Shelf.{Shelf}
use Rattle.runs.specs.Transcript.{said, told}
use Rattle.runs.specs.Entries.{call_kind, all_bytes, all_words, entries_due, AreCalls, AllTell, EntriesPlayed}
use Rattle.runs.specs.Playing.{play_due, Played}
use Rattle.runs.specs.declared.answer.Grant.{Grant}
use Rattle.runs.specs.declared.call.Call.{Call}

or_off : (b : Bool) → (b || false) ≡ b
or_off true = refl
or_off false = refl

module _ {R P : Type 0} where
  calls_are : (xs : List (Call R P)) (calls : List (LedgerCall R (LedgerQuestion R P))) → AreCalls call_kind xs calls → calls ≡ map said xs
  calls_are [] [] so = refl
  calls_are [] (c ∷ calls) so = absurd so
  calls_are (x ∷ xs) [] so = absurd so
  calls_are (x ∷ xs) (c ∷ calls) so =
      let here = so.0 in
      let rest = calls_are xs calls so.1 in
      cc

  tells_are : (xs : List (Call R P)) (answers : List (Result Grant Refusal)) (bytes bytes' : List ℕ) (tells : List Answer)
      → AllTell call_kind.bytes xs answers bytes bytes' tells → tells ≡ map told answers
  tells_are [] [] bytes bytes' [] so = refl
  tells_are [] [] bytes bytes' (t ∷ tells) so = absurd so
  tells_are [] (a ∷ answers) bytes bytes' tells so = absurd so
  tells_are (x ∷ xs) [] bytes bytes' tells so = absurd so
  tells_are (x ∷ xs) (a ∷ answers) bytes bytes' [] so = absurd so
  tells_are (x ∷ xs) (a ∷ answers) bytes bytes' (t ∷ tells) so =
      let here = so.0.0 in
      let rest = tells_are xs answers _ _ tells so.1 in
      cc

  none : (xs : List (Call R P)) → sum_by (λ (y : Call R P). 0) xs ≡ 0
  none [] = refl
  none (x ∷ xs) = omega (arith, none xs, sum_by-cons (λ (y : Call R P). 0) x xs)

  same_due : (slots rows answers : ℕ) (xs : List (Call R P))
      → play_due slots rows (length (map said xs)) answers ≡ entries_due slots rows (length xs) answers (all_bytes call_kind xs) 0 (all_words call_kind xs) 0
  same_due slots rows answers xs = rw (length-map, none xs, or_off (ltb answers (length xs)))

  pub calls_played : (questions : Questions R (LedgerQuestion R P)) (memory : List R) (xs : List (Call R P)) (answers : List (Result Grant Refusal))
      (shelf : Shelf) (result : Result (Unit {0}) Refusal) (shelf' : Shelf) (memory' : List R) (bytes' words' : List ℕ) (answers' : List (Result Grant Refusal))
      → EntriesPlayed questions call_kind xs memory [] [] answers shelf result shelf' memory' bytes' words' answers'
      → Played questions memory (map said xs) answers shelf result shelf' memory' answers'
  calls_played questions memory xs answers shelf (Ok _) shelf' memory' bytes' words' answers' (due, count, kept, (calls, tells, are, told_so, words_so, did, law)) =
      let all = calls_are xs calls are in
      let each = tells_are xs (take (length xs) answers') [] bytes' tells told_so in (
        same_due shelf.count (length memory) (length answers) xs ∙ due,
        count,
        rw length-map kept,
        λ parts h. rw (length-map, ← all, ← each) (law parts h),
        rw (length-map, ← all, ← each) did,
      )
  calls_played questions memory xs answers shelf (Err reason) shelf' memory' bytes' words' answers' (due, same_shelf, same_memory, bytes_kept, words_kept, kept) =
      (same_due shelf.count (length memory) (length answers) xs ∙ due, same_shelf, same_memory, kept)
