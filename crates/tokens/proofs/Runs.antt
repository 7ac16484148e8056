-- A run is told from what comes after it in one way only.
use Rattle.std.proofs.Common.{rules, ◌≡◌, ℕ, ◌<◌, List, [], ◌∷◌, ◌++◌, length, get_or, refl, sym, subst, arith}
use Rattle.std.specs.List.{All, AllByRecursion}
use Rattle.std.specs.Fmt.{decimal}
use Rattle.std.proofs.lemmas.List.Elements.{All-nil, All-cons, All-head, All-tail, All-from_recursion}
use Rattle.std.proofs.lemmas.Str.Parse.{IsDigitsTest, IsNumeralModel, numerals_by_value}
use Rattle.std.specs.Str.Parse.{digits_value}
use Rattle.std.proofs.lemmas.Fmt.{digits_decimal, decimal_injective}
use Rattle.tokens.specs.declared.characters.Kind.{Kind}
use Rattle.tokens.specs.declared.characters.Kind.TheVariants.{Letter, Digit}
use Rattle.tokens.specs.Characters.{Is, word_text}
use Rattle.tokens.specs.declared.token.Word.{Word}
use Rattle.tokens.specs.Cursors.{Ends}

module _ (kind : Kind) where
  -- a run is not followed by one of its kind
  cut_short : (x : ℕ) (xs r t : List ℕ) → All (Is kind) (x ∷ xs) → Ends kind r → r ≡ (x ∷ xs) ++ t → ⊥
  cut_short x xs r t all ends e = subst (Ends kind) e ends (All-head (Is kind) x xs all)

  pub same_run : (xs ys r t : List ℕ) → All (Is kind) xs → All (Is kind) ys → Ends kind r → Ends kind t → xs ++ r ≡ ys ++ t → (xs ≡ ys) × (r ≡ t)
  same_run [] [] r t a b x y e = (refl, e)
  same_run [] (c ∷ ys) r t a b x y e = absurd (cut_short c ys r t b x e)
  same_run (c ∷ xs) [] r t a b x y e = absurd (cut_short c xs t r a y (sym e))
  same_run (c ∷ xs) (d ∷ ys) r t a b x y e =
      let h : c ≡ d = cc in
      let l : xs ++ r ≡ ys ++ t = cc in
      let both = same_run xs ys r t (All-tail (Is kind) c xs a) (All-tail (Is kind) d ys b) x y l in
      (cc, both.1)

-- the texts of digits are the runs of digits
digits_test : IsDigitsTest (All (Is Digit))
digits_test = record {
  empty = All-nil (Is Digit);
  parts = λ c cs all. (All-head (Is Digit) c cs all, All-tail (Is Digit) c cs all);
  more = λ c cs. All-cons (Is Digit) c cs;
}

pub own : IsNumeralModel (All (Is Digit)) (digits_value 10)
own = numerals_by_value (All (Is Digit)) digits_test

pub digit_at : (ds : List ℕ) (i : ℕ) → All (Is Digit) ds → i < length ds → Is Digit (get_or ds i 0)
digit_at ds i all lt = all i 0 lt

pub all_decimal : (n : ℕ) → n < 100000 → All (Is Digit) (decimal n)
all_decimal n small = digits_decimal own n (omega arith)

-- one number only is written at the front of a text
pub same_number : (m n : ℕ) (r t : List ℕ) → m < 100000 → n < 100000 → Ends Digit r → Ends Digit t → decimal m ++ r ≡ decimal n ++ t → (m ≡ n) × (r ≡ t)
same_number m n r t small less x y e =
    let both = same_run Digit (decimal m) (decimal n) r t (all_decimal m small) (all_decimal n less) x y e in
    (decimal_injective m n (omega arith) (omega arith) both.0, both.1)

pub all_letters : (word : Word) → All (Is Letter) (word_text word)
all_letters word = All-from_recursion (Is Letter) (word_text word) (spelled word)
  where
    spelled : (w : Word) → AllByRecursion (Is Letter) (word_text w)
    spelled w = search rules
