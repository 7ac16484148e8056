-- How often a list occurs.
use Rattle.std.proofs.Common.{◌≡◌, ℕ, ◌+◌, ◌<◌, ◌≤◌, Bool, cond, not, eqb, ◌⊎◌, List, [], ◌∷◌, ◌++◌, length, get_or, Decides, count_by, sym, refl, ap, ◌∙◌, subst, inl, inr, ⊎_elim, arith, rules}
use Rattle.std.specs.Cmp.Lexicographic.{pointwise, bytes_decides}
use Rattle.std.specs.List.{list_all}
use Rattle.std.proofs.ByRecursion.{All-from_get_or, Decides-by_and}
use Rattle.std.proofs.lemmas.Slice.Eq.{compares_Decides}
use Rattle.std.proofs.lemmas.List.Filters.{length-filter_both}
use Rattle.std.proofs.lemmas.List.Sums.{sum_by-append, sum_by-cons, length-filter}
use Rattle.std.proofs.lemmas.Bool.{cases_Bool, cases_eq, cases_lt, cond-true, cond-false}
use Rattle.std.proofs.lemmas.Bool.Decides.{same_from_decides, not_from_Decides, Decides-eqb, Decides-like}
use Rattle.lists.specs.Lists.{equal}
use Rattle.lists.specs.Spread.{times, level}
use Rattle.lists.specs.Counting.{Mem, Apart}
use Rattle.lists.proofs.Members.{mem_all, mem_sum}

pub equal_decides : (x y : List ℕ) → Decides (equal x y) (x ≡ y)
equal_decides x y = compares_Decides equal (search rules) x y

-- what `==` says of two lists
pub equal_from_eq : (x y z : List ℕ) (r : Bool) → r ≡ pointwise eqb x y → y ≡ z → r ≡ equal x z
equal_from_eq x y z r h e = h ∙ same_from_decides (pointwise eqb x y) (equal x y) (bytes_decides x y) (equal_decides x y) ∙ ap (equal x) e

pub cases_list : (x y : List ℕ) → (x ≡ y) ⊎ (x ≡ y → ⊥)
cases_list x y = ⊎_elim (λ t. inl ((equal_decides x y).0 t)) (λ f. inr (not_from_Decides (equal x y) (equal_decides x y) f)) (cases_Bool (equal x y))

-- what y adds to how often x occurs
abbrev pub one : List ℕ → List ℕ → ℕ
one x y = cond (equal x y) 1 0

pub one_same : (x y : List ℕ) → x ≡ y → one x y ≡ 1
one_same x y e = cond-true (equal x y) 1 0 ((equal_decides x y).1 e)

pub one_other : (x y : List ℕ) → (x ≡ y → ⊥) → one x y ≡ 0
one_other x y ne = ⊎_elim (λ t. absurd (ne ((equal_decides x y).0 t))) (cond-false (equal x y) 1 0) (cases_Bool (equal x y))

pub times_cons : (x y : List ℕ) (ys : List (List ℕ)) → times x (y ∷ ys) ≡ one x y + times x ys
times_cons x y ys = sum_by-cons (one x) y ys

-- the lists that are not x
pub times_others : (x : List ℕ) (xs : List (List ℕ)) → count_by (λ y. not (equal x y)) xs + times x xs ≡ length xs
times_others x xs =
    let other : List ℕ → Bool = λ y. not (equal x y) in
    omega (arith, length-filter_both (equal x) other (λ _. refl) xs, length-filter (equal x) xs, length-filter other xs)

times_mem : (x : List ℕ) (xs : List (List ℕ)) → 0 < times x xs → Mem x xs
times_mem x [] some = absurd (omega arith)
times_mem x (y ∷ ys) some = ⊎_elim inl (λ other. inr (times_mem x ys (omega (arith, times_cons x y ys, one_other x y other)))) (cases_list x y)

-- the lists with one x taken out
taken : (x : List ℕ) (xs : List (List ℕ)) → 0 < times x xs → (rest : List (List ℕ)) × (length xs ≡ 1 + length rest) × ((y : List ℕ) → times y xs ≡ one y x + times y rest)
taken x [] some = absurd (omega arith)
taken x (z ∷ zs) some =
    ⊎_elim
    (λ same. (zs, omega arith, λ y. times_cons y z zs ∙ ap (λ u. one y u + times y zs) (sym same)))
    (λ other.
    let t = taken x zs (omega (arith, times_cons x z zs, one_other x z other)) in
    (z ∷ t.0, omega (arith, t.1), λ y. omega (arith, times_cons y z zs, t.2 y, times_cons y z t.0)))
    (cases_list x z)

-- where no list occurs more often in xs than in ps, xs is no longer
fewer : (xs ps : List (List ℕ)) → ((y : List ℕ) → times y xs ≤ times y ps) → length xs ≤ length ps
fewer [] ps le = omega arith
fewer (x ∷ xs) ps le =
    let t = taken x ps (omega (arith, le x, times_cons x x xs, one_same x x refl)) in
    let rest = fewer xs t.0 (λ y. omega (arith, le y, times_cons y x xs, t.2 y)) in
    omega (arith, t.1)

-- no more than there are, where none stands twice
apart_once : (x : List ℕ) (xs : List (List ℕ)) → Apart xs → times x xs ≤ 1
apart_once x [] a = omega arith
apart_once x (y ∷ ys) a =
    ⊎_elim
    (λ same.
    let none : times x ys ≡ 0 = ⊎_elim (λ z. z) (λ some. absurd (a.0 (subst (λ z. Mem z ys) same (times_mem x ys (omega arith))))) (cases_eq (times x ys) 0) in
    omega (arith, times_cons x y ys, one_same x y same))
    (λ other. omega (arith, times_cons x y ys, one_other x y other, apart_once x ys a.1))
    (cases_list x y)

pub apart_le : (xs ys : List (List ℕ)) → Apart xs → ((x : List ℕ) → Mem x xs → Mem x ys) → length xs ≤ length ys
apart_le xs ys a inside = fewer xs ys (λ x. ⊎_elim
    (λ none. omega arith)
    (λ some. omega (arith, apart_once x xs a, mem_sum (one x) x ys (inside x (times_mem x xs (omega arith))), one_same x x refl))
    (cases_eq (times x xs) 0))

module _ (xs ps : List (List ℕ)) where
  abbrev Often : List ℕ → Type 0
  Often y = times y xs ≡ times y ps

  -- each list occurs as often in xs as in ps
  abbrev pub Level : Type 0
  Level = (y : List ℕ) → Often y

  pub level_decides : Decides (level xs ps) Level
  level_decides =
      Decides-like (level xs ps)
      (λ all y. ⊎_elim
      (λ none. omega (arith, sum_by-append (one y) xs ps))
      (λ some. mem_all Often y (xs ++ ps) (times_mem y (xs ++ ps) (omega arith)) all)
      (cases_eq (times y (xs ++ ps)) 0))
      (λ all. All-from_get_or Often (xs ++ ps) [] (λ i _. all (get_or (xs ++ ps) i [])))
      (Decides-by_and (λ y. eqb (times y xs) (times y ps)) Often (list_all (λ y. eqb (times y xs) (times y ps))) (λ y. Decides-eqb (times y xs) (times y ps)) refl (λ _ _. refl) (xs ++ ps))

  pub level_length : Level → length xs ≡ length ps
  level_length h = omega (arith, fewer xs ps (λ y. omega (arith, h y)), fewer ps xs (λ y. omega (arith, h y)))

  -- as many lists, and those of xs as often: ps has no other
  pub level_from_inputs : length xs ≡ length ps → ((i : ℕ) → i < length xs → Often (get_or xs i [])) → Level
  level_from_inputs long often y =
      let all = All-from_get_or Often xs [] often in
      let le : (z : List ℕ) → times z xs ≤ times z ps = λ z. ⊎_elim (λ none. omega arith) (λ some. omega (arith, mem_all Often z xs (times_mem z xs (omega arith)) all)) (cases_eq (times z xs) 0) in
      ⊎_elim
      (λ lt.
      let more = fewer (y ∷ xs) ps (λ z. ⊎_elim
      (λ same. omega (arith, times_cons z y xs, one_same z y same, ap (λ u. times u xs) same, ap (λ u. times u ps) same))
      (λ other. omega (arith, le z, times_cons z y xs, one_other z y other))
      (cases_list z y)) in
      absurd (omega arith))
      (λ ge. omega (arith, le y))
      (cases_lt (times y xs) (times y ps))
