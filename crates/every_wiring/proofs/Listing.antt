-- The lists of pins that are made are all of them, in dictionary order.
use Rattle.std.proofs.Common.{◌≡◌, ◌≢◌, ℕ, zero, suc, ◌+◌, ◌-◌, ◌<◌, ◌≤◌, Bool, true, false, eqb, List, [], ◌∷◌, ◌++◌, length, map, take, get_or, Vec, Global, append_assoc, sym, subst, ap, refl, ◌∙◌, inl, inr, ⊎_elim, arith}
use Rattle.std.specs.Prelude.{not, filter, All, AllPairs, Contains}
use Rattle.std.specs.List.{list_any}
use Rattle.std.proofs.lemmas.Bool.{cases_eq, cases_lt, cond_both, eq-eqb, eqb-true, false_from_ne_true, true≢false}
use Rattle.std.proofs.lemmas.List.{map-append, map_push, take_more, get_or-map, get_or_append_left, get_or-append_right, get_or_default, get_or_push, length-append, length-map, nil_from_length}
use Rattle.std.proofs.lemmas.List.Elements.{All-append, All-cons, All-contains, All-filter, All-map, All-nil, All-push, All-tail, All-weaker, Contains-append_left, Contains-append_right, Contains-push, filter-append, filter_passes}
use Rattle.std.proofs.lemmas.List.Folds.{Any-from_list_any, list_any_at}
use Rattle.std.proofs.lemmas.List.Kept.{AllPairs-cons, AllPairs-filter}
use Rattle.std.proofs.lemmas.List.Quantifiers.{all_pairs_push}
use Rattle.every_wiring.specs.Lists.{pins_of}
use Rattle.every_wiring.specs.Wirings.{AreAll, Before, IsPartial, IsWiring, longer_by, longer_to, partial_to, wirings_to}

AllPairs-append : {X : Type 0} (R : X → X → Type 0) (xs ys : List X) → AllPairs R xs → AllPairs R ys → All (λ x. All (R x) ys) xs → AllPairs R (xs ++ ys)
AllPairs-append R xs ys first second across i j d below within =
    let long : length (xs ++ ys) ≡ _ = length-append xs ys in
    ⊎_elim
    (λ left. rw (get_or_append_left xs ys d i (omega (arith, left, below)), get_or_append_left xs ys d j left) (first i j d below left))
    (λ right.
    ⊎_elim
    (λ left. rw (get_or_append_left xs ys d i left, get_or-append_right xs ys (length xs) j d refl right) (across i d left (j - length xs) d (omega (arith, within, long, right))))
    (λ behind. rw (get_or-append_right xs ys (length xs) i d refl behind, get_or-append_right xs ys (length xs) j d refl right) (second (i - length xs) (j - length xs) d (omega (arith, below, behind)) (omega (arith, within, long, right))))
    (cases_lt i (length xs)))
    (cases_lt j (length xs))

Contains-map : {X Y : Type 0} (f : X → Y) (xs : List X) (x : X) → Contains xs x → Contains (map f xs) (f x)
Contains-map f xs x here =
    (here.0, omega (arith, here.1, length-map xs f), get_or-map f xs here.0 x (f x) here.1 ∙ ap f here.2)

Contains-filter : {X : Type 0} (p : X → Bool) (xs : List X) (x : X) → p x ≡ true → Contains xs x → Contains (filter p xs) x
Contains-filter p [] x passes here = absurd (omega (arith, here.1))
Contains-filter p (y ∷ ys) x passes (zero, within, is) =
    let first : p y ≡ true = ap p is ∙ passes in
    rw first (zero, omega arith, is)
Contains-filter p (y ∷ ys) x passes (suc k, within, is) =
    let rest = Contains-filter p ys x passes (k, omega (arith, within), is) in
    cond_both (p y) (y ∷ filter p ys) (filter p ys) (λ zs. Contains zs x) (λ _. (suc rest.0, omega (arith, rest.1), rest.2)) (λ _. rest)

-- ys are those of xs that have P, in their order
pub record IsPicked (P : List ℕ → Type 0) (xs ys : List (List ℕ)) : Type 0 where
  pub only : All (λ y. P y × Contains xs y) ys
  pub every : All (λ x. P x → Contains ys x) xs
  pub ordered : AllPairs Before xs → AllPairs Before ys

partial_tail : (n k q : ℕ) (v : List ℕ) → IsPartial n (suc k) (q ∷ v) → IsPartial n k v
partial_tail n k q v w = record {
  whole = omega (arith, w.whole);
  below = All-tail (λ pin. pin < n) q v w.below;
  apart = λ i j d below within. w.apart (suc i) (suc j) d (omega (arith, below)) (omega (arith, within));
}

partial_apart : (n k q : ℕ) (v : List ℕ) → IsPartial n (suc k) (q ∷ v) → Contains v q → ⊥
partial_apart n k q v w here = w.apart zero (suc here.0) q (omega arith) (omega (arith, here.1)) (sym here.2)

partial_cons : (n k q : ℕ) (v : List ℕ) → q < n → (Contains v q → ⊥) → IsPartial n k v → IsPartial n (suc k) (q ∷ v)
partial_cons n k q v low absent w = record {
  whole = omega (arith, w.whole);
  below = All-cons (λ pin. pin < n) q v low w.below;
  apart = AllPairs-cons (λ p r. p ≢ r) q v (λ i d within same. absent (i, within, get_or_default v i q d within ∙ sym same)) w.apart;
}

-- w has pins for one input more, the first of them below p
abbrev Leads : ℕ → ℕ → ℕ → List ℕ → Type 0
Leads n k p w = IsPartial n (suc k) w × (get_or w 0 0 < p)

absent : (pins : List ℕ) (p : ℕ) → list_any (λ q. eqb q p) pins ≡ false → Contains pins p → ⊥
absent pins p none here = true≢false (sym (list_any_at (λ q. eqb q p) pins here.0 p here.1 (eq-eqb _ _ here.2)) ∙ none)

absent_answer : (pins : List ℕ) (p : ℕ) → (Contains pins p → ⊥) → list_any (λ q. eqb q p) pins ≡ false
absent_answer pins p none = false_from_ne_true _ (λ found. let any = Any-from_list_any (λ q. eqb q p) pins found in none (any.0, any.2, get_or_default pins any.0 p any.1 any.2 ∙ any.3 ∙ eqb-true any.1 p any.4))

not_false : (b : Bool) → not b ≡ true → b ≡ false
not_false true is = sym is
not_false false is = refl

before_all : (n k p : ℕ) (lists : List (List ℕ)) (w : List ℕ) → Leads n k p w → All (Before w) (map (λ v. p ∷ v) lists)
before_all n k p lists [] l = absurd (omega (arith, l.0.whole))
before_all n k p lists (x ∷ xs) l = All-map (Before (x ∷ xs)) (λ v. p ∷ v) lists (λ i d within. inl l.1)

longer-every : (n k p : ℕ) (lists : List (List ℕ)) (w : List ℕ) → AreAll (IsPartial n k) lists → ((v : List ℕ) → Leads n k p v → Contains (longer_to lists p) v) → Leads n k (suc p) w → Contains (longer_to lists (suc p)) w
longer-every n k p lists [] all prior l = absurd (omega (arith, l.0.whole))
longer-every n k p lists (q ∷ v) all prior l =
    ⊎_elim
    (λ same.
    let none : list_any (λ r. eqb r p) v ≡ false = absent_answer v p (subst (λ r. Contains v r → ⊥) same (partial_apart n k q v l.0)) in
    Contains-append_right (longer_to lists p) (longer_by lists p) (q ∷ v) (subst (λ r. Contains (longer_by lists p) (r ∷ v)) (sym same) (Contains-map (λ u. p ∷ u) _ v (Contains-filter (λ u. not (list_any (λ r. eqb r p) u)) lists v (ap not none) (all.every v (partial_tail n k q v l.0))))))
    (λ other. Contains-append_left (longer_to lists p) (longer_by lists p) (q ∷ v) (prior (q ∷ v) (l.0, omega (arith, other, l.1))))
    (cases_eq q p)

longer_all : (n k p : ℕ) (lists : List (List ℕ)) → AreAll (IsPartial n k) lists → p ≤ n → AreAll (Leads n k p) (longer_to lists p)
longer_all n k zero lists all low = record {
  only = All-nil _;
  every = λ w l. absurd (omega (arith, l.1));
  ordered = λ i j d below within. absurd (omega (arith, within));
}
longer_all n k (suc p) lists all low =
    let prior : AreAll (Leads n k p) (longer_to lists p) = longer_all n k p lists all (omega (arith, low)) in
    let test : List ℕ → Bool = λ v. not (list_any (λ q. eqb q p) v) in
    let others : List (List ℕ) = filter test lists in record {
      only = All-append (Leads n k (suc p)) (longer_to lists p) (longer_by lists p) (All-weaker (Leads n k p) (Leads n k (suc p)) (λ w l. (l.0, omega (arith, l.1))) (longer_to lists p) prior.only) (All-map (Leads n k (suc p)) (λ v. p ∷ v) others (λ i d within. (partial_cons n k p (get_or others i d) low (absent (get_or others i d) p (not_false _ (filter_passes test lists i d within))) (All-filter test (IsPartial n k) lists all.only i d within), omega arith)));
      every = λ w l. longer-every n k p lists w all prior.every l;
      ordered = AllPairs-append Before (longer_to lists p) (longer_by lists p) prior.ordered (λ i j d below within. let long : length (longer_by lists p) ≡ length others = length-map others (λ v. p ∷ v) in rw (get_or-map (λ v. p ∷ v) others i [] d (omega (arith, below, within, long)), get_or-map (λ v. p ∷ v) others j [] d (omega (arith, within, long))) (inr (refl, AllPairs-filter Before test lists all.ordered i j [] below (omega (arith, within, long))))) (λ i d within. before_all n k p others (get_or (longer_to lists p) i d) (prior.only i d within));
    }

pub partial_all : (n k : ℕ) → AreAll (IsPartial n k) (partial_to n k)
partial_all n zero = record {
  only = All-cons (IsPartial n zero) [] [] (record { whole = refl; below = All-nil _; apart = λ i j d below within. absurd (omega (arith, within)) }) (All-nil _);
  every = λ pins is. (zero, omega arith, sym (nil_from_length pins is.whole));
  ordered = λ i j d below within. absurd (omega (arith, below, within));
}
partial_all n (suc k) =
    let longer : AreAll (Leads n k n) (partial_to n (suc k)) = longer_all n k n (partial_to n k) (partial_all n k) (omega arith) in record {
      only = All-weaker (Leads n k n) (IsPartial n (suc k)) (λ w l. l.0) (partial_to n (suc k)) longer.only;
      every = λ w is. longer.every w (is, is.below 0 0 (omega (arith, is.whole)));
      ordered = longer.ordered;
    }

-- the lists that are read so far, and one more
pub pins_more : (lists : List (Vec ℕ Global)) (i : ℕ) (x : Vec ℕ Global) → i < length lists → x ≡ get_or lists i x → pins_of (take (i + 1) lists) ≡ pins_of (take i lists) ++ x.items ∷ []
pins_more lists i x within is =
    ap pins_of (take_more lists i x within) ∙ map_push (λ v. v.items) (take i lists) (get_or lists i x) ∙ ap (λ (v : Vec ℕ Global). pins_of (take i lists) ++ v.items ∷ []) (sym is)

pub longer_by_more : (start : List (List ℕ)) (lists : List (Vec ℕ Global)) (i p : ℕ) (x : Vec ℕ Global) → i < length lists → x ≡ get_or lists i x → (start ++ longer_by (pins_of (take i lists)) p) ++ longer_by (x.items ∷ []) p ≡ start ++ longer_by (pins_of (take (i + 1) lists)) p
longer_by_more start lists i p x within is =
    let front : List (List ℕ) = pins_of (take i lists) in
    let test : List ℕ → Bool = λ v. not (list_any (λ q. eqb q p) v) in
    append_assoc start (longer_by front p) (longer_by (x.items ∷ []) p)
    ∙ ap (λ ls. start ++ ls) (sym (ap (map (λ v. p ∷ v)) (filter-append test front (x.items ∷ [])) ∙ map-append (λ v. p ∷ v) (filter test front) (filter test (x.items ∷ []))) ∙ ap (λ ls. longer_by ls p) (sym (pins_more lists i x within is)))

front_pairs : (xs : List (List ℕ)) (x : List ℕ) → AllPairs Before (xs ++ x ∷ []) → AllPairs Before xs
front_pairs xs x ordered i j d below within =
    rw (sym (get_or_append_left xs (x ∷ []) d i (omega (arith, below, within))), sym (get_or_append_left xs (x ∷ []) d j within)) (ordered i j d below (omega (arith, within, length-append xs (x ∷ []))))

pub picked_kept : (P : List ℕ → Type 0) (xs ys : List (List ℕ)) (x : List ℕ) → P x → IsPicked P xs ys → IsPicked P (xs ++ x ∷ []) (ys ++ x ∷ [])
picked_kept P xs ys x holds before = record {
  only = All-push (λ y. P y × Contains (xs ++ x ∷ []) y) ys x (All-weaker (λ y. P y × Contains xs y) (λ y. P y × Contains (xs ++ x ∷ []) y) (λ y h. (h.0, Contains-append_left xs (x ∷ []) y h.1)) ys before.only) (holds, Contains-push xs x);
  every = All-push (λ y. P y → Contains (ys ++ x ∷ []) y) xs x (All-weaker (λ y. P y → Contains ys y) (λ y. P y → Contains (ys ++ x ∷ []) y) (λ y h p. Contains-append_left ys (x ∷ []) y (h p)) xs before.every) (λ _. Contains-push ys x);
  ordered = λ ordered.
      all_pairs_push Before ys x (before.ordered (front_pairs xs x ordered))
      (λ k d within.
      let y : List ℕ = get_or ys k d in
      let here : Contains xs y = (before.only k d within).1 in
      let pair = ordered here.0 (length xs) y here.1 (omega (arith, length-append xs (x ∷ []))) in
      rw (get_or_append_left xs (x ∷ []) y here.0 here.1, here.2, get_or_push xs x y (length xs) refl) at pair);
}

pub picked_left : (P : List ℕ → Type 0) (xs ys : List (List ℕ)) (x : List ℕ) → (P x → ⊥) → IsPicked P xs ys → IsPicked P (xs ++ x ∷ []) ys
picked_left P xs ys x fails before = record {
  only = All-weaker (λ y. P y × Contains xs y) (λ y. P y × Contains (xs ++ x ∷ []) y) (λ y h. (h.0, Contains-append_left xs (x ∷ []) y h.1)) ys before.only;
  every = All-push (λ y. P y → Contains ys y) xs x before.every (λ p. absurd (fails p));
  ordered = λ ordered. before.ordered (front_pairs xs x ordered);
}

pub picked_all : (P Q : List ℕ → Type 0) (xs ys : List (List ℕ)) → AreAll P xs → IsPicked Q xs ys → AreAll (λ w. P w × Q w) ys
picked_all P Q xs ys all picked = record {
  only = All-weaker (λ y. Q y × Contains xs y) (λ w. P w × Q w) (λ y h. (All-contains P xs y all.only h.1, h.0)) ys picked.only;
  every = λ w h. All-contains (λ y. Q y → Contains ys y) xs w picked.every (all.every w h.0) h.1;
  ordered = picked.ordered all.ordered;
}

pub listed_all : (n : ℕ) (lists : List (Vec ℕ Global)) → pins_of lists ≡ wirings_to n → AreAll (IsWiring n) (pins_of lists)
listed_all n lists listed = rw listed (partial_all n n)

-- each of them has at most six pins, below six
pub listed_at : (n : ℕ) (lists slice : List (Vec ℕ Global)) (i : ℕ) (x : Vec ℕ Global) → slice ≡ lists → pins_of lists ≡ wirings_to n → i < length slice → x ≡ get_or slice i x → IsWiring n x.items
listed_at n lists slice i x same listed within is =
    subst (IsWiring n) (get_or-map (λ v. v.items) slice i x [] within ∙ ap (λ v. v.items) (sym is)) ((listed_all n slice (ap pins_of same ∙ listed)).only i [] (omega (arith, within, length-map slice (λ v. v.items))))
