-- From the lists that a pile gives two tables to what it tells apart.
use Rattle.std.proofs.Common.{◌≡◌, ℕ, ◌^◌, Bool, true, false, not, ◌&&◌, ltb, List, [], ◌∷◌, length, take, sym, refl, ap, ◌∙◌, subst, inl, ⊎_elim, arith, length-take}
use native.Mathlib.Nat.{min-eq_left}
use Rattle.std.proofs.lemmas.List.FromFn.{fill_by_all}
use Rattle.std.proofs.lemmas.List.{length-map}
use Rattle.std.proofs.lemmas.Bool.{cases_lt, le-ltb}
use Rattle.lists.specs.Counting.{AtMost}
use Rattle.lists.specs.Lists.{list, lists, equal, Keeps}
use Rattle.lists.specs.Pairs.{unequal}
use Rattle.lists.specs.declared.lists.Lists.{Lists}
use Rattle.signatures.specs.Law.{list_of, GivesLists, Lawful}
use Rattle.signatures.proofs.Kept.{list_is, keeps}
use Rattle.tables.specs.Agreement.{Agree}
use Rattle.tables.specs.Wirings.{pin, Wires}
use Rattle.tables.proofs.Reading.{same_inputs}
use Rattle.fitting.specs.Pruning.{all_lists, tells_apart}

-- no pair of which one half is missing
off : (s t x y : Bool) → t ≡ false → (s && t && x) ≡ (s && t && y)
off true t x y e = ap (λ u. u && x) e ∙ sym (ap (λ u. u && y) e)
off false t x y e = refl

module _ {R : Type 0} (count : ℕ) (value : ℕ → List R → ℕ → ℕ → ℕ) where
  pub lists_are : (n : ℕ) (rows : List R) (a : Lists) → GivesLists count value n rows a → lists a ≡ all_lists count value n rows
  lists_are n rows a h =
      let few = a.few in
      let whole = a.whole in
      let long : length (lists a) ≡ n = length-map (take a.inputs a.answers) (take a.places) ∙ length-take a.inputs a.answers ∙ min-eq_left (omega arith) ∙ h.inputs in
      fill_by_all (list_of count value n rows) (lists a) n [] long (λ i li. list_is count value n rows a h i li)

  module _ (same : R → R → Bool) (law : Lawful count value same) (n m : ℕ) (card part : List R) (a b : Lists)
      (ha : GivesLists count value n card a) (hb : GivesLists count value m part b) where
    -- what is worked out from the lists is worked out from the tables
    pub from_lists : (f : List (List ℕ) → List (List ℕ) → ℕ) → f (lists a) (lists b) ≡ f (all_lists count value n card) (all_lists count value m part)
    from_lists f = ap (λ x. f x (lists b)) (lists_are n card a ha) ∙ ap (λ y. f (all_lists count value n card) y) (lists_are m part b hb)

    pub apart_is : (i p : ℕ) → unequal a b i p ≡ tells_apart n m (list_of count value n card) (list_of count value m part) i p
    apart_is i p =
        ap (λ k. ltb i k && ltb p b.inputs && not (equal (list a i) (list b p))) ha.inputs
        ∙ ap (λ k. ltb i n && ltb p k && not (equal (list a i) (list b p))) hb.inputs
        ∙ ⊎_elim
        (λ li. ⊎_elim
        (λ lp. ap (λ x. ltb i n && ltb p m && not (equal x (list b p))) (list_is count value n card a ha i li) ∙ ap (λ y. ltb i n && ltb p m && not (equal (list_of count value n card i) y)) (list_is count value m part b hb p lp))
        (λ past. off (ltb i n) (ltb p m) _ _ (le-ltb p m past))
        (cases_lt p m))
        (λ past. ap (λ t. t && ltb p m && not (equal (list a i) (list b p))) (le-ltb i n past) ∙ sym (ap (λ t. t && ltb p m && not (equal (list_of count value n card i) (list_of count value m part p))) (le-ltb i n past)))
        (cases_lt i n)

    module _ (whole : length part ≡ 2 ^ m) where
      -- tables that agree have as many inputs, and an agreeing wiring keeps the lists
      pub agree_keeps : (w : ℕ → ℕ) → Agree same n w card part → Keeps n a b w
      agree_keeps w agree =
          let e : m ≡ n = same_inputs m n (sym whole ∙ agree.part_rows) in
          keeps count value same law n card part a b ha (subst (λ k. GivesLists count value k part b) e hb) w agree

      pub agree_most : (r : ℕ) → ((k : ℕ) → a.inputs ≡ k → b.inputs ≡ k → AtMost (λ w. Wires k w × Keeps k a b w) k r) → AtMost (λ w. Agree same n w card part) n r
      agree_most r bound [] apart all = omega arith
      agree_most r bound (x ∷ ws) apart all =
          let e : m ≡ n = same_inputs m n (sym whole ∙ (all x (inl refl)).1.part_rows) in
          bound n ha.inputs (hb.inputs ∙ e) (x ∷ ws) apart (λ w mem. let t = all w mem in (t.0, (t.1.wires, agree_keeps (pin w) t.1)))
