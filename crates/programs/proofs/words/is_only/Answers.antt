use Rattle.std.proofs.Common.{rules, ◌≡◌, List, [], ◌∷◌, map, length, get_or, string_bytes, IsTrue, sym, ap, ◌∙◌, arith}
use Rattle.std.specs.Prelude.{codes}
use Rattle.programs.proofs.words.is_only.Goals as goal

-- what a function makes of the only item of a list
map_only : {A B : Type 0} (f : A → B) (xs : List A) (x : A) → length xs ≡ 1 → x ≡ get_or xs 0 x → map f xs ≡ f x ∷ []
map_only f [] x one is = absurd (omega arith)
map_only f (y ∷ []) x one is = ap (λ z. f z ∷ []) (sym is)
map_only f (y ∷ z ∷ zs) x one is = absurd (omega arith)

pub returns-in-len1 : goal.returns-in-len1
returns-in-len1 c =
    let only = map_only string_bytes c.args.args.now c.only-item.result (omega arith) c.only-item.is in
    let same : IsTrue c.eq.result → string_bytes c.only-item.result ≡ c.args.word.now = search rules in
    let back : string_bytes c.only-item.result ≡ c.args.word.now → IsTrue c.eq.result = search rules in
    (λ yes. only ∙ ap (λ w. w ∷ []) (same yes), λ e. back (cc (only, e)))
