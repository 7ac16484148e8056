-- Reads and writes that come one after the other, where the bytes are known.
use Rattle.std.proofs.Common.{◌≡◌, ℕ, List, [], ◌++◌, Some, None, Option, sym, refl, ap, ◌∙◌}
use Rattle.std.proofs.lemmas.List.{append-nil, append_assoc}
use Rattle.std.specs.Io.KnownBytes.{Appends, Consumes}

pub appends_nothing : (known : Option (List ℕ)) → Appends known known []
appends_nothing None = tt
appends_nothing (Some xs) = sym (append-nil xs)

pub appends_append : (a b c : Option (List ℕ)) (xs ys : List ℕ) → Appends a b xs → Appends b c ys → Appends a c (xs ++ ys)
appends_append None b c xs ys first then = tt
appends_append (Some before) (Some bs) (Some cs) xs ys first then = then ∙ ap (λ l. l ++ ys) first ∙ append_assoc before xs ys
appends_append (Some before) None c xs ys first then = absurd first
appends_append (Some before) (Some bs) None xs ys first then = absurd then

pub consumes_nothing : (known : Option (List ℕ)) → Consumes known known []
consumes_nothing None = tt
consumes_nothing (Some xs) = refl

pub consumes_append : (a b c : Option (List ℕ)) (xs ys : List ℕ) → Consumes a b xs → Consumes b c ys → Consumes a c (xs ++ ys)
consumes_append None b c xs ys first then = tt
consumes_append (Some whole) None c xs ys first then = absurd first
consumes_append (Some whole) (Some bs) None xs ys first then = absurd then
consumes_append (Some whole) (Some bs) (Some cs) xs ys first then = first ∙ ap (λ l. xs ++ l) then ∙ sym (append_assoc xs ys cs)

pub reads_nothing : (xs : List ℕ) → xs ≡ [] ++ xs
reads_nothing xs = refl

pub reads_in_order : (a b c xs ys : List ℕ) → a ≡ xs ++ b → b ≡ ys ++ c → a ≡ (xs ++ ys) ++ c
reads_in_order a b c xs ys first then = first ∙ ap (λ l. xs ++ l) then ∙ sym (append_assoc xs ys c)

pub writes_nothing : (xs : List ℕ) → xs ≡ xs ++ []
writes_nothing xs = sym (append-nil xs)

pub writes_in_order : (a b c us vs : List ℕ) → b ≡ a ++ us → c ≡ b ++ vs → c ≡ a ++ (us ++ vs)
writes_in_order a b c us vs first then = then ∙ ap (λ l. l ++ vs) first ∙ append_assoc a us vs
