use Rattle.std.proofs.Common.{◌≡◌, ℕ, ◌+◌, ◌-◌, ◌<◌, List, [], ◌∷◌, ◌++◌, map, length, get_or, take, string_bytes, vec_items, String, sym, ap, ◌∙◌, arith}
use Rattle.std.specs.declared.alloc.Global.{Global}
use Rattle.std.proofs.lemmas.List.{get_or-map, length-map, map_push, take_more}
use Rattle.std.proofs.lemmas.Result.{err_from_is_err_and}
use Rattle.rebuild.specs.Reading.{PartError, PartsError, spelled}
use Rattle.rebuild.specs.declared.failure.Failure.{Failure}
use Rattle.rebuild.specs.declared.failure.Failure.TheVariants.{Usage, NotRows, NotAPart, Refused, StockSize, Memory, Output}
use Rattle.rebuild.proofs.typed.typed_parts.Goals as goal

-- text k out of the list
word_is : (texts : List (String Global)) (k : ℕ) (text : String Global) → k < length texts → text ≡ get_or texts k text → get_or (map string_bytes texts) k [] ≡ string_bytes text
word_is texts k text lt is = get_or-map string_bytes texts k text [] lt ∙ ap string_bytes (sym is)

-- where text k spells no part, the list of texts spells no parts
parts_error : (texts : List (List ℕ)) (text : List ℕ) (k : ℕ) (failure : Failure) → k < length texts → get_or texts k [] ≡ text → PartError (k + 1) text failure → PartsError texts failure
parts_error texts text k Usage lt is h = h
parts_error texts text k (NotRows side) lt is h = h
parts_error texts text k (NotAPart place) lt is h =
    let back : k + 1 - 1 ≡ k = omega arith in
    rw h.0 (omega arith, omega arith, λ n rows short e. h.1 n rows short (sym is ∙ (rw back at e)))
parts_error texts text k (Refused side reason) lt is h = h
parts_error texts text k StockSize lt is h = h
parts_error texts text k Memory lt is h = h
parts_error texts text k Output lt is h = h

pub loop-k-preserved : goal.loop-k-preserved
loop-k-preserved c =
    let texts = map string_bytes c.args.texts.now in
    let k = c.loop-k.k in
    let lt : k < length texts = omega (arith, c.loop-k-test.true, length-map c.args.texts.now string_bytes) in
    let word = word_is c.args.texts.now k c.index-texts-k.result c.loop-k-test.true c.index-texts-k.is in
    let items : vec_items c.push.new.self ≡ vec_items c.loop-k.parts ++ (c.in_ok-part.part ∷ []) = c.in_ok-push.ensures.items in
    rw items (
    map_push spelled (vec_items c.loop-k.parts) c.in_ok-part.part
    ∙ ap (λ l. l ++ (spelled c.in_ok-part.part ∷ [])) c.loop-k.invariant
    ∙ ap (λ w. take k texts ++ (w ∷ [])) (sym (word ∙ sym c.as_str.ensures.value ∙ c.in_ok-part.ensures))
    ∙ sym (take_more texts k [] lt))

pub returns-in_err-part : goal.returns-in_err-part
returns-in_err-part c =
    let texts = map string_bytes c.args.texts.now in
    let lt : c.loop-k.k < length texts = omega (arith, c.loop-k-test.true, length-map c.args.texts.now string_bytes) in
    let word = word_is c.args.texts.now c.loop-k.k c.index-texts-k.result c.loop-k-test.true c.index-texts-k.is in
    let p = err_from_is_err_and c.from_residual.result c.from_residual.ensures.1 in
    rw (p.1, p.2) (parts_error texts c.as_str.result.now c.loop-k.k c.in_err-part.field-0.0 lt (word ∙ sym c.as_str.ensures.value) c.in_err-part.ensures)
