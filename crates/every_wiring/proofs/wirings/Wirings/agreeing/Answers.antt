use Rattle.std.proofs.Common.{◌≡◌, ℕ, ◌+◌, ◌<◌, List, [], ◌∷◌, ◌++◌, Vec, Global, length, get_or, map, take, ap, sym, subst, ◌∙◌, arith}
use Rattle.std.proofs.lemmas.List.{map_push, take_all}
use Rattle.std.proofs.lemmas.Bool.{true≢false}
use Rattle.every_wiring.specs.Agreement.{Agrees}
use Rattle.every_wiring.specs.Lists.{pins_of}
use Rattle.every_wiring.specs.Wirings.{IsWiring}
use Rattle.every_wiring.proofs.Listing.{listed_all, listed_at, picked_all, picked_kept, picked_left, pins_more}
use Rattle.every_wiring.proofs.wirings.Wirings.agreeing.Goals as goal
use Rattle.every_wiring.proofs.wirings.Wirings.agreeing.Goals.{then-agree+in_ok-push, else-agree}

pub agree-requires-clause-few : goal.agree-requires-clause-few
agree-requires-clause-few c =
    let n : ℕ = c.args.self.now.inputs in
    let is : IsWiring n c.pins-item.result.items = listed_at n c.args.self.now.list.items c.as_slice-pins-items.result.now c.loop-pins.pins-index c.pins-item.result c.as_slice-pins-items.ensures.value c.args.self.now.listed c.loop-pins-test.true c.pins-item.is in
    rw c.as_slice.ensures.value (omega (arith, is.whole, c.args.self.now.few))

pub agree-requires-clause-low : goal.agree-requires-clause-low
agree-requires-clause-low c =
    let n : ℕ = c.args.self.now.inputs in
    let is : IsWiring n c.pins-item.result.items = listed_at n c.args.self.now.list.items c.as_slice-pins-items.result.now c.loop-pins.pins-index c.pins-item.result c.as_slice-pins-items.ensures.value c.args.self.now.listed c.loop-pins-test.true c.pins-item.is in
    rw c.as_slice.ensures.value (λ k d within. omega (arith, is.below k d within, c.args.self.now.few))

pub loop-pins-preserved : goal.loop-pins-preserved
loop-pins-preserved c =
    let P : List ℕ → Type 0 = Agrees c.args.card.now c.args.part.now in
    let x : Vec ℕ Global = c.pins-item.result in
    let i : ℕ = c.loop-pins.pins-index in
    let lists : List (Vec ℕ Global) = c.args.self.now.list.items in
    let ys : List (List ℕ) = map (λ pins. pins.now) c.loop-pins.agreeing.items in
    let same : c.as_slice-pins-items.result.now ≡ lists = c.as_slice-pins-items.ensures.value in
    let more : pins_of (take (i + 1) lists) ≡ pins_of (take i lists) ++ x.items ∷ [] = pins_more lists i x (subst (λ ls. i < length ls) same c.loop-pins-test.true) (subst (λ ls. x ≡ get_or ls i x) same c.pins-item.is) in
    elim c.if-agree.branch [
      | then-agree+in_ok-push w ↦
          let pushed : map (λ pins. pins.now) c.if-agree.agreeing.items ≡ ys ++ x.items ∷ [] = ap (λ v. map (λ pins. pins.now) v.items) w.agreeing-is ∙ ap (map (λ pins. pins.now)) w.in_ok-push.ensures.items ∙ map_push (λ pins. pins.now) c.loop-pins.agreeing.items w.as_slice-then-agree.result ∙ ap (λ v. ys ++ v ∷ []) w.as_slice-then-agree.ensures.value in
          rw (more, pushed) (picked_kept P (pins_of (take i lists)) ys x.items (subst P c.as_slice.ensures.value (c.agree.ensures.0 w.if-agree.true)) c.loop-pins.invariant)
      | else-agree w ↦ rw (w.agreeing-is, more) (picked_left P (pins_of (take i lists)) ys x.items (λ holds. true≢false (sym (c.agree.ensures.1 (subst P (sym c.as_slice.ensures.value) holds)) ∙ w.if-agree.false)) c.loop-pins.invariant)
    ]

pub returns : goal.returns
returns c =
    let lists : List (Vec ℕ Global) = c.args.self.now.list.items in
    let all : take c.loop-pins.pins-index lists ≡ lists = take_all c.loop-pins.pins-index lists (omega (arith, c.loop-pins-test.false, ap length c.as_slice-pins-items.ensures.value)) in
    picked_all (IsWiring c.args.self.now.inputs) (Agrees c.args.card.now c.args.part.now) (pins_of lists) _ (listed_all _ lists c.args.self.now.listed) (rw (sym (ap pins_of all)) c.loop-pins.invariant)
