use Rattle.std.proofs.Common.{rules, ◌≡◌, ◌*◌, length, Ok, Err, Result, sym, refl, ap, ◌∙◌}
use Rattle.inventory.specs.Stocking.{IsEmpty}
use Rattle.refusals.specs.declared.refusal.Refusal.{Refusal}
use Rattle.runs.proofs.Stock.{empty_holds}
use Rattle.rebuild.proofs.Stock.{holds_next, stands_next, refused_next}
use Rattle.rebuild.proofs.stocking.shelve.Goals as goal

pub loop-part-init : goal.loop-part-init
loop-part-init g c =
    let empty : IsEmpty (length c.args.stock.now) c.in_ok-shelf.shelf = search rules in
    record { memory = c.requires; slots = empty.0; held = empty_holds c.in_ok-shelf.shelf.slots c.args.memory.now empty.1; stand = refl }

ok_of : (result : Result (Unit {0}) Refusal) → ((x : Refusal) → result ≡ Err x → ⊥) → result ≡ Ok (tt {0})
ok_of (Ok x) not = refl
ok_of (Err x) not = absurd (not x refl)

pub returns-in-Err-clause-failed : goal.returns-in-Err-clause-failed
returns-in-Err-clause-failed g c =
    let i = c.loop-part.invariant in
    let part = c.part-item.result in
    let long : length c.loop-part.memory ≡ c.loop-part.shelf.count * 1024 = i.memory ∙ ap (λ n. n * 1024) (sym i.slots) in
    refused_next g.R.RowKind.same c.loop-part.shelf c.loop-part.memory long part c.args.stock.now c.loop-part.part-index i.slots c.loop-part-test.true c.part-item.is i.held i.stand
    c.enter-entered.new.self c.enter-entered.new.memory c.in-Err.refusal c.in-Err.ensures

pub loop-part-preserved : goal.loop-part-preserved
loop-part-preserved g c =
    let i = c.loop-part.invariant in
    let part = c.part-item.result in
    let long : length c.loop-part.memory ≡ c.loop-part.shelf.count * 1024 = i.memory ∙ ap (λ n. n * 1024) (sym i.slots) in
    let ok : c.enter-entered.result ≡ Ok (tt {0}) = ok_of c.enter-entered.result c.in_default.not-Err in
    let so = rw ok at c.enter-entered.ensures in
    record {
      memory = c.enter-entered.auto.memory ∙ i.memory;
      slots = so.1.6 ∙ i.slots;
      held =
          holds_next g.R.RowKind.same c.loop-part.shelf c.loop-part.memory long part c.args.stock.now c.loop-part.part-index i.slots c.loop-part-test.true c.part-item.is i.held i.stand
          c.enter-entered.new.self c.enter-entered.new.memory so;
      stand =
          stands_next g.R.RowKind.same c.loop-part.shelf c.loop-part.memory long part c.args.stock.now c.loop-part.part-index i.slots c.loop-part-test.true c.part-item.is i.held i.stand
          c.enter-entered.new.self c.enter-entered.new.memory so;
    }
