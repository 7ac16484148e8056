use Rattle.std.proofs.Common.{◌≡◌, ℕ, Bool, List, [], ◌∷◌, length, refl, sym, ap, ◌∙◌, arith}
use Rattle.tables.specs.Agreement.{Agree}
use Rattle.tables.specs.Wirings.{pin}
use Rattle.tables.specs.declared.wiring.Wiring.{Wiring}
use Rattle.trial.specs.Trials.{Passes, Faults}
use Rattle.trial.specs.declared.failed.Fault.{Fault}
use Rattle.trial.specs.declared.failed.Fault.TheVariants.{Count, Differs}
use Rattle.rebuild.specs.Samples.{IsWired}
use Rattle.rebuild.specs.declared.job.Stocked.{Stocked}
use Rattle.rebuild.proofs.trying.try_wired.Goals as goal

module _ {R : Type 0} (same : R → R → Bool) (n : ℕ) (card readings : List R) where
  -- a sample that is wired by an agreeing wiring passes
  wired_passes : (w : ℕ → ℕ) (part : List R) → Agree same n w card part → IsWired n w part readings → Passes same n card readings
  wired_passes w part agree wired = (
    (agree.card_rows, wired.count),
    λ r d lt.
        let (q, within, carried, is) = wired.rows r d lt in
        rw is (agree.rows r q d lt within carried),
  )

  -- and nothing is wrong with it
  no_fault : Passes same n card readings → (fault : Fault) → Faults same n card readings fault → (rows : List R) → rows ≡ card → ⊥
  no_fault passes Count wrong rows is = wrong passes.0
  no_fault passes (Differs row) (counted, (lt, before, differs)) [] is = absurd (omega (arith, lt, ap length is))
  no_fault passes (Differs row) (counted, (lt, before, differs)) (d ∷ rows) is = absurd (cc (passes.1 row d (omega (arith, lt, counted.0)), differs d))

pub unreachable-requires : goal.unreachable-requires
unreachable-requires g c =
    let (part, (k, lt, is), named) = c.requires.some in
    c.in_default.ensures.none k part lt (ap (λ (p : Stocked g.row.R.Denot). p.number) is ∙ named ∙ sym c.number.ensures)

pub readings_of-requires : goal.readings_of-requires
readings_of-requires g c =
    let serves = c.requires.each c.in-Some.part.now c.in-Some.ensures.found.0 (c.in-Some.ensures.found.1 ∙ c.number.ensures) in
    serves.0 ∙ sym c.requires.sized ∙ ap (λ (w : Wiring). w.inputs) (sym c.wiring.ensures)

pub unreachable-requires-in_default-try_wiring : goal.unreachable-requires-in_default-try_wiring
unreachable-requires-in_default-try_wiring g c =
    let same = g.R.RowKind.same in
    let wiring = c.args.proposal.wiring in
    let part = c.in-Some.part.now in
    let card = c.args.job.now.card in
    let readings = c.as_slice.result.now in
    let serves = c.requires.each part c.in-Some.ensures.found.0 (c.in-Some.ensures.found.1 ∙ c.number.ensures) in
    let wired : IsWired card.inputs (pin wiring.pins) part.table.rows.now readings = rw (← serves.0, ← c.wiring.ensures, c.as_slice.ensures.value) c.in_ok-readings.ensures in
    let passes = wired_passes same card.inputs card.rows.now readings (pin wiring.pins) part.table.rows.now serves.1 wired in
    no_fault same card.inputs card.rows.now readings passes c.in_default-try_wiring.field-0.fault (rw c.requires.sized at c.in_default-try_wiring.ensures.1) card.rows.now (refl {a = card.rows.now})
