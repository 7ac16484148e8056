use Rattle.std.proofs.Common.{◌≡◌, ℕ, ◌+◌, ◌^◌, ◌<◌, List, [], ◌∷◌, ◌++◌, length, get_or, sym, ◌∙◌, subst, ⊎_elim, arith, length-append}
use Rattle.std.proofs.lemmas.Bool.{cases_eq}
use Rattle.std.proofs.lemmas.List.{get_or_push, get_or_append_left, get_or_default}
use Rattle.tables.specs.Wirings.{pin}
use Rattle.tables.specs.Agreement.{Carried}
use Rattle.rebuild.proofs.sample.readings_of.Goals as goal

abbrev Reads : {R : Type 0} → ℕ → (ℕ → ℕ) → List R → List R → ℕ → Type 0
Reads {R} n w part readings r = (d : R) → (q : ℕ) × (q < 2 ^ n) × Carried n w r q × (get_or readings r d ≡ get_or part q d)

-- one reading more
more : {R : Type 0} (n : ℕ) (w : ℕ → ℕ) (part readings : List R) (k q : ℕ) (row : R) → length readings ≡ k → q < 2 ^ n → Carried n w k q → ((d : R) → row ≡ get_or part q d)
    → ((r : ℕ) → r < k → Reads n w part readings r) → (r : ℕ) → r < k + 1 → Reads n w part (readings ++ row ∷ []) r
more n w part readings k q row long within carried is before r lt d =
    ⊎_elim
    (λ e. rw e (q, within, carried, get_or_push readings row d k long ∙ is d))
    (λ ne.
    let below : r < k = omega (arith, lt, ne) in
    let (p, in_part, to, reads) = before r below d in
    (p, in_part, to, get_or_append_left readings (row ∷ []) d r (omega (arith, below, long)) ∙ reads))
    (cases_eq r k)

pub loop-row-preserved : goal.loop-row-preserved
loop-row-preserved g c =
    let readings = c.loop-row.readings.items in
    let part = c.args.part.now in
    let w = pin c.args.wiring.now.pins in
    let k = c.loop-row.row in
    let q = c.carry.result in
    let row = get_or part.rows.now q c.index-part-carry.result in
    let i = c.loop-row.invariant in
    let items = c.in_ok-push.ensures.items in
    let within : q < 2 ^ part.inputs = subst (λ n. q < 2 ^ n) (sym c.requires) c.carry.ensures.within in
    let carried : Carried part.inputs w k q = subst (λ n. Carried n w k q) (sym c.requires) c.carry.ensures.carried in
    let is : (d : g.row.R.Denot) → row ≡ get_or part.rows.now q d = λ d. get_or_default part.rows.now q c.index-part-carry.result d (omega (arith, within, part.whole)) in (
      rw items (omega (arith, i.0, length-append readings (row ∷ []))),
      rw items (λ r d lt. more part.inputs w part.rows.now readings k q row i.0 within carried is (λ r lt d. i.1 r d lt) r lt d),
    )
