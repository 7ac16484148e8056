use Rattle.std.proofs.Common.{◌≡◌, ℕ, ◌+◌, ◌-◌, ◌*◌, ◌%◌, ◌^◌, ◌<◌, Bool, true, false, length, get_or, sym, ap, ◌∙◌, ⊎_elim, arith, rules}
use Rattle.std.proofs.lemmas.Bool.{cases_lt, both_ways}
use Rattle.tables.specs.Agreement.{bit}
use Rattle.tables.specs.declared.table.Table.{Table}
use Rattle.tables.proofs.Reading.{same_rows}
use Rattle.tables.proofs.Published.{not_so, so}
use Rattle.symmetry.specs.Symmetry.{exchanged}
use Rattle.symmetry.proofs.Exchanges.{exchanged_lt, moved_is}
use Rattle.symmetry.proofs.Symmetries.{of_moved}
use Rattle.symmetry.proofs.exchange.are_symmetric.Goals as goal
use Rattle.symmetry.proofs.exchange.are_symmetric.Goals.{then-r-i-eq1+then-r-k-eq0+else-not-is_same, else-r-i-eq1, else-r-i-eq1-via-then-r-i-eq1+else-r-k-eq0, else-r-i-eq1-via-else-r-i-eq1}

-- a row of a table with i on and k off
module _ {R : Type 0} (t : Table R) (i k : ℕ) (li : i < t.inputs) (lk : k < t.inputs) (r : ℕ) (lr : r < length t.rows.now) (on : bit i r ≡ 1) (off : bit k r ≡ 0) where
  abbrev place : ℕ
  place = r + 1 * 2 ^ k % 18446744073709551616 - 1 * 2 ^ i % 18446744073709551616

  place_is : place ≡ exchanged t.inputs i k r
  place_is = moved_is t.inputs i k li lk r t.few (omega (arith, lr, t.whole)) on off

  place_in : place < length t.rows.now
  place_in = omega (arith, place_is, exchanged_lt t.inputs i k r, t.whole)

  -- what is_same says of the two rows
  said : (same : R → R → Bool) (x y : R) (b : Bool) → x ≡ get_or t.rows.now r x → y ≡ get_or t.rows.now place y → b ≡ same (get_or t.rows.now r x) (get_or t.rows.now place y) → (d : R) → same (get_or t.rows.now r d) (get_or t.rows.now (exchanged t.inputs i k r) d) ≡ b
  said same x y b ex ey e d =
      ap (λ q. same (get_or t.rows.now r d) (get_or t.rows.now q d)) (sym place_is)
      ∙ same_rows same t.rows.now t.rows.now r place x y b lr place_in ex ey (ap (λ z. same z y) ex ∙ ap (same (get_or t.rows.now r x)) ey ∙ sym e) d

pub offset_bounds-table-exchanged : goal.offset_bounds-table-exchanged
offset_bounds-table-exchanged g c =
    let within = place_in c.args.table.now c.args.i c.args.k c.requires.i_in c.requires.k_in c.loop-r.r c.loop-r-test.true c.if-r-i-eq1.true c.if-r-k-eq0.true in
    search rules

pub bounds-table-exchanged : goal.bounds-table-exchanged
bounds-table-exchanged g c = place_in c.args.table.now c.args.i c.args.k c.requires.i_in c.requires.k_in c.loop-r.r c.loop-r-test.true c.if-r-i-eq1.true c.if-r-k-eq0.true

pub returns-then-not-is_same : goal.returns-then-not-is_same
returns-then-not-is_same g c =
    let t = c.args.table.now in
    let same = g.R.RowKind.same in
    let x = c.index-table-r.result in
    let off = said t c.args.i c.args.k c.requires.i_in c.requires.k_in c.loop-r.r c.loop-r-test.true c.if-r-i-eq1.true c.if-r-k-eq0.true same x c.index-table-exchanged.result false c.index-table-r.is c.index-table-exchanged.is (sym c.if-not-is_same.true ∙ c.is_same.ensures) x in
    not_so _ (λ s. both_ways _ off (s c.loop-r.r x (omega (arith, c.loop-r-test.true, t.whole))))

pub loop-r-preserved : goal.loop-r-preserved
loop-r-preserved g c = λ q d lq on off.
    let t = c.args.table.now in
    let same = g.R.RowKind.same in
    ⊎_elim
    (λ below. c.loop-r.invariant q d below on off)
    (λ above.
    let here : q ≡ c.loop-r.r = omega arith in
    let on' : bit c.args.i c.loop-r.r ≡ 1 = ap (bit c.args.i) (sym here) ∙ on in
    let off' : bit c.args.k c.loop-r.r ≡ 0 = ap (bit c.args.k) (sym here) ∙ off in
    ap (λ p. same (get_or t.rows.now p d) (get_or t.rows.now (exchanged t.inputs c.args.i c.args.k p) d)) here ∙ (elim c.if-r-i-eq1.branch [
      | then-r-i-eq1+then-r-k-eq0+else-not-is_same way ↦
          said t c.args.i c.args.k c.requires.i_in c.requires.k_in c.loop-r.r c.loop-r-test.true on' off' same way.index-table-r.result way.index-table-exchanged.result true way.index-table-r.is way.index-table-exchanged.is (sym way.if-not-is_same.false ∙ way.is_same.ensures) d
      | else-r-i-eq1 way ↦ elim way.else-r-i-eq1.branch [
        | else-r-i-eq1-via-then-r-i-eq1+else-r-k-eq0 way' ↦ absurd (way'.if-r-k-eq0.false off')
        | else-r-i-eq1-via-else-r-i-eq1 way' ↦ absurd (way'.if-r-i-eq1.false on')
      ]
    ]))
    (cases_lt q c.loop-r.r)

pub returns : goal.returns
returns g c =
    let t = c.args.table.now in
    so _ (of_moved g.R.RowKind.same g.R.RowKind.weight g.met.R.RowKind.laws t.inputs t.rows.now c.args.i c.args.k c.requires.i_in c.requires.k_in
    (λ r d lr on off. c.loop-r.invariant r d (omega (arith, c.loop-r-test.false, t.whole, lr)) on off))
