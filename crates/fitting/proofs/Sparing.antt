-- Strikes that spare every agreeing wiring lose none.
use Rattle.std.proofs.Common.{ℕ, Bool, List, Some, None, Option}
use Rattle.matching.specs.Search.{Usable, Found}
use Rattle.matching.specs.Struck.{Spared}
use Rattle.tables.specs.declared.table.Table.{Table}
use Rattle.tables.specs.declared.wiring.Wiring.{Wiring}
use Rattle.fitting.specs.Fits.{AgreeUnder, Fits}

module _ {R : Type 0} (same : R → R → Bool) (card part : Table R) (strikes : List (List Bool))
    (spares : (w : ℕ → ℕ) → AgreeUnder same card part w → Spared strikes card.inputs w) where
  usable : (w : ℕ → ℕ) → AgreeUnder same card part w → Usable same card part strikes w
  usable w agree = record { agree = agree; spared = spares w agree }

  pub fits : (r : Option Wiring) → Found same card part strikes r → Fits same card part r
  fits (Some w) found = (found.0, record { agree = found.1.usable.agree; first = λ v agree other. found.1.first v (usable v agree) other })
  fits None found = λ w agree. found w (usable w agree)
