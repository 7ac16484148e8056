-- What is read of vectors of pins.
use Rattle.std.specs.Prelude.{ℕ, List, map}
use Rattle.std.specs.Global.{Vec}

-- the pins of each wiring
abbrev pub pins_of : List (Vec ℕ) → List (List ℕ)
pins_of lists = map (λ pins. pins.items) lists
