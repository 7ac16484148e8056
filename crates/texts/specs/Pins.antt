use Rattle.std.specs.Prelude.{ℕ, List, ◌++◌, codes}
use Rattle.std.specs.List.{flat_map}
use Rattle.std.specs.Fmt.{decimal}

-- each pin after a space: the inside of a to-list
abbrev pub pins_text : List ℕ → List ℕ
pins_text pins = flat_map (λ pin. codes " " ++ decimal pin) pins
