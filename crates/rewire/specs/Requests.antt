use Rattle.std.specs.Prelude.{◌≡◌, ◌≢◌, ℕ, List, [], ◌∷◌, codes, Some, None, Option}
use Rattle.rewire.specs.declared.request.Request.{Request}
use Rattle.rewire.specs.declared.request.Request.TheVariants.{Help, Match}

-- what the arguments ask: help alone, or a match of a card with a part, or nothing that is known
abbrev pub Asks : List (List ℕ) → Option Request → Type 0
Asks args (Some Help) = args ≡ codes "--help" ∷ []
Asks args (Some (Match card part)) = args ≡ card.now ∷ part.now ∷ []
Asks args None = (args ≢ codes "--help" ∷ []) × ((card part : List ℕ) → args ≢ card ∷ part ∷ [])
