use Rattle.std.specs.Prelude.{◌≡◌, ◌≢◌, List, ℕ, [], ◌∷◌, codes, Some, None, Option}
use Rattle.shelf.specs.declared.request.Request.{Request}
use Rattle.shelf.specs.declared.request.Request.TheVariants.{Help, Serve}

-- what the arguments ask: help alone, or with no argument to serve, or nothing that is known
abbrev pub Asks : List (List ℕ) → Option Request → Type 0
Asks args (Some Help) = args ≡ codes "--help" ∷ []
Asks args (Some Serve) = args ≡ []
Asks args None = (args ≢ codes "--help" ∷ []) × (args ≢ [])
