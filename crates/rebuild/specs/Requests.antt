use Rattle.std.specs.Prelude.{◌≡◌, ◌≢◌, ℕ, ◌<◌, ◌≤◌, List, [], ◌∷◌, map, length, codes, string_bytes, Some, None, Option}
use Rattle.rebuild.specs.declared.request.Request.{Request}
use Rattle.rebuild.specs.declared.request.Request.TheVariants.{Help, Examples, Repair}

-- what the arguments ask: the examples where there are none, help alone, or that a card is rebuilt from some parts, or
-- nothing that is known
abbrev pub Asks : List (List ℕ) → Option Request → Type 0
Asks args (Some Examples) = args ≡ []
Asks args (Some Help) = args ≡ codes "--help" ∷ []
Asks args (Some (Repair card readings stock)) =
    (args ≡ card.now ∷ readings.now ∷ map string_bytes stock.now) × (0 < length stock.now)
Asks args None = (0 < length args) × (length args ≤ 2) × (args ≢ codes "--help" ∷ [])
