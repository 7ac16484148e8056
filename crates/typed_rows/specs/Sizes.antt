use Rattle.std.specs.Prelude.{ℕ, List, ◌++◌, codes}
use Rattle.std.specs.Fmt.{decimal}
use Rattle.typed_rows.specs.declared.size.Size.{Size}

abbrev pub size_text : Size → List ℕ
size_text size = decimal size.inputs ++ codes " inputs, " ++ decimal size.rows ++ codes " rows"
