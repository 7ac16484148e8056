use Rattle.std.proofs.Common.{length, ap, length-drop, arith}
use Rattle.std.proofs.lemmas.Bool.{eqb-true, eq-eqb}
use Rattle.std.proofs.lemmas.List.{drop_all}
use Rattle.tokens.proofs.cursor.Cursor.is_at_end.Goals as goal

pub returns : goal.returns
returns c =
    let line = c.args.self.now.line.now in
    let at = c.args.self.now.at in (
      λ ends. drop_all at line (omega (arith, eqb-true at (length line) ends)),
      λ none. eq-eqb at (length line) (omega (arith, c.args.self.now.within, ap length none, length-drop at line)),
    )
