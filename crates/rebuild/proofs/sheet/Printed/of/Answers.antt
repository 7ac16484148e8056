use Rattle.std.proofs.Common.{◌≡◌, ℕ, ◌++◌, List, take, length, ap}
use Rattle.std.proofs.Math.Seq.{take-append_seam}
use Rattle.wire_sheet.specs.declared.sheet.Sheet.{Sheet}
use Rattle.trial.specs.declared.tried.Tried.{Tried}
use Rattle.rebuild.proofs.sheet.Printed.of.Goals as goal

-- the sheet that a tried wiring makes
abbrev sheet_of : Tried → Sheet
sheet_of tried = record { number = tried.number; wiring = tried.wiring; numbered = tried.numbered }

-- the text stands in the front
front : (text rest memory : List ℕ) (size : ℕ) → size ≡ length text → memory ≡ text ++ rest → take size memory ≡ text
front text rest memory size long is = rw (long, is) (take-append_seam text rest)

pub unreachable-requires-in_default-read : goal.unreachable-requires-in_default-read
unreachable-requires-in_default-read c =
    let sheet = sheet_of c.args.tried in
    let copied = c.in-Ok.ensures.answer in
    c.in_default-read.not-Ok sheet ((c.read.ensures.exact sheet).1 (front _ _ _ _ copied.1 copied.2))

pub returns : goal.returns
returns c =
    let sheet = sheet_of c.args.tried in
    let copied = c.in-Ok.ensures.answer in
    let text = front _ _ _ _ copied.1 copied.2 in
    let read = (c.read.ensures.exact sheet).1 text in
    let same : c.in-Ok-read.read ≡ sheet = cc (c.in-Ok-read.is, read) in
    record { text = text; number_read = ap (λ (s : Sheet). s.number) same; wiring_read = ap (λ (s : Sheet). s.wiring) same }
