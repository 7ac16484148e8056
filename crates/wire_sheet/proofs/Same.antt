-- Sheets of the same number and wiring are the same sheet.
use Rattle.std.proofs.Common.{◌≡◌, ℕ, ◌≤◌, ap, subst}
use Rattle.std.proofs.Props.{props}
use Rattle.tables.specs.declared.wiring.Wiring.{Wiring}
use Rattle.wire_sheet.specs.declared.sheet.Sheet.{Sheet}

abbrev IsNumber : ℕ → Type 0
IsNumber n = (1 ≤ n) × (n ≤ 9999)

number_proof : (n : ℕ) → Prim.IsProp (IsNumber n)
number_proof n = hlevel props

abbrev sheet : (n : ℕ) → Wiring → IsNumber n → Sheet
sheet n w numbered = record { number = n; wiring = w; numbered = numbered }

sheet_same : (m n : ℕ) (v w : Wiring) → m ≡ n → v ≡ w → (a : IsNumber m) (b : IsNumber n) → sheet m v a ≡ sheet n w b
sheet_same m n v w number wiring a b =
    subst (λ k. (c : IsNumber k) → sheet m v a ≡ sheet k w c) number
    (subst (λ u. (c : IsNumber m) → sheet m v a ≡ sheet m u c) wiring (λ c. ap (sheet m v) (number_proof m a c))) b

pub same_sheet : (a b : Sheet) → a.number ≡ b.number → a.wiring ≡ b.wiring → a ≡ b
same_sheet a b number wiring = sheet_same a.number b.number a.wiring b.wiring number wiring a.numbered b.numbered
