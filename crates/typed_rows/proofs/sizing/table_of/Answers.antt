use Rattle.std.proofs.Common.{◌≡◌, ℕ, ◌^◌, ◌<◌, ◌≤◌, ◌≢◌, inr, arith, rules}
use Rattle.std.proofs.Math.Pow.{pow_mono}
use Rattle.refusals.specs.Due.{refusal}
use Rattle.refusals.specs.Numbers.{number}
use Rattle.refusals.specs.declared.refusal.Refusal.{Refusal}
use Rattle.tables.specs.Making.{table_due}
use Rattle.typed_rows.specs.Sizing.{NoTable}
use Rattle.typed_rows.proofs.sizing.table_of.Goals as goal

-- where 2^n is not so many rows, but the least power that is enough, no power is
no_power : (rows n : ℕ) → ((k : ℕ) → k < n → 2 ^ k < rows) → rows ≤ 2 ^ n → rows ≢ 2 ^ n → (m : ℕ) → rows ≢ 2 ^ m
no_power rows n least enough other m e =
    let less : n ≤ m → ⊥ = (λ le. other (omega (arith, e, enough, pow_mono le))) in
    less (omega (arith, least m))

no_table : (rows n : ℕ) (reason : Refusal) → n ≤ 10 → ((k : ℕ) → k < n → 2 ^ k < rows) → rows ≤ 2 ^ n → table_due n rows ≡ refusal (number reason) → NoTable rows reason
no_table rows n reason few least enough due =
    let other : rows ≢ 2 ^ n = (λ e. search rules) in
    let four : number reason ≡ 4 = search rules in
    inr (omega (arith, enough, pow_mono few), no_power rows n least enough other, four)

pub returns : goal.returns
returns g c = search (rules, no_table)
