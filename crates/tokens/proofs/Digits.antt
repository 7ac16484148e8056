-- A number is read digit by digit.
use Rattle.std.proofs.Common.{◌≡◌, ℕ, ◌+◌, ◌*◌, ◌<◌, ◌≤◌, List, length, get_or, take, refl, sym, ap, ◌∙◌, subst, ⊎_elim, arith}
use Rattle.std.specs.List.{All}
use Rattle.std.specs.Fmt.{decimal}
use Rattle.std.specs.Str.Parse.{digits_value}
use Rattle.std.proofs.lemmas.List.{take_all, length-take-le}
use Rattle.std.proofs.lemmas.List.Elements.{All-nil, All-more}
use Rattle.std.proofs.lemmas.Bool.{cases_order}
use Rattle.std.proofs.lemmas.Int.Digits.{digits_value_more}
use Rattle.std.proofs.lemmas.Str.{digit_value_digit}
use Rattle.std.proofs.lemmas.Str.Parse.{digits_value_short}
use Rattle.std.proofs.lemmas.Fmt.{decimal_nonempty, length-decimal-le, first_decimal, decimal_digit, decimal-digits_value}
use Rattle.tokens.specs.declared.characters.Kind.TheVariants.{Digit}
use Rattle.tokens.specs.Characters.{Is}
use Rattle.tokens.proofs.Runs.{own, all_decimal}

-- what has been read of a run
pub record Sofar (run : List ℕ) (i n : ℕ) : Type 0 where
  pub all : All (Is Digit) (take i run)
  pub value : n ≡ digits_value 10 (take i run)

pub sofar_none : (run : List ℕ) → Sofar run 0 0
sofar_none run = record { all = All-nil (Is Digit); value = refl }

pub sofar_bound : (run : List ℕ) (i n : ℕ) → length run ≤ 5 → i ≤ length run → Sofar run i n → n < 100000
sofar_bound run i n short le sofar =
    let long : length (take i run) ≡ i = length-take-le i run le in
    omega (arith, sofar.value, digits_value_short own (take i run) 5 sofar.all (omega arith))

pub sofar_more : (run : List ℕ) (i n c digit : ℕ) → i < length run → Sofar run i n → c ≡ get_or run i 0 → Is Digit c → c ≡ 48 + digit → Sofar run (i + 1) (n * 10 + digit)
sofar_more run i n c digit lt sofar here is value =
    let same : Is Digit (get_or run i 0) = subst (Is Digit) here is in
    record {
      all = All-more (Is Digit) run i 0 lt sofar.all same;
      value = omega (arith, sofar.value, digits_value_more 10 run i lt, digit_value_digit (get_or run i 0) same);
    }

pub sofar_done : (run : List ℕ) (n : ℕ) → length run ≤ 5 → 0 < length run → (get_or run 0 0 ≡ 48 → length run ≡ 1) → Sofar run (length run) n → (n < 100000) × (run ≡ decimal n)
sofar_done run n short some lead sofar =
    let whole : take (length run) run ≡ run = take_all (length run) run (omega arith) in
    let value : n ≡ digits_value 10 run = sofar.value ∙ ap (digits_value 10) whole in
    let small : n < 100000 = sofar_bound run (length run) n short (omega arith) sofar in
    (small, sym (ap decimal value ∙ decimal-digits_value own run (subst (All (Is Digit)) whole sofar.all) some lead (omega arith)))

-- what is written of a number of at most five digits
pub record Shape (run : List ℕ) : Type 0 where
  pub some : 0 < length run
  pub short : length run ≤ 5
  pub lead : get_or run 0 0 ≡ 48 → length run ≡ 1
  pub all : All (Is Digit) run

pub shape : (run : List ℕ) (n : ℕ) → n < 100000 → run ≡ decimal n → Shape run
shape run n small e =
    subst Shape (sym e) (record {
      some = decimal_nonempty n (omega arith);
      short = length-decimal-le 5 n (omega arith) small (omega arith);
      lead = λ z.
          ⊎_elim
          (λ (o : 0 ≡ n). ap length (decimal_digit n (omega arith)))
          (⊎_elim (λ (o : 0 < n). absurd (omega (arith, first_decimal n o (omega arith)))) (λ (o : n < 0). absurd (omega arith)))
          (cases_order 0 n);
      all = all_decimal n small;
    })
