-- What is written into row memory, and where.
use Rattle.std.proofs.Common.{◌≡◌, ℕ, ◌+◌, ◌*◌, ◌%◌, ◌^◌, ◌≤◌, List, ◌++◌, length, take, drop, sym, ap, ◌∙◌, append_assoc, mod-eq_of_lt, one-mul, arith, length-drop, take-append-drop, length-take-le, drop-drop, pow_mono}
use lib.Seq.{drop-append-le}
use borrow.Rule.Slice.PartMut.{put_mid, mid_of}
use Rattle.inventory.specs.Slots.{written}

-- a part's rows fit a stretch
pub rows_fit : (n : ℕ) → n ≤ 10 → 2 ^ n ≤ 1024
rows_fit n le = let top : 2 ^ n ≤ 2 ^ 10 = pow_mono le in omega arith

pub shift_rows : (n : ℕ) → n ≤ 10 → 1 * 2 ^ n % 18446744073709551616 ≡ 2 ^ n
shift_rows n le = let small = rows_fit n le in ap (λ x. x % 18446744073709551616) (one-mul (2 ^ n)) ∙ mod-eq_of_lt (omega arith)

-- what is copied into the front of a stretch is written into the whole
pub put_front : {X : Type 0} (m new last : List X) (a k : ℕ) → a + k ≤ length m → length new ≤ k → last ≡ new ++ drop (length new) (mid_of a k m) → put_mid a k m last ≡ written m a new
put_front m new last a k within fits e =
    let d = drop a m in
    let long : length (take k d) ≡ k = length-take-le k d (simp length-drop (omega arith)) in
    let rest : drop (length new) (take k d) ++ drop k d ≡ drop (a + length new) m =
    sym (drop-append-le (length new) (take k d) (drop k d) (omega arith)) ∙ ap (drop (length new)) (take-append-drop k d) ∙ drop-drop (length new) a m in
    ap (λ l. take a m ++ (l ++ drop k d)) e ∙ ap (λ l. take a m ++ l) (append_assoc new (drop (length new) (take k d)) (drop k d) ∙ ap (λ l. new ++ l) rest)
