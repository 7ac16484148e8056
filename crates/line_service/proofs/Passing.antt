-- Calls of a peer that come one after the other.
use Rattle.std.proofs.Common.{◌≡◌, ℕ, ◌+◌, ◌-◌, List, [], ◌++◌, length, take, drop, take-add, Ok, Err, Result, sym, subst, arith}
use Rattle.std.specs.Prelude.{IfOk, IfErr, IsErrAnd}
use Rattle.std.specs.declared.io.Error.{Error}
use Rattle.std.proofs.lemmas.List.{append-nil, take_all, length-drop}
use Rattle.line_service.specs.Peers.{PassesInOrder, Interrupts}

-- signals have interrupted so many calls until now
abbrev pub InterruptedUntil : {C : Type 0} → (C → Error → C → Type 0) → C → (calls : ℕ) → C → Type 0
InterruptedUntil fails a calls b = (errors : List Error) × (length errors ≡ calls) × Interrupts fails a errors b

module _ {C : Type 0} (passes : C → List ℕ → List ℕ → C → Type 0) (in_order : PassesInOrder passes) (a b c : C) where
  pub then_read : (xs ys us : List ℕ) → passes a xs us b → passes b ys [] c → passes a (xs ++ ys) us c
  then_read xs ys us first then = subst (λ l. passes a (xs ++ ys) l c) (append-nil us) (in_order a b c xs ys us [] first then)

  pub then_written : (xs us vs : List ℕ) → passes a xs us b → passes b [] vs c → passes a xs (us ++ vs) c
  then_written xs us vs first then = subst (λ l. passes a l (us ++ vs) c) (append-nil xs) (in_order a b c xs [] us vs first then)

  pub then_nothing : (xs us : List ℕ) → passes a xs us b → passes b [] [] c → passes a xs us c
  then_nothing xs us first then = subst (λ l. passes a l us c) (append-nil xs) (then_read xs [] us first then)

pub take_both : (bytes : List ℕ) (n m : ℕ) → take (n + m) bytes ≡ take n bytes ++ take m (take (length bytes - n) (drop n bytes))
take_both bytes n m = rw (take_all (length bytes - n) (drop n bytes) (omega (arith, length-drop n bytes))) (take-add n m bytes)

-- what is known of a result that may be an error or not
pub on_err : {T E : Type 0} (r : Result T E) (Q : Type 0) → Q → IfErr r (λ _. Q)
on_err (Ok value) Q q = tt
on_err (Err cause) Q q = q

pub map_ok : {T E : Type 0} (r : Result T E) (P Q : Type 0) → (P → Q) → IfOk r (λ _. P) → IfOk r (λ _. Q)
map_ok (Ok value) P Q to p = to p
map_ok (Err cause) P Q to p = tt

pub map_err : {T E : Type 0} (r : Result T E) (P Q : Type 0) → (P → Q) → IfErr r (λ _. P) → IfErr r (λ _. Q)
map_err (Ok value) P Q to p = tt
map_err (Err cause) P Q to p = to p

pub err_again : {T E : Type 0} (r : Result T E) (error : E) (Q : E → Type 0) → IsErrAnd r (λ x. x ≡ error) → Q error → IfErr r Q
err_again (Ok value) error Q is q = tt
err_again (Err cause) error Q is q = subst Q (sym is) q
