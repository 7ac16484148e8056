-- What is said of a peer's calls.
use Rattle.std.specs.Prelude.{◌≡◌, ◌≢◌, ℕ, ◌-◌, ◌^◌, ◌⊎◌, List, [], ◌∷◌, ◌++◌, length, take, Ok, Err, Result}
use Rattle.std.specs.IoError.{error_kind}
use Rattle.std.specs.declared.io.Error.{Error}
use Rattle.std.specs.declared.io.ErrorKind.TheVariants.{Interrupted, TimedOut}
use Rattle.line_service.specs.declared.service_error.ServiceError.{ServiceError}
use Rattle.line_service.specs.declared.service_error.ServiceError.TheVariants.{Reading, Writing}

-- the bytes that a call read or wrote: the first so many, and none where it failed
abbrev pub passed : {E : Type 0} → Result ℕ E → List ℕ → List ℕ
passed (Ok count) bytes = take count bytes
passed (Err cause) bytes = []

module _ {C : Type 0} (passes : C → List ℕ → List ℕ → C → Type 0) where
  abbrev pub PassesNothing : Type 0
  PassesNothing = (peer : C) → passes peer [] [] peer

  abbrev pub PassesInOrder : Type 0
  PassesInOrder = (a b c : C) (xs ys us vs : List ℕ) → passes a xs us b → passes b ys vs c → passes a (xs ++ ys) (us ++ vs) c

-- fails a error b: a call on a may fail with this error and leave b
module _ {C : Type 0} (fails : C → Error → C → Type 0) where
  -- signals interrupted one call after the other from a to b. The last error stands first
  abbrev pub Interrupts : C → List Error → C → Type 0
  Interrupts a [] b = Unit {0}
  Interrupts a (error ∷ errors) b = (c : C) × Interrupts a errors c × fails c error b × (error_kind error ≡ Interrupted)

  -- a call failed and left b, and the error is its own and none of a signal; or signals have interrupted all of 2^64 - 1
  -- calls, and the error says so
  abbrev pub Broke : C → Error → Type 0
  Broke b error =
      ((error_kind error ≢ Interrupted) × ((a : C) × fails a error b))
      ⊎ ((error_kind error ≡ TimedOut) × ((a : C) × (errors : List Error) × (length errors ≡ 2 ^ 64 - 1) × Interrupts a errors b))

  -- the error of a conversation is that of a read, or of a write or a flush
  abbrev pub BreaksReading : C → ServiceError → Type 0
  BreaksReading b (Reading error) = Broke b error
  BreaksReading b _ = ⊥

  abbrev pub BreaksWriting : C → ServiceError → Type 0
  BreaksWriting b (Writing error) = Broke b error
  BreaksWriting b _ = ⊥
