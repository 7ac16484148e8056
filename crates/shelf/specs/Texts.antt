-- What stands on standard error.
use Rattle.std.specs.Prelude.{ℕ, List, ◌++◌, codes}
use Rattle.std.specs.Fmt.{decimal}
use Rattle.refusals.specs.Numbers.{number}
use Rattle.refusals.specs.Texts.{text}
use Rattle.line_service.specs.declared.service_error.ServiceError.{ServiceError}
use Rattle.line_service.specs.declared.service_error.ServiceError.TheVariants as service
use Rattle.shelf.specs.declared.failure.Failure.{Failure}
use Rattle.shelf.specs.declared.failure.Failure.TheVariants.{Usage, Refused, Memory, Broken}

abbrev pub failure_of : ServiceError → Failure
failure_of (service.Refused refusal) = Refused refusal
failure_of _ = Broken

abbrev pub failure_text : Failure → List ℕ
failure_text Usage = codes "shelf: takes no arguments; shelf --help says how to use it"
failure_text (Refused refusal) = codes "shelf: refused with " ++ decimal (number refusal) ++ codes ": " ++ text refusal
failure_text Memory = codes "shelf: out of memory"
failure_text Broken = codes "shelf: cannot read a line or write an answer"
