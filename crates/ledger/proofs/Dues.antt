-- What is known of a part that is entered.
use Rattle.std.proofs.Common.{◌≡◌, ℕ, ◌^◌, Bool, false, eqb, ltb}
use Rattle.std.proofs.lemmas.Bool.{eqb-true, not-false}
use Rattle.refusals.specs.Due.{Due, none, first}
use Rattle.refusals.proofs.Dues.{none_sooner, none_later, none_reason, none_rest}
use Rattle.tables.specs.Making.{table_due}
use Rattle.ledger.specs.Refused.{number_due, enter_due}

module _ (memory : Due) (stands full : Bool) (number inputs rows : ℕ) (granted : enter_due memory stands full number inputs rows ≡ none) where
  -- its number does not stand yet
  pub enter_new : stands ≡ false
  enter_new = none_reason stands 7 (first full 8 none) (none_later memory _ (none_later (table_due inputs rows) _ (none_later (number_due number) _ granted)))

  -- it has a row for each setting
  pub enter_whole : rows ≡ 2 ^ inputs
  enter_whole =
      let table : table_due inputs rows ≡ none = none_sooner (table_due inputs rows) _ (none_later (number_due number) _ granted) in
      eqb-true rows (2 ^ inputs) (not-false (eqb rows (2 ^ inputs)) (none_reason _ 4 none (none_rest (ltb 10 inputs) 3 _ table)))
