-- What the shelf does with a form is what it does with the line.
use Rattle.std.proofs.Common.{◌≡◌, ℕ, List, map, Some, refl, ◌∙◌, inl}
use Rattle.rows.specs.declared.on_off.OnOff.{OnOff}
use Rattle.typed_rows.specs.Reading.{digit}
use Rattle.ledger.specs.Ledger.{enter, remove, ask}
use Rattle.ledger.specs.Questions.{fit, Answer}
use Rattle.inventory.specs.declared.shelf.Shelf.{Shelf}
use Rattle.runs.specs.Calls.{Does}
use Rattle.shelf_forms.specs.Forms.{enter as enters, remove as removes, fit as fits, Reads}
use Rattle.shelf_forms.specs.declared.form.Form.TheVariants.{Part, Drop, Card}
use Rattle.shelf_forms.proofs.OneForm.{one_map}
use Rattle.shelf_line.specs.Lines.{Obeys, OnOffCall, OnOffQuestions}

module _ {P : Type 0} (questions : OnOffQuestions P) (pile : P) (line : List ℕ) (shelf : Shelf) (memory : List OnOff) (answer : Answer) (shelf' : Shelf) (memory' : List OnOff) where
  abbrev So : OnOffCall P → Type 0
  So call = Does questions shelf memory call answer shelf' memory'

  pub part_obeys : (number inputs : ℕ) (digits : _) (rows : List OnOff) → Reads line (Some (Part number inputs digits)) → map digit rows ≡ digits.now
      → So (enter number inputs rows) → Obeys questions pile line shelf memory answer shelf' memory'
  part_obeys number inputs digits rows (enters n k given, writes, (is, sized, spelled)) e does =
      (enter n k given, inl (enters n k given, writes, refl), rw (← is, ← sized, ← one_map rows given (e ∙ spelled)) does)
  part_obeys number inputs digits rows (removes n, writes, says) e does = absurd says
  part_obeys number inputs digits rows (fits k given, writes, says) e does = absurd says

  pub drop_obeys : (number : ℕ) → Reads line (Some (Drop number)) → So (remove number) → Obeys questions pile line shelf memory answer shelf' memory'
  drop_obeys number (removes n, writes, is) does = (remove n, inl (removes n, writes, refl), rw (← is) does)
  drop_obeys number (enters n k given, writes, says) does = absurd says
  drop_obeys number (fits k given, writes, says) does = absurd says

  pub card_obeys : (inputs : ℕ) (digits : _) (rows : List OnOff) → Reads line (Some (Card inputs digits)) → map digit rows ≡ digits.now
      → So (ask (fit inputs rows pile)) → Obeys questions pile line shelf memory answer shelf' memory'
  card_obeys inputs digits rows (fits k given, writes, (sized, spelled)) e does =
      (ask (fit k given pile), inl (fits k given, writes, refl), rw (← sized, ← one_map rows given (e ∙ spelled)) does)
  card_obeys inputs digits rows (enters n k given, writes, says) e does = absurd says
  card_obeys inputs digits rows (removes n, writes, says) e does = absurd says
