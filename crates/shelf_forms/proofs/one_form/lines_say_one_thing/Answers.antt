use Rattle.shelf_forms.proofs.OneForm.{one_form}
use Rattle.shelf_forms.proofs.one_form.lines_say_one_thing.Goals as goal

pub returns : goal.returns
returns c = one_form
