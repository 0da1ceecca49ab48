use Rattle.pivot_laws.proofs.RisingLists.{few_choices}
use Rattle.pivot_laws.proofs.choice_laws.different_choices_are_few.Goals as goal

pub returns : goal.returns
returns c = few_choices
