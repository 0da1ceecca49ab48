use Rattle.model_core.proofs.LawfulChange.{lawful_after}
use Rattle.model_core.proofs.applying.apply.Goals as goal

pub returns-clause-lawful : goal.returns-clause-lawful
returns-clause-lawful c =
    lawful_after c.make_change.result c.args.model.now c.make_change.new.model c.args.change c.requires.lawful c.requires.change
    c.make_change.ensures.ok c.make_change.ensures.unchanged
