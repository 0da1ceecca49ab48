use Rattle.model_core.proofs.KeptChange.{kept_after}
use Rattle.model_core.proofs.LawfulChange.{lawful_after}
use Rattle.model_core.proofs.indexed.IndexedModel.change.Goals as goal

pub invariant_of-self : goal.invariant_of-self
invariant_of-self c = record {
  index = c.make_change.ensures.index;
  lawful = lawful_after c.make_change.result c.self.inside.model c.make_change.new.model c.args.change.now c.self.invariant.lawful c.requires
      c.make_change.ensures.ok c.make_change.ensures.unchanged;
  kept = kept_after c.make_change.result c.self.inside.model c.make_change.new.model c.args.change.now c.self.invariant.kept c.kept_change.ensures
      c.make_change.ensures.ok c.make_change.ensures.unchanged;
}
