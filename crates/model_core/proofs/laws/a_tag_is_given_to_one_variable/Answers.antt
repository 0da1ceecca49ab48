use Rattle.std.proofs.Common.{sym}
use Rattle.model_core.specs.Effect.{changed}
use Rattle.model_core.specs.One.{has_duplicate, has_names}
use Rattle.model_core.specs.declared.change.Change.TheVariants.{SetTag}
use Rattle.model_core.proofs.LawfulChange.{accepted, lawful_one}
use Rattle.model_core.proofs.laws.a_tag_is_given_to_one_variable.Goals as goal

pub returns : goal.returns
returns c = record {
  variable = λ m n name tag e.
      sym ((accepted (has_names m (SetTag name tag)) (has_duplicate m (SetTag name tag)) (changed (SetTag name tag) m) n e).3);
  distinct = λ m n name tag h asked e. (lawful_one m n (SetTag name tag) h asked e).tags;
}
