use Rattle.std.proofs.Common.{sym, ◌∙◌, ap}
use Rattle.model_data.specs.declared.model.Model.{Model}
use Rattle.model_core.specs.Effect.{changed}
use Rattle.model_core.specs.Named.{is_var, knows_var}
use Rattle.model_core.specs.One.{has_duplicate, has_names}
use Rattle.model_core.specs.declared.change.Change.TheVariants.{DelVar}
use Rattle.model_core.proofs.AtPlace.{any-filter_not}
use Rattle.model_core.proofs.LawfulChange.{accepted, lawful_one}
use Rattle.model_core.proofs.laws.a_deleted_variable_is_gone.Goals as goal

pub returns : goal.returns
returns c = record {
  gone = λ m n name e.
      ap (knows_var name) (sym ((accepted (has_names m (DelVar name)) (has_duplicate m (DelVar name)) (changed (DelVar name) m) n e).3))
      ∙ any-filter_not (is_var name) m.vars;
  others = λ m n name e.
      ap (λ (k : Model). k.vars) (sym ((accepted (has_names m (DelVar name)) (has_duplicate m (DelVar name)) (changed (DelVar name) m) n e).3));
  lawful = λ m n name h e. lawful_one m n (DelVar name) h tt e;
}
