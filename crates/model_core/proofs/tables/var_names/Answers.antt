use Rattle.std.proofs.Common.{◌∙◌, ap₂, List, ℕ, bytes_eq}
use Rattle.std.specs.List.{list_any}
use Rattle.model_data.specs.declared.model.Var.{Var}
use Rattle.model_core.proofs.Fresh.{new_name}
use Rattle.model_core.proofs.tables.var_names.Goals as goal

pub add-requires : goal.add-requires
add-requires c =
    ap₂ (λ (name : List ℕ) (names : List (List ℕ)). list_any (bytes_eq name) names) c.as_bytes.ensures c.loop-var.invariant
    ∙ new_name (λ (x : Var). x.name) c.args.vars.now c.loop-var.var-index c.var-item.result c.var-item.is c.requires c.loop-var-test.true
