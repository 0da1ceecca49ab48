use Rattle.std.proofs.Common.{◌∙◌, ap₂, List, ℕ, bytes_eq}
use Rattle.std.specs.List.{list_any}
use Rattle.model_data.specs.declared.model.Row.{Row}
use Rattle.model_core.proofs.Fresh.{new_name}
use Rattle.model_core.proofs.tables.row_names.Goals as goal

pub add-requires : goal.add-requires
add-requires c =
    ap₂ (λ (name : List ℕ) (names : List (List ℕ)). list_any (bytes_eq name) names) c.as_bytes.ensures c.loop-row.invariant
    ∙ new_name (λ (x : Row). x.name) c.args.rows.now c.loop-row.row-index c.row-item.result c.row-item.is c.requires c.loop-row-test.true
