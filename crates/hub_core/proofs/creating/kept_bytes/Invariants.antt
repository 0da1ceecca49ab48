use Rattle.std.proofs.Common.{◌≡◌, ◌≤◌, ◌*◌, ◌^◌, take}
use Rattle.std.specs.Prelude.{filter, sum_by}
use Rattle.hub_core.proofs.creating.kept_bytes.Given as goal
use Rattle.rec_format.specs.Records.{model_len}
use Rattle.table_defs.specs.Names.{is_owner}

abbrev pub invariant-loop-row : goal.invariant-loop-row
invariant-loop-row l = (l.bytes ≡ sum_by (λ row. model_len row.body.model) (filter (λ row. is_owner l.owner row.id.owner) (take l.row-index l.rows))) × (l.bytes ≤ l.row-index * 2 ^ 34)
