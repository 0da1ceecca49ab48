-- Where a hub runs: its set-up, and the bytes of its records.
use Rattle.cluster_defs.specs.Site.{Site}
use Rattle.hub_core.specs.declared.setup.Setup.{Setup}
use Rattle.model_data.specs.declared.batch.BatchBody.{BatchBody}
use Rattle.model_data.specs.declared.batch.BatchResult.{BatchResult}
use Rattle.rec_format.specs.Records.{model_len, record_len}

-- A hub stands on no solver: what holds of it holds whatever a batch's result would be.
abbrev pub site_of : (plain : BatchBody → BatchResult) → Setup → Site
site_of plain s = record {
  setup = record { nodes = s.nodes; limit = s.limit; hard = s.hard; limits = record { commands = s.limits.commands; bytes = s.limits.bytes; journal = s.limits.journal } };
  record_bytes = record_len;
  model_bytes = model_len;
  plain = plain;
}
