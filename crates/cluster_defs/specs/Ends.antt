-- Where the journal ends: behind 8 bytes, and each record with the 5 before its body.
use Rattle.std.specs.Prelude.{ℕ, ◌+◌, List, sum_by}
use Rattle.model_data.specs.declared.batch.BatchRecord.{BatchRecord}
use Rattle.cluster_defs.specs.Site.{Site}

abbrev pub bytes_of : Site → BatchRecord → ℕ
bytes_of k r = 5 + k.record_bytes r

abbrev pub end_of : Site → List BatchRecord → ℕ
end_of k rs = 8 + sum_by (bytes_of k) rs
