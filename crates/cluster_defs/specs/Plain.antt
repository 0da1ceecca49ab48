-- That each result in a journal is the plain one of its batch's body.
use Rattle.std.specs.Prelude.{◌≡◌, ⊤, List, [], ◌∷◌, IfSome}
use Rattle.model_data.specs.declared.batch.BatchRecord.{BatchRecord}
use Rattle.model_data.specs.declared.batch.BatchRecord.TheVariants.{Create, Abort, Discard, Retry, Finish, Lost, Next}
use Rattle.table_defs.specs.Table.{Table, applied, row_of}
use Rattle.cluster_defs.specs.Site.{Site}

abbrev pub IsPlain : Site → BatchRecord → Table → Type 0
IsPlain k (Finish id attempt result) t = IfSome (row_of id t) (λ row. result ≡ k.plain row.body)
IsPlain k (Create id attempt body) t = ⊤
IsPlain k (Abort id attempt) t = ⊤
IsPlain k (Discard id) t = ⊤
IsPlain k (Retry id attempt) t = ⊤
IsPlain k (Lost items) t = ⊤
IsPlain k (Next id) t = ⊤

-- each in the table of those before it
abbrev pub ArePlain : Site → List BatchRecord → Table → Type 0
ArePlain k [] t = ⊤
ArePlain k (r ∷ rs) t = IsPlain k r t × ArePlain k rs (applied r t)
