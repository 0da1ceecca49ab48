-- A table that is folded of bodies, and one more of them.
use Rattle.std.proofs.Common.{◌≡◌, refl, sym, ◌∙◌, ap, subst, ℕ, ◌+◌, ◌<◌, List, [], ◌∷◌, ◌++◌, length, take, get_or, None}
use Rattle.std.proofs.lemmas.List.{take_more}
use Rattle.hub_core.proofs.Lists.{after_more, all_spelled_more, read_more, taken_more}
use Rattle.hub_core.specs.Folding.{IsFold, IsOneMore}
use Rattle.hub_core.specs.Keeping.{read_all}
use Rattle.model_data.specs.declared.batch.BatchRecord.{BatchRecord}
use Rattle.rec_format.specs.Format.{OneSpelling}
use Rattle.rec_format.specs.Lawful.{IsLawfulRecord}
use Rattle.rec_format.specs.Records.{RecordFits, batch_record, record_write}
use Rattle.table_defs.specs.Table.{Table, after, applied, no_rows}
use Rattle.table_defs.specs.Taken.{AreTaken, refusal}

-- two records of one spelling
abbrev pub AreApart : Type 0
AreApart = (r s : BatchRecord) → IsLawfulRecord r → IsLawfulRecord s → record_write r ≡ record_write s → r ≡ s

module _ (law : OneSpelling batch_record) (fits : (r : BatchRecord) → IsLawfulRecord r → RecordFits r) where
  fold_record : (bodies : List (List ℕ)) (t next : Table) (r : BatchRecord) → IsFold bodies t → IsLawfulRecord r → refusal r t ≡ None → next ≡ applied r t → IsFold (bodies ++ record_write r ∷ []) next
  fold_record bodies t next r f lawful takes is =
      let more : read_all (bodies ++ record_write r ∷ []) ≡ read_all bodies ++ r ∷ [] = read_more law fits bodies r lawful in
      record {
        spelled = all_spelled_more law fits bodies r lawful f.spelled;
        taken = subst (λ (rs : List BatchRecord). AreTaken rs no_rows) (sym more) (taken_more (read_all bodies) r f.taken (subst (λ (u : Table). refusal r u ≡ None) f.table takes));
        table = is ∙ (ap (applied r) f.table ∙ (sym (after_more (read_all bodies) r no_rows) ∙ ap (λ (rs : List BatchRecord). after rs no_rows) (sym more)));
      }

  fold_more : (bodies : List (List ℕ)) (body : List ℕ) (t next : Table) → IsFold bodies t → IsOneMore body t next → IsFold (bodies ++ body ∷ []) next
  fold_more bodies body t next f one = subst (λ (b : List ℕ). IsFold (bodies ++ b ∷ []) next) (sym one.written) (fold_record bodies t next one.r f one.lawful one.taken one.table)

  -- the next one of them
  pub fold_step : (all : List (List ℕ)) (n : ℕ) (item body : List ℕ) (t next : Table) → n < length all → item ≡ get_or all n item → body ≡ item → IsFold (take n all) t → IsOneMore body t next → IsFold (take (n + 1) all) next
  fold_step all n item body t next there is same f one =
      let more : take (n + 1) all ≡ take n all ++ body ∷ [] = take_more all n item there ∙ ap (λ (b : List ℕ). take n all ++ b ∷ []) (sym is ∙ sym same) in
      subst (λ (bodies : List (List ℕ)). IsFold bodies next) (sym more) (fold_more (take n all) body t next f one)
