-- Records that are spelled and taken, and one more of them.
use Rattle.std.proofs.Common.{◌≡◌, refl, sym, ◌∙◌, ap, ap₂, subst, ℕ, List, [], ◌∷◌, ◌++◌, map, Option, Some, None, append_assoc, rules, arith}
use Rattle.std.specs.List.{All}
use Rattle.std.specs.Option.{option_map}
use Rattle.std.specs.Prelude.{option_to_list, option_and_then, IfSome}
use Rattle.std.proofs.lemmas.List.{map-append, append-nil}
use Rattle.std.proofs.lemmas.List.Elements.{All-append}
use Rattle.cluster_defs.specs.Journal.{AreAllTaken, Journal}
use Rattle.hub_core.specs.Keeping.{AreSpelled, IsSpelled, read_all, read_one}
use Rattle.model_data.specs.declared.batch.BatchRecord.{BatchRecord}
use Rattle.rec_format.specs.Format.{OneSpelling, at_end, whole}
use Rattle.rec_format.specs.Lawful.{IsLawfulRecord}
use Rattle.rec_format.specs.Records.{RecordFits, batch_record, record_write}
use Rattle.table_defs.proofs.Records.{after_append, both_none, or_first, refusal_append}
use Rattle.table_defs.specs.Table.{Table, after, applied, no_rows}
use Rattle.table_defs.specs.Taken.{AreTaken, first_refusal, or_else, refusal}

-- ---- tables

pub after_more : (rs : List BatchRecord) (r : BatchRecord) (t : Table) → after (rs ++ r ∷ []) t ≡ applied r (after rs t)
after_more rs r t = after_append rs (r ∷ []) t

pub taken_more : (rs : List BatchRecord) (r : BatchRecord) → AreTaken rs no_rows → refusal r (after rs no_rows) ≡ None → AreTaken (rs ++ r ∷ []) no_rows
taken_more rs r so_far last = refusal_append rs (r ∷ []) no_rows ∙ both_none (first_refusal rs no_rows) (first_refusal (r ∷ []) (after rs no_rows)) so_far (both_none (refusal r (after rs no_rows)) None last refl)

pub nothing_more : (rs : List BatchRecord) (d : Option BatchRecord) → d ≡ None → AreTaken rs no_rows → AreTaken (rs ++ option_to_list d) no_rows
nothing_more rs d is taken = subst (λ (o : Option BatchRecord). AreTaken (rs ++ option_to_list o) no_rows) (sym is) (subst (λ (l : List BatchRecord). AreTaken l no_rows) (sym (append-nil rs)) taken)

-- ---- spellings

pub spelled_none : AreSpelled [] []
spelled_none = record { written = refl; lawful = λ k d below. absurd (omega (arith, below)) }

single : (r : BatchRecord) → IsLawfulRecord r → All IsLawfulRecord (r ∷ [])
single r lawful = search (rules, lawful)

pub spelled_more : (rs : List BatchRecord) (r : BatchRecord) (bodies : List (List ℕ)) → AreSpelled rs bodies → IsLawfulRecord r → AreSpelled (rs ++ r ∷ []) (bodies ++ record_write r ∷ [])
spelled_more rs r bodies so_far lawful = record {
  written = ap (λ (bs : List (List ℕ)). bs ++ record_write r ∷ []) so_far.written ∙ sym (map-append record_write rs (r ∷ []));
  lawful = All-append IsLawfulRecord rs (r ∷ []) so_far.lawful (single r lawful);
}

module _ (law : OneSpelling batch_record) (fits : (r : BatchRecord) → IsLawfulRecord r → RecordFits r) where
  -- a lawful record is read of its bytes
  pub reads : (r : BatchRecord) → IsLawfulRecord r → whole batch_record (record_write r) ≡ Some r
  reads r lawful = ap (λ (bs : List ℕ). whole batch_record bs) (sym (append-nil (record_write r))) ∙ ap (λ (o : Option (BatchRecord × List ℕ)). option_and_then at_end o) (law.back r [] (fits r lawful))

  pub read_more : (bodies : List (List ℕ)) (r : BatchRecord) → IsLawfulRecord r → read_all (bodies ++ record_write r ∷ []) ≡ read_all bodies ++ r ∷ []
  read_more [] r lawful = ap (λ (o : Option BatchRecord). option_to_list o ++ []) (reads r lawful)
  read_more (body ∷ bodies) r lawful = ap (λ (l : List BatchRecord). option_to_list (whole batch_record body) ++ l) (read_more bodies r lawful) ∙ sym (append_assoc (option_to_list (whole batch_record body)) (read_all bodies) (r ∷ []))

  -- one body more
  pub all_spelled_more : (bodies : List (List ℕ)) (r : BatchRecord) → IsLawfulRecord r → AreSpelled (read_all bodies) bodies → AreSpelled (read_all (bodies ++ record_write r ∷ [])) (bodies ++ record_write r ∷ [])
  all_spelled_more bodies r lawful so_far = subst (λ (rs : List BatchRecord). AreSpelled rs (bodies ++ record_write r ∷ [])) (sym (read_more bodies r lawful)) (spelled_more (read_all bodies) r bodies so_far lawful)
