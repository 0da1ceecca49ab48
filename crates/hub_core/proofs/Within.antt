-- Records that have space within a journal's limit, and one more of them.
use Rattle.std.proofs.Common.{◌≡◌, refl, sym, ◌∙◌, ap, subst, arith, ℕ, ◌+◌, ◌≤◌, List, [], ◌∷◌, ◌++◌, length, map, Option, None, length-append}
use Rattle.std.specs.Prelude.{option_to_list}
use Rattle.std.proofs.lemmas.List.{append-nil, map-append}
use Rattle.cluster_defs.specs.Refusals.{reserve}
use Rattle.hub_core.proofs.Lists.{after_more}
use Rattle.hub_core.specs.Keeping.{AreSpelled, space_of}
use Rattle.hub_core.specs.Standing.{IsSound}
use Rattle.hub_core.specs.State.{State, journal_of}
use Rattle.journal.specs.Records.{front, header, opened}
use Rattle.model_data.specs.declared.batch.BatchRecord.{BatchRecord}
use Rattle.rec_format.specs.Records.{record_len, record_write}
use Rattle.table_defs.specs.Table.{Table, after, applied, no_rows}

-- ---- where a file ends with one body more

opened_more : (bodies : List (List ℕ)) (body : List ℕ) → length (opened (bodies ++ body ∷ [])) ≡ length (opened bodies) + 5 + length body
opened_more [] body = omega (arith, length-append body [])
opened_more (first ∷ bodies) body = omega (arith, length-append first (opened (bodies ++ body ∷ [])), length-append first (opened bodies), opened_more bodies body)

pub end_more : (bodies : List (List ℕ)) (body : List ℕ) (end : ℕ) → end ≡ length (front bodies) → end + 5 + length body ≡ length (front (bodies ++ body ∷ []))
end_more bodies body end is = omega (arith, is, length-append header (opened (bodies ++ body ∷ [])), length-append header (opened bodies), opened_more bodies body)

-- ---- space within a limit

pub nothing_within : (limit : ℕ) (rs : List BatchRecord) (d : Option BatchRecord) → d ≡ None → space_of rs ≤ limit → space_of (rs ++ option_to_list d) ≤ limit
nothing_within limit rs d is fits = subst (λ (o : Option BatchRecord). space_of (rs ++ option_to_list o) ≤ limit) (sym is) (subst (λ (l : List BatchRecord). space_of l ≤ limit) (sym (append-nil rs)) fits)

-- by the end of the bodies that are their spellings
pub spelled_within : (limit : ℕ) (rs : List BatchRecord) (bodies : List (List ℕ)) (t : Table) (end : ℕ) → end ≡ length (front bodies) → AreSpelled rs bodies → t ≡ after rs no_rows → end + reserve t ≤ limit → space_of rs ≤ limit
spelled_within limit rs bodies t end ends spelled table fits =
    let written : end ≡ length (front (map record_write rs)) = ends ∙ ap (λ (bs : List (List ℕ)). length (front bs)) spelled.written in
    subst (λ (n : ℕ). n + reserve (after rs no_rows) ≤ limit) written (subst (λ (u : Table). end + reserve u ≤ limit) table fits)

pub sound_within : {D : Type 0} (n : ℕ) (s : State D) → IsSound n s → space_of (journal_of s).records ≤ s.setup.limits.journal
sound_within n s is = spelled_within s.setup.limits.journal (journal_of s).records s.bodies s.store.table s.store.journal is.end is.spelled is.table is.fits

-- one record more
space_more : (rs : List BatchRecord) (r : BatchRecord) → length (front (map record_write rs)) + 5 + record_len r + reserve (applied r (after rs no_rows)) ≡ space_of (rs ++ r ∷ [])
space_more rs r =
    let ends : length (front (map record_write rs)) + 5 + record_len r ≡ length (front (map record_write (rs ++ r ∷ [])))
    = end_more (map record_write rs) (record_write r) (length (front (map record_write rs))) refl ∙ ap (λ (bs : List (List ℕ)). length (front bs)) (sym (map-append record_write rs (r ∷ []))) in
    ap (λ (n : ℕ). n + reserve (applied r (after rs no_rows))) ends ∙ ap (λ (t : Table). length (front (map record_write (rs ++ r ∷ []))) + reserve t) (sym (after_more rs r no_rows))

pub one_more_within : {D : Type 0} (n : ℕ) (s : State D) → IsSound n s → (r : BatchRecord) → s.store.journal + 5 + record_len r + reserve (applied r s.store.table) ≤ s.setup.limits.journal → space_of ((journal_of s).records ++ r ∷ []) ≤ s.setup.limits.journal
one_more_within n s is r fits =
    let written : s.store.journal ≡ length (front (map record_write (journal_of s).records)) = is.end ∙ ap (λ (bs : List (List ℕ)). length (front bs)) is.spelled.written in
    subst (λ (x : ℕ). x ≤ s.setup.limits.journal) (space_more (journal_of s).records r)
    (subst (λ (x : ℕ). x + 5 + record_len r + reserve (applied r (after (journal_of s).records no_rows)) ≤ s.setup.limits.journal) written
    (subst (λ (t : Table). s.store.journal + 5 + record_len r + reserve (applied r t) ≤ s.setup.limits.journal) is.table fits))
