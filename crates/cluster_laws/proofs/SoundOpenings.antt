-- An opened cluster is sound: all that is submitted waits, and is placed.
use Rattle.std.proofs.Common.{◌≡◌, refl, sym, ap, ◌∙◌, subst, ℕ, ◌≤◌, ◌==◌, Bool, true, false, List, [], ◌∷◌, length, Option, Some, None, cond, arith}
use Rattle.std.specs.Prelude.{filter}
use Rattle.base_names.specs.declared.id.BatchId.{BatchId}
use Rattle.base_names.specs.declared.node.Waiter.TheVariants as waits
use Rattle.model_data.specs.declared.batch.BatchRow.{BatchRow}
use Rattle.table_defs.specs.Keyed.{IsKeyed, rows_for}
use Rattle.table_defs.specs.Names.{is_id}
use Rattle.table_defs.specs.Table.{Table}
use Rattle.cluster_defs.specs.Cluster.{Waiting}
use Rattle.cluster_defs.specs.Listing.{by_id, is_going_on, sorted_in}
use Rattle.cluster_defs.specs.Opened.{all_waiting, mounted, opened}
use Rattle.cluster_defs.specs.Placement.{enqueue}
use Rattle.cluster_defs.specs.Site.{Site}
use Rattle.cluster_laws.specs.Sound.{EachStands, IsSound, Stands, waiting_for}
use Rattle.table_defs.proofs.Lists.{fewer, filter_filter}
use Rattle.table_defs.proofs.Names.{and_both}
use Rattle.cluster_laws.proofs.Lists.{find_head, head_of, no_length}
use Rattle.cluster_laws.proofs.Standing.{placing_is_sound}
use Rattle.cluster_laws.proofs.Waiters.{same_number}
use Rattle.cluster_laws.proofs.SoundCommands.{enqueue_other, enqueue_own}

-- ---- sorting keeps what is there

sorted_other : (p : BatchRow → Bool) (row : BatchRow) (rows : List BatchRow) → p row ≡ false → filter p (sorted_in row rows) ≡ filter p rows
sorted_other p row [] h = rw h
sorted_other p row (next ∷ rows) h = grind (arith, h, sorted_other p row rows h)

sorted_own : (p : BatchRow → Bool) (row : BatchRow) (rows : List BatchRow) → p row ≡ true → filter p rows ≡ [] → filter p (sorted_in row rows) ≡ row ∷ []
sorted_own p row [] h none = rw h
sorted_own p row (next ∷ rows) h none = grind (arith, h, none, sorted_own p row rows h)

-- what passes of the rows, where it is at most one
abbrev pub one_sorted : (BatchRow → Bool) → List BatchRow → Type 0
one_sorted p rows = filter p (by_id rows) ≡ filter p rows

by_id_then : (p : BatchRow → Bool) (row : BatchRow) (rows : List BatchRow) (b : Bool) → p row ≡ b → length (cond b (row ∷ filter p rows) (filter p rows)) ≤ 1 → (length (filter p rows) ≤ 1 → one_sorted p rows) → filter p (sorted_in row (by_id rows)) ≡ cond b (row ∷ filter p rows) (filter p rows)
by_id_then p row rows true is one later =
    let none : filter p rows ≡ [] = no_length (filter p rows) (omega (arith, one)) in
    let few : length (filter p rows) ≤ 1 = rw none (omega arith) in
    sorted_own p row (by_id rows) is (later few ∙ none) ∙ ap (λ (rest : List BatchRow). row ∷ rest) (sym none)
by_id_then p row rows false is one later = sorted_other p row (by_id rows) is ∙ later one

pub by_id_same : (p : BatchRow → Bool) (rows : List BatchRow) → length (filter p rows) ≤ 1 → one_sorted p rows
by_id_same p [] one = refl
by_id_same p (row ∷ rows) one = by_id_then p row rows (p row) refl one (by_id_same p rows)

-- ---- what waits

abbrev waiter_of : BatchRow → Waiting
waiter_of row = record { waiter = waits.Batch row.id row.attempt; priority = row.body.params.priority }

none_then : (id : BatchId) (row : BatchRow) (rows : List BatchRow) (ws : List Waiting) (b : Bool) → is_id id row.id ≡ b → cond b (row ∷ rows_for id rows) (rows_for id rows) ≡ []
    → (rows_for id rows ≡ [] → waiting_for id (all_waiting rows (enqueue (waiter_of row) ws)) ≡ waiting_for id (enqueue (waiter_of row) ws)) → waiting_for id (all_waiting rows (enqueue (waiter_of row) ws)) ≡ waiting_for id ws
none_then id row rows ws true is h later = absurd (grind (arith, h))
none_then id row rows ws false is h later = later h ∙ enqueue_other id (waiter_of row) ws is

waiting_none : (id : BatchId) (rows : List BatchRow) (ws : List Waiting) → rows_for id rows ≡ [] → waiting_for id (all_waiting rows ws) ≡ waiting_for id ws
waiting_none id [] ws h = refl
waiting_none id (row ∷ rows) ws h = none_then id row rows ws (is_id id row.id) refl h (waiting_none id rows (enqueue (waiter_of row) ws))

one_then : (id : BatchId) (r : BatchRow) (rows : List BatchRow) (ws : List Waiting) (row : BatchRow) (b : Bool) → is_id id r.id ≡ b → cond b (r ∷ rows_for id rows) (rows_for id rows) ≡ row ∷ [] → waiting_for id ws ≡ []
    → (rows_for id rows ≡ row ∷ [] → waiting_for id (enqueue (waiter_of r) ws) ≡ [] → waiting_for id (all_waiting rows (enqueue (waiter_of r) ws)) ≡ waiter_of row ∷ []) → waiting_for id (all_waiting rows (enqueue (waiter_of r) ws)) ≡ waiter_of row ∷ []
one_then id r rows ws row true is h none later =
    let e : r ≡ row = cc in
    let rest : rows_for id rows ≡ [] = cc in
    waiting_none id rows (enqueue (waiter_of r) ws) rest ∙ (enqueue_own id (waiter_of r) ws is none ∙ ap (λ (x : BatchRow). waiter_of x ∷ []) e)
one_then id r rows ws row false is h none later = later h (enqueue_other id (waiter_of r) ws is ∙ none)

-- the one row of the batch waits, and nothing else of it
waiting_one : (id : BatchId) (rows : List BatchRow) (ws : List Waiting) (row : BatchRow) → rows_for id rows ≡ row ∷ [] → waiting_for id ws ≡ [] → waiting_for id (all_waiting rows ws) ≡ waiter_of row ∷ []
waiting_one id [] ws row h none = absurd (grind (arith, h))
waiting_one id (r ∷ rows) ws row h none = one_then id r rows ws row (is_id id r.id) refl h none (waiting_one id rows (enqueue (waiter_of r) ws) row)

-- ---- how each batch stands

goes_by : (id : BatchId) (sorted : List BatchRow) (row : BatchRow) (b : Bool) → is_going_on row ≡ b → rows_for id sorted ≡ cond b (row ∷ []) [] → Stands (Some row) [] (waiting_for id (all_waiting sorted []))
goes_by id sorted row true is h = subst (λ (ws : List Waiting). Stands (Some row) [] ws) (sym (waiting_one id sorted [] row h refl)) (and_both (is_going_on row) (row.attempt == row.attempt) is (same_number row.attempt))
goes_by id sorted row false is h = subst (λ (ws : List Waiting). Stands (Some row) [] ws) (sym (waiting_none id sorted [] h)) is

stands_by : (id : BatchId) (sorted : List BatchRow) (own : List BatchRow) → length own ≤ 1 → rows_for id sorted ≡ filter is_going_on own → Stands (head_of own) [] (waiting_for id (all_waiting sorted []))
stands_by id sorted [] one h = subst (λ (ws : List Waiting). Stands None [] ws) (sym (waiting_none id sorted [] h)) refl
stands_by id sorted (row ∷ []) one h = goes_by id sorted row (is_going_on row) refl h
stands_by id sorted (row ∷ next ∷ rows) one h = absurd (omega (arith, one))

few_going : (own : List BatchRow) → length own ≤ 1 → length (filter is_going_on own) ≤ 1
few_going own one = let f = fewer is_going_on own in omega (arith, f, one)

mounted_is_sound : (k : Site) (t : Table) (end : ℕ) → IsKeyed t → EachStands (mounted k t end)
mounted_is_sound k t end o id =
    let own = rows_for id t.rows in
    let e : rows_for id (filter is_going_on t.rows) ≡ filter is_going_on own = filter_filter (λ (row : BatchRow). is_id id row.id) is_going_on t.rows in
    let few : length (rows_for id (filter is_going_on t.rows)) ≤ 1 = subst (λ (rows : List BatchRow). length rows ≤ 1) (sym e) (few_going own (o.single id)) in
    let s = by_id_same (λ (row : BatchRow). is_id id row.id) (filter is_going_on t.rows) few in
    subst (λ (row : Option BatchRow). Stands row [] (waiting_for id (all_waiting (by_id (filter is_going_on t.rows)) []))) (sym (find_head (λ row. is_id id row.id) t.rows))
    (stands_by id (by_id (filter is_going_on t.rows)) own (o.single id) (s ∙ e))

pub opened_is_good : (k : Site) (t : Table) (end : ℕ) → IsKeyed t → IsSound (opened k t end)
opened_is_good k t end o = record { sound = placing_is_sound (mounted k t end) (mounted_is_sound k t end o); numbered = o.numbered }
