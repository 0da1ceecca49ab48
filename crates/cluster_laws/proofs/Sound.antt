-- In a sound cluster each record that a step keeps is taken by the table.
use Rattle.std.proofs.Common.{◌≡◌, refl, sym, ap, ap₂, ◌∙◌, subst, ℕ, Bool, true, false, List, [], ◌∷◌, Option, Some, None, cond, arith, map}
use Rattle.std.specs.Prelude.{filter, ⊤}
use Rattle.base_names.specs.declared.id.BatchId.{BatchId}
use Rattle.base_names.specs.declared.node.NodeNo.{NodeNo}
use Rattle.model_data.specs.declared.batch.BatchRow.{BatchRow}
use Rattle.table_defs.specs.Names.{is_id}
use Rattle.table_defs.specs.Table.{Table, ended, failed, row_of, with_row}
use Rattle.table_defs.specs.Taken.{is_open, lost_refusal, on_row, or_else}
use Rattle.cluster_defs.specs.Cluster.{Cluster, Running, Waiting, attempts_at}
use Rattle.cluster_laws.specs.Sound.{EachStands, Stands, placed_for, waiting_for}
use Rattle.cluster_defs.specs.Step.{still_open}
use Rattle.cluster_defs.specs.Waiters.{is_node}
use Rattle.table_defs.proofs.Lists.{filter_filter}
use Rattle.table_defs.proofs.Names.{id_is, id_refl}
use Rattle.table_defs.proofs.Rows.{row_with}

-- at most one of the batch, and that open
abbrev AtMostOne : Option BatchRow → List Running → Type 0
AtMostOne row [] = ⊤
AtMostOne row (r ∷ []) = still_open r.attempt row ≡ true
AtMostOne row (r ∷ s ∷ rs) = ⊥

one_of : (row : Option BatchRow) (placed : List Running) (ws : List Waiting) → Stands row placed ws → AtMostOne row placed
one_of row [] ws h = tt
one_of row (r ∷ []) [] h = h
one_of row (r ∷ []) (w ∷ ws) h = absurd h
one_of row (r ∷ s ∷ rs) ws h = absurd h

kept_or_not : (row : Option BatchRow) (r : Running) (b : Bool) → still_open r.attempt row ≡ true → AtMostOne row (cond b (r ∷ []) [])
kept_or_not row r true h = h
kept_or_not row r false h = tt

one_at : (row : Option BatchRow) (node : NodeNo) (placed : List Running) → AtMostOne row placed → AtMostOne row (filter (λ r. is_node node r.node) placed)
one_at row node [] h = tt
one_at row node (r ∷ []) h = kept_or_not row r (is_node node r.node) h
one_at row node (r ∷ s ∷ rs) h = absurd h

-- the head is open, and no other one of its batch follows
head_open : (row : Option BatchRow) (r : Running) (rest : List Running) → AtMostOne row (r ∷ rest) → (still_open r.attempt row ≡ true) × (rest ≡ [])
head_open row r [] h = (h, refl)
head_open row r (s ∷ rest) h = absurd h

pub open_taken : (n : ℕ) (row : Option BatchRow) → still_open n row ≡ true → on_row (is_open n) row ≡ None
open_taken n None h = absurd (grind (arith, h))
open_taken n (Some row) h = rw h

abbrev IsEach : List Running → Table → Type 0
IsEach placed t = (id : BatchId) → AtMostOne (row_of id t) (placed_for id placed)

later_by : (r : Running) (rest : List Running) (t : Table) (id : BatchId) (b : Bool) → is_id id r.id ≡ b → AtMostOne (row_of id t) (cond b (r ∷ placed_for id rest) (placed_for id rest)) → placed_for r.id rest ≡ [] → AtMostOne (row_of id (with_row r.id (ended failed None) t)) (placed_for id rest)
later_by r rest t id true same one none = subst (AtMostOne (row_of id (with_row r.id (ended failed None) t))) (sym (ap (λ (i : BatchId). placed_for i rest) (id_is id r.id same) ∙ none)) tt
later_by r rest t id false apart one none = subst (λ (row : Option BatchRow). AtMostOne row (placed_for id rest)) (sym (row_with id r.id (ended failed None) t false apart (λ row. refl))) one

-- behind the head each batch still has at most one
each_later : (r : Running) (rest : List Running) (t : Table) → IsEach (r ∷ rest) t → placed_for r.id rest ≡ [] → IsEach rest (with_row r.id (ended failed None) t)
each_later r rest t each none id = later_by r rest t id (is_id id r.id) refl (each id) none

pub all_taken : (placed : List Running) (t : Table) → IsEach placed t → lost_refusal (map (λ r. record { id = r.id; attempt = r.attempt }) placed) t ≡ None
all_taken [] t each = refl
all_taken (r ∷ rest) t each =
    let h = head_open (row_of r.id t) r (placed_for r.id rest) (subst (λ (b : Bool). AtMostOne (row_of r.id t) (cond b (r ∷ placed_for r.id rest) (placed_for r.id rest))) (id_refl r.id) (each r.id)) in
    ap₂ or_else (open_taken r.attempt (row_of r.id t) h.0) (all_taken rest (with_row r.id (ended failed None) t) (each_later r rest t each h.1))

pub lost_is_taken : (node : NodeNo) (c : Cluster) → EachStands c → lost_refusal (attempts_at node c.placed) c.table ≡ None
lost_is_taken node c sound = all_taken (filter (λ r. is_node node r.node) c.placed) c.table (λ id.
    subst (AtMostOne (row_of id c.table)) (filter_filter (λ (r : Running). is_node node r.node) (λ (r : Running). is_id id r.id) c.placed) (one_at (row_of id c.table) node (placed_for id c.placed) (one_of (row_of id c.table) (placed_for id c.placed) (waiting_for id c.waiting) (sound id))))
