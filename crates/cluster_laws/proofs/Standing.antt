-- Placing keeps a cluster sound: what waited runs, and only once.
use Rattle.std.proofs.Common.{◌≡◌, ◌⊎◌, inl, inr, refl, sym, ap, ◌∙◌, subst, ℕ, ◌==◌, Bool, true, false, not, List, [], ◌∷◌, Option, Some, None, cond, arith}
use Rattle.std.specs.Prelude.{filter, ⊤}
use Rattle.std.proofs.lemmas.Bool.Decides.{Decides-eqb}
use Rattle.base_names.specs.declared.id.BatchId.{BatchId}
use Rattle.base_names.specs.declared.node.NodeLine.{NodeLine}
use Rattle.base_names.specs.declared.node.NodeNo.{NodeNo}
use Rattle.base_names.specs.declared.node.Placed.{Placed}
use Rattle.base_names.specs.declared.node.Waiter.{Waiter}
use Rattle.base_names.specs.declared.node.Waiter.TheVariants.{Seat, Batch}
use Rattle.model_data.specs.declared.batch.BatchRow.{BatchRow}
use Rattle.table_defs.specs.Lists.{each}
use Rattle.table_defs.specs.Names.{is_attempt, is_id}
use Rattle.table_defs.specs.Table.{row_of}
use Rattle.cluster_defs.specs.Cluster.{Cluster, Running, Waiting, lines}
use Rattle.cluster_defs.specs.Placement.{all_dequeued, best_node, dequeue, occupied, place, placed_attempts, places, settled}
use Rattle.cluster_laws.specs.Sound.{EachStands, Stands, placed_for, waiting_for, waits_for, waits_open}
use Rattle.cluster_defs.specs.Waiters.{is_waiter}
use Rattle.table_defs.proofs.Lists.{each_part, filter_filter, filter_others, push_other, push_own}
use Rattle.table_defs.proofs.Names.{and_both, and_left, bool_off, id_is, id_refl}

-- ---- the placements of one batch

abbrev places_for : BatchId → List Placed → List Placed
places_for id ps = filter (λ p. waits_for id p.waiter) ps

-- what of one waiting job may be placed
abbrev pub Comes : List Waiting → List Placed → Type 0
Comes [] ps = ps ≡ []
Comes (w ∷ []) ps = (ps ≡ []) ⊎ ((node : NodeNo) × (ps ≡ record { waiter = w.waiter; node = node } ∷ []))
Comes (w ∷ v ∷ ws) ps = ⊤

placed_one : (w : Waiting) (ws : List Waiting) (node : NodeNo) (ps : List Placed) → Comes ws ps → Comes (w ∷ ws) (record { waiter = w.waiter; node = node } ∷ ps)
placed_one w [] node ps h = inr (node, ap (λ (x : List Placed). record { waiter = w.waiter; node = node } ∷ x) h)
placed_one w (v ∷ ws) node ps h = tt

skipped_one : (w : Waiting) (ws : List Waiting) (ps : List Placed) → Comes ws ps → Comes (w ∷ ws) ps
skipped_one w [] ps h = inl h
skipped_one w (v ∷ ws) ps h = tt

comes_then : (b : Bool) (w : Waiting) (ws : List Waiting) (node : NodeNo) (ps : List Placed) → Comes ws ps → Comes (cond b (w ∷ ws) ws) (cond b (record { waiter = w.waiter; node = node } ∷ ps) ps)
comes_then true w ws node ps h = placed_one w ws node ps h
comes_then false w ws node ps h = h

comes_skip : (b : Bool) (w : Waiting) (ws : List Waiting) (ps : List Placed) → Comes ws ps → Comes (cond b (w ∷ ws) ws) ps
comes_skip true w ws ps h = skipped_one w ws ps h
comes_skip false w ws ps h = h

comes_by : (q : Waiter → Bool) (w : Waiting) (ws : List Waiting) (ns : List NodeLine) (x : Option NodeLine) → ((n : List NodeLine) → Comes (filter (λ v. q v.waiter) ws) (filter (λ p. q p.waiter) (places ws n)))
    → Comes (filter (λ v. q v.waiter) (w ∷ ws)) (filter (λ p. q p.waiter) (elim x as (λ _. List Placed) [ None ↦ places ws ns | Some n ↦ record { waiter = w.waiter; node = n.node } ∷ places ws (occupied n.node ns) ]))
comes_by q w ws ns None later = comes_skip (q w.waiter) w (filter (λ v. q v.waiter) ws) (filter (λ p. q p.waiter) (places ws ns)) (later ns)
comes_by q w ws ns (Some n) later = comes_then (q w.waiter) w (filter (λ v. q v.waiter) ws) n.node (filter (λ p. q p.waiter) (places ws (occupied n.node ns))) (later (occupied n.node ns))

pub comes_of : (q : Waiter → Bool) (ws : List Waiting) (ns : List NodeLine) → Comes (filter (λ v. q v.waiter) ws) (filter (λ p. q p.waiter) (places ws ns))
comes_of q [] ns = refl
comes_of q (w ∷ ws) ns = comes_by q w ws ns (best_node w.priority ns) (λ n. comes_of q ws n)

comes : (id : BatchId) (ws : List Waiting) (ns : List NodeLine) → Comes (waiting_for id ws) (places_for id (places ws ns))
comes id ws ns = comes_of (waits_for id) ws ns

-- ---- what they do to the batch

runs_own : (id : BatchId) (w : Waiter) (node : NodeNo) (placed : List Running) → waits_for id w ≡ true → placed_for id (placed_attempts record { waiter = w; node = node } placed) ≡ placed_attempts record { waiter = w; node = node } (placed_for id placed)
runs_own id (Seat job) node placed own = refl
runs_own id (Batch b n) node placed own = push_own (λ r. is_id id r.id) (record { id = b; attempt = n; node = node }) own placed

pub runs_other : (id : BatchId) (w : Waiter) (node : NodeNo) (placed : List Running) → waits_for id w ≡ false → placed_for id (placed_attempts record { waiter = w; node = node } placed) ≡ placed_for id placed
runs_other id (Seat job) node placed other = refl
runs_other id (Batch b n) node placed other = push_other (λ r. is_id id r.id) (record { id = b; attempt = n; node = node }) other placed

-- no waiter of the batch is one that is not
pub waiter_apart : (id : BatchId) (w v : Waiter) → waits_for id w ≡ false → waits_for id v ≡ true → is_waiter w v ≡ false
waiter_apart id w (Seat job) other own = absurd (grind (arith, own))
waiter_apart id (Seat job) (Batch c m) other own = refl
waiter_apart id (Batch b n) (Batch c m) other own = bool_off (is_attempt b n c m) (λ h. let e : b ≡ c = id_is b c (and_left (is_id b c) (n == m) h) in let k : is_id id b ≡ true = ap (is_id id) e ∙ own in grind (arith, k, other))

pub rest_own : (id : BatchId) (p : Placed) (ws : List Waiting) → waits_for id p.waiter ≡ true → waiting_for id (dequeue p.waiter ws) ≡ dequeue p.waiter (waiting_for id ws)
rest_own id p ws own = filter_filter (λ (w : Waiting). waits_for id w.waiter) (λ (w : Waiting). not (is_waiter p.waiter w.waiter)) ws

pub rest_other : (id : BatchId) (p : Placed) (ws : List Waiting) → waits_for id p.waiter ≡ false → waiting_for id (dequeue p.waiter ws) ≡ waiting_for id ws
rest_other id p ws other = filter_others (λ (w : Waiting). waits_for id w.waiter) (λ (w : Waiting). not (is_waiter p.waiter w.waiter)) (λ w own. ap not (waiter_apart id p.waiter w.waiter other own)) ws

pub self_gone : (b : BatchId) (n : ℕ) (w : Waiting) (rest : List Waiting) → w.waiter ≡ Batch b n → dequeue (Batch b n) (w ∷ rest) ≡ dequeue (Batch b n) rest
self_gone b n w rest is = ap (λ (x : Bool). cond (not x) (w ∷ dequeue (Batch b n) rest) (dequeue (Batch b n) rest)) (ap (is_waiter (Batch b n)) is ∙ and_both (is_id b b) (n == n) (id_refl b) ((Decides-eqb n n).1 refl))

moved : (row : Option BatchRow) (x : Waiter) (w : Waiting) (node : NodeNo) → w.waiter ≡ x → Stands row [] (w ∷ []) → Stands row (placed_attempts record { waiter = x; node = node } []) (dequeue x (w ∷ []))
moved row (Seat job) w node is h = absurd (grind (arith, ap (waits_open row) is, h))
moved row (Batch b n) w node is h = subst (λ (ws : List Waiting). Stands row (record { id = b; attempt = n; node = node } ∷ []) ws) (sym (self_gone b n w [] is)) (sym (ap (waits_open row) is) ∙ h)

-- with these placements, a batch that stood stands
then_stands : (row : Option BatchRow) (placed : List Running) (ws : List Waiting) (ps : List Placed) → Stands row placed ws → Comes ws ps → Stands row (each placed_attempts ps placed) (each (λ (p : Placed). dequeue p.waiter) ps ws)
then_stands row placed [] ps h c = subst (λ (x : List Placed). Stands row (each placed_attempts x placed) (each (λ (p : Placed). dequeue p.waiter) x [])) (sym c) h
then_stands row [] (w ∷ []) ps h c = elim c [
  | inl none ↦ subst (λ (x : List Placed). Stands row (each placed_attempts x []) (each (λ (p : Placed). dequeue p.waiter) x (w ∷ []))) (sym none) h
  | inr some ↦ subst (λ (x : List Placed). Stands row (each placed_attempts x []) (each (λ (p : Placed). dequeue p.waiter) x (w ∷ []))) (sym some.1) (moved row w.waiter w some.0 refl h)
]
then_stands row [] (w ∷ v ∷ ws) ps h c = absurd h
then_stands row (r ∷ []) (w ∷ ws) ps h c = absurd h
then_stands row (r ∷ s ∷ rs) (w ∷ ws) ps h c = absurd h

pub placing_is_sound : (c : Cluster) → EachStands c → EachStands (settled (place c) c)
placing_is_sound c sound id =
    let ps = place c in
    let e = each_part placed_attempts (λ p. waits_for id p.waiter) (placed_for id) (λ p placed own. runs_own id p.waiter p.node placed own) (λ p placed other. runs_other id p.waiter p.node placed other) ps c.placed in
    let f = each_part (λ (p : Placed). dequeue p.waiter) (λ p. waits_for id p.waiter) (waiting_for id) (λ p ws own. rest_own id p ws own) (λ p ws other. rest_other id p ws other) ps c.waiting in
    subst (λ (x : List Running). Stands (row_of id c.table) x (waiting_for id (all_dequeued ps c.waiting))) (sym e)
    (subst (λ (x : List Waiting). Stands (row_of id c.table) (each placed_attempts (places_for id ps) (placed_for id c.placed)) x) (sym f)
    (then_stands (row_of id c.table) (placed_for id c.placed) (waiting_for id c.waiting) (places_for id ps) (sound id) (comes id c.waiting (lines c))))
