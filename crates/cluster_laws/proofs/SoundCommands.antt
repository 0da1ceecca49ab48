-- A command that is done keeps a cluster sound: shown for jobs, new batches and aborts.
use Rattle.std.proofs.Common.{◌≡◌, refl, sym, ap, ap₂, ◌∙◌, subst, ℕ, ◌==◌, Bool, true, false, not, ℤ, List, [], ◌∷◌, map, Option, Some, None, cond, arith}
use Rattle.std.specs.Prelude.{filter, option_map}
use Rattle.std.proofs.lemmas.Bool.Decides.{Decides-eqb}
use Rattle.base_names.specs.declared.id.BatchId.{BatchId}
use Rattle.base_names.specs.declared.node.NodeNo.{NodeNo}
use Rattle.base_names.specs.declared.node.Waiter.{Waiter}
use Rattle.base_names.specs.declared.node.Waiter.TheVariants.{Seat, Batch}
use Rattle.model_data.specs.declared.batch.AttemptOf.{AttemptOf}
use Rattle.model_data.specs.declared.batch.BatchResult.{BatchResult}
use Rattle.model_data.specs.declared.batch.BatchRow.{BatchRow}
use Rattle.table_defs.specs.Names.{is_attempt, is_id}
use Rattle.table_defs.specs.Table.{Table, ended, failed, lost, row_of, submitted, with_row, without_row}
use Rattle.cluster_defs.specs.Cluster.{Cluster, Running, Waiting, attempts_at}
use Rattle.cluster_defs.specs.Effects.{without_attempt, without_node}
use Rattle.cluster_defs.specs.Placement.{dequeue, enqueue}
use Rattle.cluster_laws.specs.Sound.{EachStands, Stands, is_going, placed_for, waiting_for, waits_for, waits_open}
use Rattle.cluster_defs.specs.Step.{still_open}
use Rattle.cluster_defs.specs.Waiters.{is_node, is_waiter}
use Rattle.table_defs.proofs.Lists.{filter_filter, filter_others}
use Rattle.table_defs.proofs.Names.{and_both, and_left, and_right, bool_off, id_apart, id_is, id_refl}
use Rattle.table_defs.proofs.Rows.{row_gone, row_with}
use Rattle.cluster_laws.proofs.Lists.{filter_map_filter}
use Rattle.cluster_laws.proofs.Standing.{self_gone, waiter_apart}

-- ---- lists

head_by : {A : Type 0} (p : A → Bool) (y : A) (ys : List A) (x : A) (rest : List A) (b : Bool) → p y ≡ b → cond b (y ∷ filter p ys) (filter p ys) ≡ x ∷ rest → (filter p ys ≡ x ∷ rest → p x ≡ true) → p x ≡ true
head_by p y ys x rest true is h later = let e : y ≡ x = cc in sym (ap p e) ∙ is
head_by p y ys x rest false is h later = later h

filter_head : {A : Type 0} (p : A → Bool) (xs : List A) (x : A) (rest : List A) → filter p xs ≡ x ∷ rest → p x ≡ true
filter_head p [] x rest h = absurd (grind (arith, h))
filter_head p (y ∷ ys) x rest h = head_by p y ys x rest (p y) refl h (filter_head p ys x rest)

pub enqueue_other : (id : BatchId) (w : Waiting) (ws : List Waiting) → waits_for id w.waiter ≡ false → waiting_for id (enqueue w ws) ≡ waiting_for id ws
enqueue_other id w [] h = rw h
enqueue_other id w (v ∷ vs) h = grind (arith, h, enqueue_other id w vs h)

pub enqueue_own : (id : BatchId) (w : Waiting) (ws : List Waiting) → waits_for id w.waiter ≡ true → waiting_for id ws ≡ [] → waiting_for id (enqueue w ws) ≡ w ∷ []
enqueue_own id w [] h none = rw h
enqueue_own id w (v ∷ vs) h none = grind (arith, h, none, enqueue_own id w vs h)

-- ---- an attempt that ends

attempt_gone : (id : BatchId) (n : ℕ) (r : Running) (rest : List Running) → is_id id r.id ≡ true → r.attempt ≡ n → without_attempt id n (r ∷ rest) ≡ without_attempt id n rest
attempt_gone id n r rest same is = ap (λ (x : Bool). cond (not x) (r ∷ without_attempt id n rest) (without_attempt id n rest)) (and_both (is_id id r.id) (n == r.attempt) same ((Decides-eqb n r.attempt).1 (sym is)))

pub open_at : (n : ℕ) (row : BatchRow) → still_open n (Some row) ≡ true → row.attempt ≡ n
open_at n row h = (Decides-eqb row.attempt n).0 (and_right (row.status == submitted) (row.attempt == n) h)

-- what waits of the batch is this attempt
waits_is : (id : BatchId) (row : BatchRow) (w : Waiting) (x : Waiter) → w.waiter ≡ x → waits_for id x ≡ true → waits_open (Some row) x ≡ true → dequeue (Batch id row.attempt) (w ∷ []) ≡ []
waits_is id row w (Seat job) is own h = absurd (grind (arith, own))
waits_is id row w (Batch b m) is own h = self_gone id row.attempt w [] (is ∙ ap₂ (λ (c : BatchId) (n : ℕ). Batch c n) (sym (id_is id b own)) (sym (open_at m row h)))

-- Nothing runs or waits of an attempt that has ended.
ended_stands : (id : BatchId) (row : BatchRow) (status : ℕ) (result : Option BatchResult) (placed : List Running) (ws : List Waiting) → (status == submitted) ≡ false → (row.status == submitted) ≡ true
    → ((r : Running) (rest : List Running) → placed ≡ r ∷ rest → is_id id r.id ≡ true) → ((w : Waiting) (rest : List Waiting) → ws ≡ w ∷ rest → waits_for id w.waiter ≡ true)
    → Stands (Some row) placed ws → Stands (Some (ended status result row)) (without_attempt id row.attempt placed) (dequeue (Batch id row.attempt) ws)
ended_stands id row status result [] [] closed going p q h = absurd (grind (arith, h, going))
ended_stands id row status result [] (w ∷ []) closed going p q h = subst (Stands (Some (ended status result row)) []) (sym (waits_is id row w w.waiter refl (q w [] refl) h)) closed
ended_stands id row status result (r ∷ []) [] closed going p q h = subst (λ (x : List Running). Stands (Some (ended status result row)) x []) (sym (attempt_gone id row.attempt r [] (p r [] refl) (sym (open_at r.attempt row h)))) closed
ended_stands id row status result [] (w ∷ v ∷ ws) closed going p q h = absurd h
ended_stands id row status result (r ∷ []) (w ∷ ws) closed going p q h = absurd h
ended_stands id row status result (r ∷ s ∷ rs) ws closed going p q h = absurd h

attempt_apart : (a id : BatchId) (r : Running) → is_id a id ≡ false → is_id a r.id ≡ true → (n : ℕ) → is_attempt id n r.id r.attempt ≡ false
attempt_apart a id r apart own n = bool_off (is_attempt id n r.id r.attempt) (λ h. let k : is_id id r.id ≡ true = and_left (is_id id r.id) (n == r.attempt) h in let o : is_id id r.id ≡ false = id_apart a id r.id apart own in grind (arith, k, o))

pub stands_same : (c : Cluster) (a : BatchId) (row : Option BatchRow) (placed : List Running) (ws : List Waiting) → row ≡ row_of a c.table → placed ≡ placed_for a c.placed → ws ≡ waiting_for a c.waiting → EachStands c → Stands row placed ws
stands_same c a row placed ws p q r sound = subst (λ (x : Option BatchRow). Stands x placed ws) (sym p) (subst (λ (x : List Running). Stands (row_of a c.table) x ws) (sym q) (subst (Stands (row_of a c.table) (placed_for a c.placed)) (sym r) (sound a)))

ending_by : (c : Cluster) (id : BatchId) (row : BatchRow) (status : ℕ) (result : Option BatchResult) → (status == submitted) ≡ false → row_of id c.table ≡ Some row → (row.status == submitted) ≡ true → EachStands c
    → (a : BatchId) (b : Bool) → is_id a id ≡ b → Stands (row_of a (with_row id (ended status result) c.table)) (placed_for a (without_attempt id row.attempt c.placed)) (waiting_for a (dequeue (Batch id row.attempt) c.waiting))
ending_by c id row status result closed found going sound a true same =
    subst (λ (i : BatchId). Stands (row_of i (with_row id (ended status result) c.table)) (placed_for i (without_attempt id row.attempt c.placed)) (waiting_for i (dequeue (Batch id row.attempt) c.waiting))) (sym (id_is a id same))
    (subst (λ (x : Option BatchRow). Stands x (placed_for id (without_attempt id row.attempt c.placed)) (waiting_for id (dequeue (Batch id row.attempt) c.waiting))) (sym (row_with id id (ended status result) c.table true (id_refl id) (λ r. refl) ∙ ap (option_map (ended status result)) found))
    (subst (λ (x : List Running). Stands (Some (ended status result row)) x (waiting_for id (dequeue (Batch id row.attempt) c.waiting))) (sym (filter_filter (λ (r : Running). is_id id r.id) (λ (r : Running). not (is_attempt id row.attempt r.id r.attempt)) c.placed))
    (subst (Stands (Some (ended status result row)) (without_attempt id row.attempt (placed_for id c.placed))) (sym (filter_filter (λ (w : Waiting). waits_for id w.waiter) (λ (w : Waiting). not (is_waiter (Batch id row.attempt) w.waiter)) c.waiting))
    (ended_stands id row status result (placed_for id c.placed) (waiting_for id c.waiting) closed going
    (λ r rest e. filter_head (λ (r : Running). is_id id r.id) c.placed r rest e) (λ w rest e. filter_head (λ (w : Waiting). waits_for id w.waiter) c.waiting w rest e)
    (subst (λ (x : Option BatchRow). Stands x (placed_for id c.placed) (waiting_for id c.waiting)) found (sound id))))))
ending_by c id row status result closed found going sound a false apart =
    stands_same c a _ _ _ (row_with a id (ended status result) c.table false apart (λ r. refl))
    (filter_others (λ (r : Running). is_id a r.id) (λ (r : Running). not (is_attempt id row.attempt r.id r.attempt)) (λ r own. ap not (attempt_apart a id r apart own row.attempt)) c.placed)
    (filter_others (λ (w : Waiting). waits_for a w.waiter) (λ (w : Waiting). not (is_waiter (Batch id row.attempt) w.waiter)) (λ w own. ap not (waiter_apart a (Batch id row.attempt) w.waiter apart own)) c.waiting) sound

-- an attempt has ended, of whatever batch
pub ending_is_sound : (c : Cluster) (id : BatchId) (row : BatchRow) (status : ℕ) (result : Option BatchResult) → (status == submitted) ≡ false → row_of id c.table ≡ Some row → (row.status == submitted) ≡ true → EachStands c
    → (a : BatchId) → Stands (row_of a (with_row id (ended status result) c.table)) (placed_for a (without_attempt id row.attempt c.placed)) (waiting_for a (dequeue (Batch id row.attempt) c.waiting))
ending_is_sound c id row status result closed found going sound a = ending_by c id row status result closed found going sound a (is_id a id) refl

-- ---- an attempt that begins

going_on : (n : ℕ) (row : Option BatchRow) → still_open n row ≡ true → is_going row ≡ true
going_on n None h = absurd (grind (arith, h))
going_on n (Some row) h = and_left (row.status == submitted) (row.attempt == n) h

waits_going : (row : Option BatchRow) (w : Waiter) → waits_open row w ≡ true → is_going row ≡ true
waits_going row (Seat job) h = absurd (grind (arith, h))
waits_going row (Batch id n) h = going_on n row h

-- Of a batch that does not go on nothing runs and nothing waits.
idle : (row : Option BatchRow) (placed : List Running) (ws : List Waiting) → is_going row ≡ false → Stands row placed ws → (placed ≡ []) × (ws ≡ [])
idle row [] [] over h = (refl, refl)
idle row [] (w ∷ []) over h = let k : is_going row ≡ true = waits_going row w.waiter h in absurd (grind (arith, k, over))
idle row (r ∷ []) [] over h = let k : is_going row ≡ true = going_on r.attempt row h in absurd (grind (arith, k, over))
idle row [] (w ∷ v ∷ ws) over h = absurd h
idle row (r ∷ []) (w ∷ ws) over h = absurd h
idle row (r ∷ s ∷ rs) ws over h = absurd h

pub beginning_is_sound : (c : Cluster) (t : Table) (id : BatchId) (n : ℕ) (p : ℤ) → still_open n (row_of id t) ≡ true → ((a : BatchId) → is_id a id ≡ false → row_of a t ≡ row_of a c.table) → is_going (row_of id c.table) ≡ false → EachStands c
    → (a : BatchId) (b : Bool) → is_id a id ≡ b → Stands (row_of a t) (placed_for a c.placed) (waiting_for a (enqueue record { waiter = Batch id n; priority = p } c.waiting))
beginning_is_sound c t id n p new apart over sound a true same =
    subst (λ (i : BatchId). Stands (row_of i t) (placed_for i c.placed) (waiting_for i (enqueue record { waiter = Batch id n; priority = p } c.waiting))) (sym (id_is a id same))
    (let none = idle (row_of id c.table) (placed_for id c.placed) (waiting_for id c.waiting) over (sound id) in
    subst (λ (x : List Running). Stands (row_of id t) x (waiting_for id (enqueue record { waiter = Batch id n; priority = p } c.waiting))) (sym none.0)
    (subst (Stands (row_of id t) []) (sym (enqueue_own id (record { waiter = Batch id n; priority = p }) c.waiting (id_refl id) none.1)) new))
beginning_is_sound c t id n p new apart over sound a false off = stands_same c a _ _ _ (apart a off) refl (enqueue_other a (record { waiter = Batch id n; priority = p }) c.waiting off) sound

-- ---- a batch that is discarded

pub discard_is_sound : (c : Cluster) (id : BatchId) → is_going (row_of id c.table) ≡ false → EachStands c → (a : BatchId) (b : Bool) → is_id a id ≡ b → Stands (row_of a (without_row id c.table)) (placed_for a c.placed) (waiting_for a c.waiting)
discard_is_sound c id over sound a true same =
    subst (λ (i : BatchId). Stands (row_of i (without_row id c.table)) (placed_for i c.placed) (waiting_for i c.waiting)) (sym (id_is a id same))
    (let none = idle (row_of id c.table) (placed_for id c.placed) (waiting_for id c.waiting) over (sound id) in
    subst (λ (x : Option BatchRow). Stands x (placed_for id c.placed) (waiting_for id c.waiting)) (sym (row_gone id id c.table true (id_refl id)))
    (subst (λ (x : List Running). Stands None x (waiting_for id c.waiting)) (sym none.0) (subst (Stands None []) (sym none.1) refl)))
discard_is_sound c id over sound a false off = stands_same c a _ _ _ (row_gone a id c.table false off) refl refl sound

-- ---- a node that fails

lost_apart_by : (id : BatchId) (x : AttemptOf) (xs : List AttemptOf) (t : Table) (b : Bool) → is_id id x.id ≡ b → cond b (x ∷ filter (λ a. is_id id a.id) xs) (filter (λ a. is_id id a.id) xs) ≡ []
    → (filter (λ a. is_id id a.id) xs ≡ [] → row_of id (lost xs (with_row x.id (ended failed None) t)) ≡ row_of id (with_row x.id (ended failed None) t)) → row_of id (lost xs (with_row x.id (ended failed None) t)) ≡ row_of id t
lost_apart_by id x xs t true same none later = absurd (grind (arith, none))
lost_apart_by id x xs t false off none later = later none ∙ row_with id x.id (ended failed None) t false off (λ r. refl)

lost_apart : (id : BatchId) (items : List AttemptOf) (t : Table) → filter (λ a. is_id id a.id) items ≡ [] → row_of id (lost items t) ≡ row_of id t
lost_apart id [] t none = refl
lost_apart id (x ∷ xs) t none = lost_apart_by id x xs t (is_id id x.id) refl none (λ h. lost_apart id xs (with_row x.id (ended failed None) t) h)

-- once failed, a batch does not go on
fails : (row : Option BatchRow) (b : Bool) → is_going row ≡ false → is_going (cond b (option_map (ended failed None) row) row) ≡ false
fails None true h = refl
fails (Some row) true h = refl
fails row false h = h

lost_stays : (id : BatchId) (items : List AttemptOf) (t : Table) → is_going (row_of id t) ≡ false → is_going (row_of id (lost items t)) ≡ false
lost_stays id [] t h = h
lost_stays id (x ∷ xs) t h = lost_stays id xs (with_row x.id (ended failed None) t) (ap is_going (row_with id x.id (ended failed None) t (is_id id x.id) refl (λ r. refl)) ∙ fails (row_of id t) (is_id id x.id) h)

failed_now : (row : Option BatchRow) → is_going (option_map (ended failed None) row) ≡ false
failed_now None = refl
failed_now (Some row) = refl

lost_here_by : (id : BatchId) (x : AttemptOf) (xs : List AttemptOf) (t : Table) (y : AttemptOf) (ys : List AttemptOf) (b : Bool) → is_id id x.id ≡ b → cond b (x ∷ filter (λ a. is_id id a.id) xs) (filter (λ a. is_id id a.id) xs) ≡ y ∷ ys
    → (filter (λ a. is_id id a.id) xs ≡ y ∷ ys → is_going (row_of id (lost xs (with_row x.id (ended failed None) t))) ≡ false) → is_going (row_of id (lost xs (with_row x.id (ended failed None) t))) ≡ false
lost_here_by id x xs t y ys true same h later = lost_stays id xs (with_row x.id (ended failed None) t) (ap is_going (row_with id x.id (ended failed None) t true same (λ r. refl)) ∙ failed_now (row_of id t))
lost_here_by id x xs t y ys false off h later = later h

lost_here : (id : BatchId) (items : List AttemptOf) (t : Table) (y : AttemptOf) (ys : List AttemptOf) → filter (λ a. is_id id a.id) items ≡ y ∷ ys → is_going (row_of id (lost items t)) ≡ false
lost_here id [] t y ys h = absurd (grind (arith, h))
lost_here id (x ∷ xs) t y ys h = lost_here_by id x xs t y ys (is_id id x.id) refl h (λ e. lost_here id xs (with_row x.id (ended failed None) t) y ys e)

fail_one : (id : BatchId) (node : NodeNo) (row after : Option BatchRow) (r : Running) (b : Bool) → still_open r.attempt row ≡ true → (cond b (r ∷ []) [] ≡ [] → after ≡ row) → ((s : Running) (rest : List Running) → cond b (r ∷ []) [] ≡ s ∷ rest → is_going after ≡ false) → Stands after (cond (not b) (r ∷ []) []) []
fail_one id node row after r true h apart here = here r [] refl
fail_one id node row after r false h apart here = ap (still_open r.attempt) (apart refl) ∙ h

-- by what of the batch runs there
fail_stands : (id : BatchId) (node : NodeNo) (row after : Option BatchRow) (placed : List Running) (ws : List Waiting) → Stands row placed ws
    → (filter (λ r. is_node node r.node) placed ≡ [] → after ≡ row) → ((r : Running) (rest : List Running) → filter (λ r. is_node node r.node) placed ≡ r ∷ rest → is_going after ≡ false) → Stands after (without_node node placed) ws
fail_stands id node row after [] ws h apart here = subst (λ (x : Option BatchRow). Stands x [] ws) (sym (apart refl)) h
fail_stands id node row after (r ∷ []) [] h apart here = fail_one id node row after r (is_node node r.node) h apart here
fail_stands id node row after (r ∷ []) (w ∷ ws) h apart here = absurd h
fail_stands id node row after (r ∷ s ∷ rs) ws h apart here = absurd h

items_for : (id : BatchId) (node : NodeNo) (placed : List Running) → filter (λ a. is_id id a.id) (attempts_at node placed) ≡ map (λ r. record { id = r.id; attempt = r.attempt }) (filter (λ r. is_node node r.node) (placed_for id placed))
items_for id node placed = filter_map_filter (λ (a : AttemptOf). is_id id a.id) (λ (r : Running). is_node node r.node) (λ r. record { id = r.id; attempt = r.attempt }) placed

pub failing_is_sound : (c : Cluster) (node : NodeNo) → EachStands c → (a : BatchId) → Stands (row_of a (lost (attempts_at node c.placed) c.table)) (placed_for a (without_node node c.placed)) (waiting_for a c.waiting)
failing_is_sound c node sound a =
    subst (λ (x : List Running). Stands (row_of a (lost (attempts_at node c.placed) c.table)) x (waiting_for a c.waiting)) (sym (filter_filter (λ (r : Running). is_id a r.id) (λ (r : Running). not (is_node node r.node)) c.placed))
    (fail_stands a node (row_of a c.table) (row_of a (lost (attempts_at node c.placed) c.table)) (placed_for a c.placed) (waiting_for a c.waiting) (sound a)
    (λ none. lost_apart a (attempts_at node c.placed) c.table (items_for a node c.placed ∙ ap (map (λ (r : Running). record { id = r.id; attempt = r.attempt })) none))
    (λ r rest some. lost_here a (attempts_at node c.placed) c.table (record { id = r.id; attempt = r.attempt }) _ (items_for a node c.placed ∙ ap (map (λ (r : Running). record { id = r.id; attempt = r.attempt })) some)))
