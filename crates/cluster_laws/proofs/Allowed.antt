-- Each place given was the best at its moment, and behind all of them none may run.
use Rattle.std.proofs.Common.{◌≡◌, ◌≢◌, ◌⊎◌, inl, inr, refl, sym, ap, ◌∙◌, subst, ◌+◌, ◌<◌, ◌==◌, ◌||◌, Bool, true, false, not, ℤ, pos, List, [], ◌∷◌, ◌++◌, append_assoc, Option, Some, None, cond, arith}
use Rattle.std.specs.Prelude.{nat_lt, if◌then◌else◌}
use Rattle.std.specs.Ordering.{int_eq}
use Rattle.std.proofs.lemmas.Bool.Decides.{Decides-eqb, nat_tests}
use Rattle.base_names.specs.declared.node.NodeLine.{NodeLine}
use Rattle.base_names.specs.declared.node.NodeState.{NodeState}
use Rattle.base_names.specs.declared.node.NodeState.TheVariants.{Alive, Draining, Failed}
use Rattle.base_names.specs.declared.node.Placed.{Placed}
use Rattle.base_names.specs.declared.node.Waiter.{Waiter}
use Rattle.base_names.specs.declared.node.Waiter.TheVariants.{Seat as Job, Batch}
use Rattle.table_defs.proofs.Lists.{append_nil, filter_filter}
use Rattle.table_defs.proofs.Names.{and_both, and_left, and_right}
use Rattle.cluster_defs.specs.Cluster.{Running, Waiting}
use Rattle.cluster_defs.specs.Placement.{all_dequeued, all_placed_attempts, best_node, dequeue, has_room, is_alive, may_run, occupied, placed_attempts, places, roomier}
use Rattle.cluster_laws.specs.Places.{AreAllowed, CannotRun, Every, HasLess, HasNoMore, IsAllowed, IsBest, MayRun, lines_behind, new_attempts}
use Rattle.cluster_defs.specs.Waiters.{is_waiter}
use Rattle.cluster_laws.proofs.Every.{every_append, every_filter}
use Rattle.cluster_laws.proofs.Rule.{none_later}
use Rattle.cluster_laws.proofs.Waiters.{waiter_refl}

-- ---- where a job may run

alive_is : (state : NodeState) → is_alive state ≡ true → state ≡ Alive
alive_is Alive h = refl
alive_is Draining h = absurd (grind (arith, h))
alive_is Failed h = absurd (grind (arith, h))

full_is : (p : ℤ) → int_eq p (pos 100) ≡ true → p ≡ pos 100
full_is p h = grind (arith, h)

full_of : (p : ℤ) → p ≡ pos 100 → int_eq p (pos 100) ≡ true
full_of p h = rw h refl

lower_of : (p : ℤ) → int_eq p (pos 100) ≡ false → p ≢ pos 100
lower_of p h e = let f = full_of p e in grind (arith, h, f)

or_right : (a b : Bool) → b ≡ true → (a || b) ≡ true
or_right true b h = refl
or_right false b h = h

hard_by : (n : NodeLine) (none : Bool) → (n.hard == 0) ≡ none → (none || nat_lt n.running n.hard) ≡ true → (n.hard ≡ 0) ⊎ (n.running < n.hard)
hard_by n true is h = inl ((Decides-eqb n.hard 0).0 is)
hard_by n false is h = let below : n.running < n.hard = grind (arith, nat_tests, h) in inr below

hard_or : (n : NodeLine) → ((n.hard == 0) || nat_lt n.running n.hard) ≡ true → (n.hard ≡ 0) ⊎ (n.running < n.hard)
hard_or n h = hard_by n (n.hard == 0) refl h

room_by : (p : ℤ) (n : NodeLine) (full : Bool) → int_eq p (pos 100) ≡ full → n.state ≡ Alive → (if full then (n.hard == 0) || nat_lt n.running n.hard else nat_lt n.running n.limit) ≡ true → MayRun p n
room_by p n true is alive h = record { alive = alive; below = λ other. absurd (other (full_is p is)); hard = λ same. hard_or n h }
room_by p n false is alive h = record { alive = alive; below = λ other. grind (arith, nat_tests, h); hard = λ same. absurd (lower_of p is same) }

may_is : (p : ℤ) (n : NodeLine) → may_run p n ≡ true → MayRun p n
may_is p n h = room_by p n (int_eq p (pos 100)) refl (alive_is n.state (and_left (is_alive n.state) (has_room p n) h)) (and_right (is_alive n.state) (has_room p n) h)

hard_of : (n : NodeLine) → (n.hard ≡ 0) ⊎ (n.running < n.hard) → ((n.hard == 0) || nat_lt n.running n.hard) ≡ true
hard_of n (inl none) = let e : (n.hard == 0) ≡ true = (Decides-eqb n.hard 0).1 none in rw e refl
hard_of n (inr below) = let e : nat_lt n.running n.hard ≡ true = grind (arith, nat_tests, below) in or_right (n.hard == 0) (nat_lt n.running n.hard) e

room_of : (p : ℤ) (n : NodeLine) (full : Bool) → int_eq p (pos 100) ≡ full → MayRun p n → (if full then (n.hard == 0) || nat_lt n.running n.hard else nat_lt n.running n.limit) ≡ true
room_of p n true is may = hard_of n (may.hard (full_is p is))
room_of p n false is may = let below : n.running < n.limit = may.below (lower_of p is) in grind (arith, nat_tests, below)

may_of : (p : ℤ) (n : NodeLine) → MayRun p n → may_run p n ≡ true
may_of p n may = and_both (is_alive n.state) (has_room p n) (ap is_alive may.alive) (room_of p n (int_eq p (pos 100)) refl may)

clash : {A : Type 0} (p : ℤ) (n : NodeLine) → may_run p n ≡ false → MayRun p n → A
clash p n h may = let e = may_of p n may in absurd (grind (arith, h, e))

-- ---- the node that is chosen

abbrev AreBest : ℤ → List NodeLine → Option NodeLine → Type 0
AreBest p ns None = Every (λ (n : NodeLine). MayRun p n → ⊥) ns
AreBest p ns (Some n) = IsBest p ns n

mapped : {A : Type 0} (P Q : A → Type 0) (f : (x : A) → P x → Q x) (xs : List A) → Every P xs → Every Q xs
mapped P Q f [] h = tt
mapped P Q f (x ∷ xs) h = (f x h.0, mapped P Q f xs h.1)

less_through : (o m n : NodeLine) → HasLess o m → HasNoMore m n → HasNoMore o n
less_through o m n h k = omega (arith, h, k)

through : (o m n : NodeLine) → HasNoMore o m → HasNoMore m n → HasNoMore o n
through o m n h k = omega (arith, h, k)

-- The first one is kept: none of those behind it has more than the best of them.
kept_first : (p : ℤ) (n m : NodeLine) (ns : List NodeLine) → HasNoMore m n → IsBest p ns m → Every (λ (o : NodeLine). MayRun p o → HasNoMore o n) ns
kept_first p n m ns no_more best =
    let Q : NodeLine → Type 0 = λ (o : NodeLine). MayRun p o → HasNoMore o n in
    subst (λ (xs : List NodeLine). Every Q xs) (sym best.whole) (every_append Q best.before (m ∷ best.behind)
    (mapped (λ (o : NodeLine). MayRun p o → HasLess o m) Q (λ o f may. less_through o m n (f may) no_more) best.before best.less)
    (λ may. no_more, mapped (λ (o : NodeLine). MayRun p o → HasNoMore o m) Q (λ o f may. through o m n (f may) no_more) best.behind best.no_more))

roomier_by : (p : ℤ) (n m : NodeLine) (ns : List NodeLine) (b : Bool) → nat_lt (n.limit + m.running) (m.limit + n.running) ≡ b → may_run p n ≡ true → IsBest p ns m → IsBest p (n ∷ ns) (cond b m n)
roomier_by p n m ns true is may best =
    let less : HasLess n m = grind (arith, nat_tests, is) in
    record { before = n ∷ best.before; behind = best.behind; whole = ap (λ (xs : List NodeLine). n ∷ xs) best.whole; may = best.may; less = (λ h. less, best.less); no_more = best.no_more }
roomier_by p n m ns false is may best =
    let no_more : HasNoMore m n = grind (arith, nat_tests, is) in
    record { before = []; behind = ns; whole = refl; may = may_is p n may; less = tt; no_more = kept_first p n m ns no_more best }

chosen_by : (p : ℤ) (n : NodeLine) (ns : List NodeLine) (b : Bool) (x : Option NodeLine) → may_run p n ≡ b → AreBest p ns x → AreBest p (n ∷ ns) (cond b (Some (roomier n x)) x)
chosen_by p n ns true None is h = record { before = []; behind = ns; whole = refl; may = may_is p n is; less = tt; no_more = mapped (λ (o : NodeLine). MayRun p o → ⊥) (λ (o : NodeLine). MayRun p o → HasNoMore o n) (λ o f may. absurd (f may)) ns h }
chosen_by p n ns true (Some m) is h = roomier_by p n m ns (nat_lt (n.limit + m.running) (m.limit + n.running)) refl is h
chosen_by p n ns false None is h = (clash p n is, h)
chosen_by p n ns false (Some m) is h = record { before = n ∷ h.before; behind = h.behind; whole = ap (λ (xs : List NodeLine). n ∷ xs) h.whole; may = h.may; less = (λ may. clash p n is may, h.less); no_more = h.no_more }

chosen : (p : ℤ) (ns : List NodeLine) → AreBest p ns (best_node p ns)
chosen p [] = tt
chosen p (n ∷ ns) = chosen_by p n ns (may_run p n) (best_node p ns) refl (chosen p ns)

-- ---- each place

later_allowed : (w : Waiting) (ws : List Waiting) (ns : List NodeLine) (p : Placed) → IsAllowed ws ns p → IsAllowed (w ∷ ws) ns p
later_allowed w ws ns p a = record { job = a.job; waits = inr a.waits; named = a.named; line = a.line; at = a.at; best = a.best }

later_all : (w : Waiting) (ws : List Waiting) (ps : List Placed) (ns : List NodeLine) → AreAllowed ws ns ps → AreAllowed (w ∷ ws) ns ps
later_all w ws [] ns h = tt
later_all w ws (p ∷ ps) ns h = (later_allowed w ws ns p h.0, later_all w ws ps (occupied p.node ns) h.1)

allowed_by : (w : Waiting) (ws : List Waiting) (ns : List NodeLine) (x : Option NodeLine) → AreBest w.priority ns x → ((m : List NodeLine) → AreAllowed ws m (places ws m))
    → AreAllowed (w ∷ ws) ns (elim x as (λ _. List Placed) [ None ↦ places ws ns | Some n ↦ record { waiter = w.waiter; node = n.node } ∷ places ws (occupied n.node ns) ])
allowed_by w ws ns None best later = later_all w ws (places ws ns) ns (later ns)
allowed_by w ws ns (Some n) best later = (record { job = w; waits = inl refl; named = refl; line = n; at = refl; best = best }, later_all w ws (places ws (occupied n.node ns)) (occupied n.node ns) (later (occupied n.node ns)))

pub all_allowed : (ws : List Waiting) (ns : List NodeLine) → AreAllowed ws ns (places ws ns)
all_allowed [] ns = tt
all_allowed (w ∷ ws) ns = allowed_by w ws ns (best_node w.priority ns) (chosen w.priority ns) (λ m. all_allowed ws m)

-- ---- none may run behind them

-- No node takes the job.
abbrev pub IsHeld : List NodeLine → Waiting → Type 0
IsHeld ns w = best_node w.priority ns ≡ None

none_behind : (p : ℤ) (ps : List Placed) (ns : List NodeLine) → best_node p ns ≡ None → best_node p (lines_behind ps ns) ≡ None
none_behind p [] ns h = h
none_behind p (q ∷ ps) ns h = none_behind p ps (occupied q.node ns) (none_later p q.node ns h)

-- what one more dequeues of the rest
each_dequeued : (v : Waiter) (ps : List Placed) (ws : List Waiting) → all_dequeued ps (dequeue v ws) ≡ dequeue v (all_dequeued ps ws)
each_dequeued v [] ws = refl
each_dequeued v (p ∷ ps) ws = ap (all_dequeued ps) (filter_filter (λ (w : Waiting). not (is_waiter p.waiter w.waiter)) (λ (w : Waiting). not (is_waiter v w.waiter)) ws) ∙ each_dequeued v ps (dequeue p.waiter ws)

kept_or_gone : (P : Waiting → Type 0) (ps : List Placed) (w : Waiting) (rest : List Waiting) (b : Bool) → Every P (all_dequeued ps rest) → Every P (all_dequeued ps (w ∷ rest)) → Every P (all_dequeued ps (cond (not b) (w ∷ rest) rest))
kept_or_gone P ps w rest true without with_it = without
kept_or_gone P ps w rest false without with_it = with_it

head_stays : (P : Waiting → Type 0) (ps : List Placed) (w : Waiting) (ws : List Waiting) → P w → Every P (all_dequeued ps ws) → Every P (all_dequeued ps (w ∷ ws))
head_stays P [] w ws h later = (h, later)
head_stays P (p ∷ ps) w ws h later = kept_or_gone P ps w (dequeue p.waiter ws) (is_waiter p.waiter w.waiter) later (head_stays P ps w (dequeue p.waiter ws) h later)

held_by : (w : Waiting) (ws : List Waiting) (ns : List NodeLine) (x : Option NodeLine) → best_node w.priority ns ≡ x → ((m : List NodeLine) → Every (IsHeld (lines_behind (places ws m) m)) (all_dequeued (places ws m) ws))
    → Every (IsHeld (lines_behind (elim x as (λ _. List Placed) [ None ↦ places ws ns | Some n ↦ record { waiter = w.waiter; node = n.node } ∷ places ws (occupied n.node ns) ]) ns))
    (all_dequeued (elim x as (λ _. List Placed) [ None ↦ places ws ns | Some n ↦ record { waiter = w.waiter; node = n.node } ∷ places ws (occupied n.node ns) ]) (w ∷ ws))
held_by w ws ns None is later = head_stays (IsHeld (lines_behind (places ws ns) ns)) (places ws ns) w ws (none_behind w.priority (places ws ns) ns is) (later ns)
held_by w ws ns (Some n) is later =
    let m = occupied n.node ns in
    let ps = places ws m in
    let e : dequeue w.waiter (w ∷ ws) ≡ dequeue w.waiter ws = ap (λ (b : Bool). cond (not b) (w ∷ dequeue w.waiter ws) (dequeue w.waiter ws)) (waiter_refl w.waiter) in
    subst (Every (IsHeld (lines_behind ps m))) (sym (ap (all_dequeued ps) e ∙ each_dequeued w.waiter ps ws)) (every_filter (IsHeld (lines_behind ps m)) (λ (v : Waiting). not (is_waiter w.waiter v.waiter)) (all_dequeued ps ws) (later m))

pub all_held : (ws : List Waiting) (ns : List NodeLine) → Every (IsHeld (lines_behind (places ws ns) ns)) (all_dequeued (places ws ns) ws)
all_held [] ns = tt
all_held (w ∷ ws) ns = held_by w ws ns (best_node w.priority ns) refl (λ m. all_held ws m)

pub held_cannot : (ns : List NodeLine) (w : Waiting) → IsHeld ns w → CannotRun ns w
held_cannot ns w held = subst (AreBest w.priority ns) held (chosen w.priority ns)

pub none_may_run : (ws : List Waiting) (ns : List NodeLine) → Every (CannotRun (lines_behind (places ws ns) ns)) (all_dequeued (places ws ns) ws)
none_may_run ws ns = let m = lines_behind (places ws ns) ns in mapped (IsHeld m) (CannotRun m) (held_cannot m) (all_dequeued (places ws ns) ws) (all_held ws ns)

-- ---- what ran

one_attempt : (p : Placed) (w : Waiter) (xs : List Running) → placed_attempts (record { waiter = w; node = p.node }) xs ≡ xs ++ placed_attempts (record { waiter = w; node = p.node }) []
one_attempt p (Job job) xs = sym (append_nil xs)
one_attempt p (Batch id n) xs = refl

pub attempts_stay : (ps : List Placed) (xs : List Running) → all_placed_attempts ps xs ≡ xs ++ new_attempts ps
attempts_stay [] xs = sym (append_nil xs)
attempts_stay (p ∷ ps) xs =
    let one = one_attempt p p.waiter xs in
    let first = placed_attempts p [] in
    ap (all_placed_attempts ps) one ∙ (attempts_stay ps (xs ++ first) ∙ (append_assoc xs first (new_attempts ps) ∙ ap (λ (ys : List Running). xs ++ ys) (sym (attempts_stay ps first))))
