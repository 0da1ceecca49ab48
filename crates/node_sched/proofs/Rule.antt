-- Placing the first of a class, again and again, is the rule.
use Rattle.std.proofs.Common.{◌≡◌, refl, sym, ap, ◌∙◌, ◌+◌, ◌≤◌, ℕ, Bool, true, false, not, ◌&&◌, ℤ, List, [], ◌∷◌, ◌++◌, Option, Some, None, arith, append_assoc, cond, length, length-append, ap₂, subst, ◌⊎◌, inl, inr}
use Rattle.std.specs.Prelude.{if◌then◌else◌, filter}
use Rattle.std.proofs.lemmas.Bool.Decides.{nat_tests}
use Rattle.std.proofs.lemmas.List.Elements.{filter-append}
use Rattle.base_names.specs.declared.node.NodeLine.{NodeLine}
use Rattle.base_names.specs.declared.node.NodeNo.{NodeNo}
use Rattle.base_names.specs.declared.node.Placed.{Placed}
use Rattle.cluster_defs.specs.Cluster.{Node, Waiting}
use Rattle.cluster_defs.specs.Placement.{all_dequeued, best_node, dequeue, has_room, is_alive, may_run, occupied, places, roomier}
use Rattle.cluster_defs.specs.Waiters.{is_node, is_waiter}
use Rattle.cluster_laws.proofs.Rule.{none_later}
use Rattle.cluster_laws.proofs.Waiters.{waiter_refl}
use Rattle.node_sched.specs.Schedule.{InOrder, Schedule, UrgentFirst, best_of, first_of, is_urgent, line_of, lines, lines_of, next_of, place, placing, priority_in, running_at, settled, times_waiting}

-- ---- where a job may run is where its class may

room_in : (b : Bool) (p : ℤ) (n : NodeLine) → is_urgent p ≡ b → has_room p n ≡ has_room (priority_in b) n
room_in true p n class = rw (class, has_room)
room_in false p n class = rw (class, has_room)

best_if : (b c : Bool) (n : NodeLine) (x y : Option NodeLine) → b ≡ c → x ≡ y → (if b then Some (roomier n x) else x) ≡ (if c then Some (roomier n y) else y)
best_if b c n x y same rest = ap₂ (λ (t : Bool) (z : Option NodeLine). if t then Some (roomier n z) else z) same rest

pub best_in : (p : ℤ) (u : Bool) (ns : List NodeLine) → is_urgent p ≡ u → best_node p ns ≡ best_of u ns
best_in p u [] class = refl
best_in p u (n ∷ ns) class = best_if (may_run p n) (may_run (priority_in u) n) n (best_node p ns) (best_of u ns) (ap (λ (r : Bool). is_alive n.state && r) (room_in u p n class)) (best_in p u ns class)

-- ---- the head of the list

pub skipped : (w : Waiting) (ws : List Waiting) (ns : List NodeLine) (u : Bool) → is_urgent w.priority ≡ u → best_of u ns ≡ None → places (w ∷ ws) ns ≡ places ws ns
skipped w ws ns u class none = let e : best_node w.priority ns ≡ None = best_in w.priority u ns class ∙ none in rw (e, places)

pub placed_first : (w : Waiting) (ws : List Waiting) (ns : List NodeLine) (n : NodeLine) (u : Bool) → is_urgent w.priority ≡ u → best_of u ns ≡ Some n → places (w ∷ ws) ns ≡ record { waiter = w.waiter; node = n.node } ∷ places ws (occupied n.node ns)
placed_first w ws ns n u class some = let e : best_node w.priority ns ≡ Some n = best_in w.priority u ns class ∙ some in rw (e, places)

-- ---- a waiter that waits once

kept_here : {A : Type 0} (b : Bool) (x : A) (xs ys zs : List A) → length (cond b (x ∷ zs) zs) ≡ 0 → (length zs ≡ 0 → ys ≡ xs) → cond (not b) (x ∷ ys) ys ≡ x ∷ xs
kept_here true x xs ys zs none rest = absurd (omega (arith, none))
kept_here false x xs ys zs none rest = ap (λ (l : List _). x ∷ l) (rest none)

-- where none passes, all the others are all
pub all_others : {A : Type 0} (p : A → Bool) (xs : List A) → length (filter p xs) ≡ 0 → filter (λ x. not (p x)) xs ≡ xs
all_others p [] none = refl
all_others p (x ∷ xs) none = kept_here (p x) x xs (filter (λ y. not (p y)) xs) (filter p xs) none (all_others p xs)

gone_here : {A : Type 0} (b : Bool) (x : A) (xs ys zs : List A) → b ≡ true → length (cond b (x ∷ zs) zs) ≤ 1 → (length zs ≡ 0 → ys ≡ xs) → cond (not b) (x ∷ ys) ys ≡ xs
gone_here true x xs ys zs passes once rest = rest (omega (arith, once))
gone_here false x xs ys zs passes once rest = absurd (grind (arith, passes))

-- where the first passes, and no other, the others are the rest
pub rest_others : {A : Type 0} (p : A → Bool) (x : A) (xs : List A) → p x ≡ true → length (filter p (x ∷ xs)) ≤ 1 → filter (λ y. not (p y)) (x ∷ xs) ≡ xs
rest_others p x xs passes once = gone_here (p x) x xs (filter (λ y. not (p y)) xs) (filter p xs) passes once (all_others p xs)

pub dequeue_first : (w : Waiting) (ws : List Waiting) → times_waiting w.waiter (w ∷ ws) ≤ 1 → dequeue w.waiter (w ∷ ws) ≡ ws
dequeue_first w ws once = rest_others (λ (v : Waiting). is_waiter w.waiter v.waiter) w ws (waiter_refl w.waiter) once

fewer_here : {A : Type 0} (b : Bool) (x : A) (zs : List A) → length (cond b (x ∷ zs) zs) ≤ 1 → length zs ≤ 1
fewer_here true x zs once = omega (arith, once)
fewer_here false x zs once = once

pub fewer : {A : Type 0} (p : A → Bool) (x : A) (xs : List A) → length (filter p (x ∷ xs)) ≤ 1 → length (filter p xs) ≤ 1
fewer p x xs once = fewer_here (p x) x (filter p xs) once

-- ---- the first of a class

class_of : (w : Waiting) (u : Bool) → (if u then is_urgent w.priority else not (is_urgent w.priority)) ≡ true → is_urgent w.priority ≡ u
class_of w true h = h
class_of w false h = grind (arith, h)

other_class : (w : Waiting) (u : Bool) → (if u then is_urgent w.priority else not (is_urgent w.priority)) ≡ false → is_urgent w.priority ≡ not u
other_class w true h = h
other_class w false h = grind (arith, h)

some_is : {A : Type 0} (x y : A) → Some x ≡ Some y → x ≡ y
some_is x y h = cc

placed_of : Waiting → NodeLine → Placed
placed_of w n = record { waiter = w.waiter; node = n.node }

found_first : (v w : Waiting) (vs : List Waiting) (ns : List NodeLine) (n : NodeLine) (u : Bool) → v ≡ w → is_urgent v.priority ≡ u → best_of u ns ≡ Some n → times_waiting w.waiter (v ∷ vs) ≤ 1
    → places (v ∷ vs) ns ≡ record { waiter = w.waiter; node = n.node } ∷ places (dequeue w.waiter (v ∷ vs)) (occupied n.node ns)
found_first v w vs ns n u same class best once =
    let e : dequeue w.waiter (v ∷ vs) ≡ vs = subst (λ (x : Waiting). times_waiting x.waiter (v ∷ vs) ≤ 1 → dequeue x.waiter (v ∷ vs) ≡ vs) same (dequeue_first v vs) once in
    placed_first v vs ns n u class best
    ∙ ap₂ (λ (x : Waiting) (l : List Waiting). (record { waiter = x.waiter; node = n.node }) ∷ places l (occupied n.node ns)) same (sym e)

kept_or_not : (b : Bool) (v : Waiting) (vs : List Waiting) (ns : List NodeLine) → places (v ∷ vs) ns ≡ places vs ns → places (cond (not b) (v ∷ vs) vs) ns ≡ places vs ns
kept_or_not true v vs ns skip = refl
kept_or_not false v vs ns skip = skip

found_later : (v w : Waiting) (vs : List Waiting) (ns : List NodeLine) (n : NodeLine) (u : Bool) → is_urgent v.priority ≡ not u → best_of (not u) ns ≡ None
    → places vs ns ≡ record { waiter = w.waiter; node = n.node } ∷ places (dequeue w.waiter vs) (occupied n.node ns)
    → places (v ∷ vs) ns ≡ record { waiter = w.waiter; node = n.node } ∷ places (dequeue w.waiter (v ∷ vs)) (occupied n.node ns)
found_later v w vs ns n u class none rest =
    skipped v vs ns (not u) class none
    ∙ rest
    ∙ ap (λ (l : List Placed). (record { waiter = w.waiter; node = n.node }) ∷ l)
    (sym (kept_or_not (is_waiter w.waiter v.waiter) v (dequeue w.waiter vs) (occupied n.node ns) (skipped v (dequeue w.waiter vs) (occupied n.node ns) (not u) class (none_later (priority_in (not u)) n.node ns none))))

by_class : (b : Bool) (v w : Waiting) (vs : List Waiting) (ns : List NodeLine) (n : NodeLine) (u : Bool) → (if u then is_urgent v.priority else not (is_urgent v.priority)) ≡ b → cond b (Some v) (first_of u vs) ≡ Some w → best_of u ns ≡ Some n
    → (b ≡ false → best_of (not u) ns ≡ None) → times_waiting w.waiter (v ∷ vs) ≤ 1
    → (first_of u vs ≡ Some w → places vs ns ≡ record { waiter = w.waiter; node = n.node } ∷ places (dequeue w.waiter vs) (occupied n.node ns))
    → places (v ∷ vs) ns ≡ record { waiter = w.waiter; node = n.node } ∷ places (dequeue w.waiter (v ∷ vs)) (occupied n.node ns)
by_class true v w vs ns n u is first best none once rest = found_first v w vs ns n u (some_is v w first) (class_of v u is) best once
by_class false v w vs ns n u is first best none once rest = found_later v w vs ns n u (other_class v u is) (none refl) (rest first)

-- where the other class finds no node, the first of this class is the next
pub class_next : (ws : List Waiting) (w : Waiting) (ns : List NodeLine) (n : NodeLine) (u : Bool) → first_of u ws ≡ Some w → best_of u ns ≡ Some n → best_of (not u) ns ≡ None → times_waiting w.waiter ws ≤ 1
    → places ws ns ≡ record { waiter = w.waiter; node = n.node } ∷ places (dequeue w.waiter ws) (occupied n.node ns)
class_next [] w ns n u first best none once = absurd (grind (arith, first))
class_next (v ∷ vs) w ns n u first best none once =
    by_class (if u then is_urgent v.priority else not (is_urgent v.priority)) v w vs ns n u refl first best (λ _. none) once
    (λ later. class_next vs w ns n u later best none (fewer (λ (x : Waiting). is_waiter w.waiter x.waiter) v vs once))

urgent_by : (b : Bool) (v w : Waiting) (vs : List Waiting) (ns : List NodeLine) (n : NodeLine) → is_urgent v.priority ≡ b → (b ≡ false → first_of true vs ≡ None) → cond b (Some v) (first_of true vs) ≡ Some w → best_of true ns ≡ Some n → times_waiting w.waiter (v ∷ vs) ≤ 1
    → places (v ∷ vs) ns ≡ record { waiter = w.waiter; node = n.node } ∷ places (dequeue w.waiter (v ∷ vs)) (occupied n.node ns)
urgent_by true v w vs ns n is ordered first best once = found_first v w vs ns n true (some_is v w first) is best once
urgent_by false v w vs ns n is ordered first best once = absurd (let e : None ≡ Some w = sym (ordered refl) ∙ first in cc)

-- the first of priority 100 is the next where a node takes it
pub urgent_next : (ws : List Waiting) (w : Waiting) (ns : List NodeLine) (n : NodeLine) → UrgentFirst ws → first_of true ws ≡ Some w → best_of true ns ≡ Some n → times_waiting w.waiter ws ≤ 1
    → places ws ns ≡ record { waiter = w.waiter; node = n.node } ∷ places (dequeue w.waiter ws) (occupied n.node ns)
urgent_next [] w ns n ordered first best once = absurd (grind (arith, first))
urgent_next (v ∷ vs) w ns n ordered first best once = urgent_by (is_urgent v.priority) v w vs ns n refl ordered.0 first best once

ordinary_by : (b : Bool) (v w : Waiting) (vs : List Waiting) (ns : List NodeLine) (n : NodeLine) → is_urgent v.priority ≡ b → cond b (Some v) (first_of true vs) ≡ None → cond (not b) (Some v) (first_of false vs) ≡ Some w → best_of false ns ≡ Some n → times_waiting w.waiter (v ∷ vs) ≤ 1
    → places (v ∷ vs) ns ≡ record { waiter = w.waiter; node = n.node } ∷ places (dequeue w.waiter (v ∷ vs)) (occupied n.node ns)
ordinary_by true v w vs ns n is urgent first best once = absurd (cc)
ordinary_by false v w vs ns n is urgent first best once = found_first v w vs ns n false (some_is v w first) is best once

-- where no urgent one waits, the first is the next
pub ordinary_next : (ws : List Waiting) (w : Waiting) (ns : List NodeLine) (n : NodeLine) → first_of true ws ≡ None → first_of false ws ≡ Some w → best_of false ns ≡ Some n → times_waiting w.waiter ws ≤ 1
    → places ws ns ≡ record { waiter = w.waiter; node = n.node } ∷ places (dequeue w.waiter ws) (occupied n.node ns)
ordinary_next [] w ns n urgent first best once = absurd (grind (arith, first))
ordinary_next (v ∷ vs) w ns n urgent first best once = ordinary_by (is_urgent v.priority) v w vs ns n refl urgent first best once

-- ---- none may run

abbrev pub IsStuck : Bool → List Waiting → List NodeLine → Type 0
IsStuck u ws ns = (first_of u ws ≡ None) ⊎ (best_of u ns ≡ None)

none_by : (b : Bool) (v : Waiting) (vs : List Waiting) (ns : List NodeLine) → is_urgent v.priority ≡ b → (cond b (Some v) (first_of true vs) ≡ None) ⊎ (best_of true ns ≡ None) → (cond (not b) (Some v) (first_of false vs) ≡ None) ⊎ (best_of false ns ≡ None)
    → (IsStuck true vs ns → IsStuck false vs ns → places vs ns ≡ []) → places (v ∷ vs) ns ≡ []
none_by true v vs ns is (inl none) ordinary rest = absurd (cc)
none_by true v vs ns is (inr none) ordinary rest = skipped v vs ns true is none ∙ rest (inr none) ordinary
none_by false v vs ns is urgent (inl none) rest = absurd (cc)
none_by false v vs ns is urgent (inr none) rest = skipped v vs ns false is none ∙ rest urgent (inr none)

pub none_next : (ws : List Waiting) (ns : List NodeLine) → IsStuck true ws ns → IsStuck false ws ns → places ws ns ≡ []
none_next [] ns urgent ordinary = refl
none_next (v ∷ vs) ns urgent ordinary = none_by (is_urgent v.priority) v vs ns refl urgent ordinary (none_next vs ns)

-- ---- one more that runs

node_flips : (a b : NodeNo) → is_node a b ≡ is_node b a
unfolding is_node
node_flips a b = grind (arith, nat_tests)

added_at : (b : Bool) (x : Placed) (n : ℕ) → n + length (cond b (x ∷ []) []) ≡ (if b then n + 1 else n)
added_at true x n = omega arith
added_at false x n = omega arith

pub running_push : (node : NodeNo) (ps : List Placed) (p : Placed) → running_at node (ps ++ p ∷ []) ≡ (if is_node node p.node then running_at node ps + 1 else running_at node ps)
running_push node ps p =
    ap (λ (l : List Placed). length l) (filter-append (λ (q : Placed). is_node node q.node) ps (p ∷ []))
    ∙ length-append (filter (λ (q : Placed). is_node node q.node) ps) (filter (λ (q : Placed). is_node node q.node) (p ∷ []))
    ∙ added_at (is_node node p.node) p (running_at node ps)

line_if : (b : Bool) (ps : List Placed) (n : Node) (k : ℕ) → k ≡ (if b then running_at n.node ps + 1 else running_at n.node ps)
    → record { node = n.node; state = n.state; limit = n.limit; hard = n.hard; running = k } ≡ (if b then record (line_of ps n) { running = running_at n.node ps + 1 } else line_of ps n)
line_if true ps n k is = ap (λ (x : ℕ). record (line_of ps n) { running = x }) is
line_if false ps n k is = ap (λ (x : ℕ). record (line_of ps n) { running = x }) is

pub lines_push : (ps : List Placed) (p : Placed) (ns : List Node) → lines_of (ps ++ p ∷ []) ns ≡ occupied p.node (lines_of ps ns)
lines_push ps p [] = refl
lines_push ps p (n ∷ ns) = ap₂ (λ (x : NodeLine) (xs : List NodeLine). x ∷ xs)
    (line_if (is_node p.node n.node) ps n (running_at n.node (ps ++ p ∷ [])) (running_push n.node ps p ∙ ap (λ (b : Bool). if b then running_at n.node ps + 1 else running_at n.node ps) (node_flips n.node p.node)))
    (lines_push ps p ns)

-- ---- the rule, one place at a time

pub record Chosen (first : Option Waiting) (best : Option NodeLine) (p : Placed) : Type 0 where
  pub waiting : Waiting
  pub line : NodeLine
  pub first_is : first ≡ Some waiting
  pub best_is : best ≡ Some line
  pub placed : p ≡ record { waiter = waiting.waiter; node = line.node }

pub chosen : (first : Option Waiting) (best : Option NodeLine) (p : Placed) → placing first best ≡ Some p → Chosen first best p
chosen None best p is = absurd (cc)
chosen (Some w) None p is = absurd (cc)
chosen (Some w) (Some n) p is = record { waiting = w; line = n; first_is = refl; best_is = refl; placed = let e : Some p ≡ Some record { waiter = w.waiter; node = n.node } = sym is in cc }

pub none_chosen : (first : Option Waiting) (best : Option NodeLine) → placing first best ≡ None → (first ≡ None) ⊎ (best ≡ None)
none_chosen None best is = inl refl
none_chosen (Some w) None is = inr refl
none_chosen (Some w) (Some n) is = absurd (cc)

then_placed : (s : Schedule) (p : Placed) (w : Waiting) (n : NodeLine) → p ≡ record { waiter = w.waiter; node = n.node } → place s ≡ record { waiter = w.waiter; node = n.node } ∷ places (dequeue w.waiter s.waiting) (occupied n.node (lines s)) → place s ≡ p ∷ place (settled (p ∷ []) s)
then_placed s p w n is by =
    by
    ∙ ap (λ (q : Placed). q ∷ places (dequeue q.waiter s.waiting) (occupied q.node (lines s))) (sym is)
    ∙ ap (λ (ls : List NodeLine). p ∷ places (dequeue p.waiter s.waiting) ls) (sym (lines_push s.running p s.nodes))

pub next_urgent : (s : Schedule) (p : Placed) → InOrder s → next_of true s ≡ Some p → place s ≡ p ∷ place (settled (p ∷ []) s)
next_urgent s p ok is =
    let c = chosen (first_of true s.waiting) (best_of true (lines s)) p is in
    then_placed s p c.waiting c.line c.placed (urgent_next s.waiting c.waiting (lines s) c.line ok.urgent_first c.first_is c.best_is (ok.once c.waiting.waiter))

ordinary_stuck : (s : Schedule) (w : Waiting) (n : NodeLine) → IsStuck true s.waiting (lines s) → first_of false s.waiting ≡ Some w → best_of false (lines s) ≡ Some n → times_waiting w.waiter s.waiting ≤ 1
    → place s ≡ record { waiter = w.waiter; node = n.node } ∷ places (dequeue w.waiter s.waiting) (occupied n.node (lines s))
ordinary_stuck s w n (inl none) first best once = ordinary_next s.waiting w (lines s) n none first best once
ordinary_stuck s w n (inr none) first best once = class_next s.waiting w (lines s) n false first best none once

pub next_ordinary : (s : Schedule) (p : Placed) → InOrder s → next_of true s ≡ None → next_of false s ≡ Some p → place s ≡ p ∷ place (settled (p ∷ []) s)
next_ordinary s p ok stuck is =
    let c = chosen (first_of false s.waiting) (best_of false (lines s)) p is in
    then_placed s p c.waiting c.line c.placed (ordinary_stuck s c.waiting c.line (none_chosen (first_of true s.waiting) (best_of true (lines s)) stuck) c.first_is c.best_is (ok.once c.waiting.waiter))

pub next_none : (s : Schedule) → next_of true s ≡ None → next_of false s ≡ None → place s ≡ []
next_none s urgent ordinary = none_next s.waiting (lines s) (none_chosen (first_of true s.waiting) (best_of true (lines s)) urgent) (none_chosen (first_of false s.waiting) (best_of false (lines s)) ordinary)

-- making all placements is making the first, and then the others
pub settled_more : (p : Placed) (ps : List Placed) (s : Schedule) → settled (p ∷ ps) s ≡ settled ps (settled (p ∷ []) s)
settled_more p ps s = ap (λ (running : List Placed). record s { waiting = all_dequeued (p ∷ ps) s.waiting; running = running }) (sym (append_assoc s.running (p ∷ []) ps))
