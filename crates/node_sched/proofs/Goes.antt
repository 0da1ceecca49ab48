-- What runs and waits, when a waiter is placed or goes.
use Rattle.std.proofs.Common.{◌≡◌, refl, sym, ap, ◌∙◌, ◌+◌, ◌-◌, ◌≤◌, ℕ, Bool, true, false, not, List, [], ◌∷◌, ◌++◌, Option, Some, arith, cond, length, length-append, subst, true≢false, suc}
use Rattle.std.specs.List.{AllByRecursion}
use Rattle.std.specs.Prelude.{if◌then◌else◌, option_map, filter, find, int_le}
use Rattle.std.proofs.lemmas.List.Elements.{filter-append}
use Rattle.base_names.specs.declared.node.NodeLine.{NodeLine}
use Rattle.base_names.specs.declared.node.NodeNo.{NodeNo}
use Rattle.base_names.specs.declared.node.NodeState.TheVariants.{Failed}
use Rattle.base_names.specs.declared.node.Placed.{Placed}
use Rattle.base_names.specs.declared.node.Waiter.{Waiter}
use Rattle.table_defs.specs.Lists.{changed}
use Rattle.cluster_defs.specs.Cluster.{Node, Waiting}
use Rattle.cluster_defs.specs.Placement.{dequeue, enqueue, occupied}
use Rattle.cluster_defs.specs.Waiters.{is_node, is_waiter}
use Rattle.cluster_laws.proofs.Waiters.{waiter_refl}
use Rattle.node_sched.specs.Counts.{AreCounted, IsNumber, nodes_of, unlisted}
use Rattle.node_sched.specs.Runs.{Runs, node_of, without_node, without_waiter}
use Rattle.node_sched.specs.Schedule.{best_of, first_of, is_urgent, line_of, lines_of, running_at, times_running, times_waiting}
use Rattle.node_sched.proofs.Counts.{best_number, counted_changed, length_changed, node_is, node_same, numbered_changed}
use Rattle.node_sched.proofs.Rule.{all_others, running_push}
use Rattle.node_sched.proofs.Tests.{waiter_is}
use Rattle.node_sched.proofs.Turns.{all_filtered, filter_less, times_enqueued}

-- ---- counts of what runs without a waiter, or elsewhere

node_flip : (a b : NodeNo) (x y : Bool) → is_node a b ≡ x → is_node b a ≡ y → x ≡ y
node_flip a b true true p q = refl
node_flip a b false false p q = refl
node_flip a b true false p q = absurd (true≢false (sym (node_is b a (sym (node_same a b p))) ∙ q))
node_flip a b false true p q = absurd (true≢false (sym (node_is a b (sym (node_same b a q))) ∙ p))

pub node_flips : (a b : NodeNo) → is_node a b ≡ is_node b a
node_flips a b = node_flip a b (is_node a b) (is_node b a) refl refl

node_through_by : (x y : Bool) (a b n : NodeNo) → is_node a b ≡ true → is_node n a ≡ x → is_node n b ≡ y → x ≡ y
node_through_by true true a b n same p q = refl
node_through_by false false a b n same p q = refl
node_through_by true false a b n same p q = absurd (true≢false (sym (node_is n b (node_same n a p ∙ node_same a b same)) ∙ q))
node_through_by false true a b n same p q = absurd (true≢false (sym (node_is n a (node_same n b q ∙ sym (node_same a b same))) ∙ p))

-- one node's test is another's
node_through : (a b n : NodeNo) → is_node a b ≡ true → is_node n a ≡ is_node n b
node_through a b n same = node_through_by (is_node n a) (is_node n b) a b n same refl refl

none_of : {A : Type 0} (b : Bool) (x : A) (zs : List A) → length (cond b (x ∷ zs) zs) ≤ 1 → b ≡ true → length zs ≡ 0
none_of true x zs once is = omega (arith, once)
none_of false x zs once is = absurd (cc)

fewer_of : {A : Type 0} (b : Bool) (x : A) (zs : List A) → length (cond b (x ∷ zs) zs) ≤ 1 → length zs ≤ 1
fewer_of true x zs once = omega (arith, once)
fewer_of false x zs once = once

node_head : (b : Bool) (p : Placed) (rest : Option Placed) (node : NodeNo) → option_map (λ (q : Placed). q.node) (cond b (Some p) rest) ≡ Some node → b ≡ true → p.node ≡ node
node_head true p rest node is there = cc
node_head false p rest node is there = absurd (cc)

node_tail : (b : Bool) (p : Placed) (rest : Option Placed) (node : NodeNo) → option_map (λ (q : Placed). q.node) (cond b (Some p) rest) ≡ Some node → b ≡ false → option_map (λ (q : Placed). q.node) rest ≡ Some node
node_tail true p rest node is there = absurd (cc)
node_tail false p rest node is there = is

-- by the tests whether the head is the waiter (a), and stands on node n (b); c: whether the waiter's node is n
less_here : (a b c : Bool) (x : Placed) (ps qs : List Placed) (k : ℕ) → (a ≡ true → qs ≡ ps) → (a ≡ true → b ≡ c) → (a ≡ false → length qs ≡ (if c then k - 1 else k)) → (a ≡ false → c ≡ true → 1 ≤ k) → length ps ≡ k
    → length (if a then qs else cond b (x ∷ qs) qs) ≡ (if c then length (cond b (x ∷ ps) ps) - 1 else length (cond b (x ∷ ps) ps))
less_here true true true x ps qs k here same later some is = let e : length qs ≡ length ps = ap (λ (l : List Placed). length l) (here refl) in omega (arith, e)
less_here true true false x ps qs k here same later some is = absurd (let e : true ≡ false = same refl in cc)
less_here true false true x ps qs k here same later some is = absurd (let e : false ≡ true = same refl in cc)
less_here true false false x ps qs k here same later some is = ap (λ (l : List Placed). length l) (here refl)
less_here false true true x ps qs k here same later some is = omega (arith, later refl, some refl refl, is)
less_here false true false x ps qs k here same later some is = omega (arith, later refl, is)
less_here false false true x ps qs k here same later some is = omega (arith, later refl, is)
less_here false false false x ps qs k here same later some is = omega (arith, later refl, is)

filter_cond : (p : Placed → Bool) (a : Bool) (x : Placed) (qs : List Placed) → length (filter p (cond (not a) (x ∷ qs) qs)) ≡ length (if a then filter p qs else cond (p x) (x ∷ filter p qs) (filter p qs))
filter_cond p true x qs = refl
filter_cond p false x qs = refl

some_here : (a b c : Bool) (x : Placed) (ps : List Placed) → (a ≡ true → b ≡ c) → (a ≡ false → c ≡ true → 1 ≤ length ps) → c ≡ true → 1 ≤ length (cond b (x ∷ ps) ps)
some_here a true c x ps same later is = omega arith
some_here true false c x ps same later is = absurd (let e : false ≡ c = same refl in cc)
some_here false false c x ps same later is = later refl is

-- it is counted where it runs
pub counted_there : (w : Waiter) (node n : NodeNo) (ps : List Placed) → node_of w ps ≡ Some node → is_node n node ≡ true → 1 ≤ running_at n ps
counted_there w node n [] is there = absurd (cc)
counted_there w node n (p ∷ ps) is there =
    some_here (is_waiter w p.waiter) (is_node n p.node) (is_node n node) p (filter (λ (q : Placed). is_node n q.node) ps)
    (λ here. ap (λ (x : NodeNo). is_node n x) (node_head (is_waiter w p.waiter) p (find (λ (q : Placed). is_waiter w q.waiter) ps) node is here))
    (λ later yes'. counted_there w node n ps (node_tail (is_waiter w p.waiter) p (find (λ (q : Placed). is_waiter w q.waiter) ps) node is later) yes')
    there

pub running_without : (w : Waiter) (node n : NodeNo) (ps : List Placed) → node_of w ps ≡ Some node → times_running w ps ≤ 1 → running_at n (without_waiter w ps) ≡ (if is_node n node then running_at n ps - 1 else running_at n ps)
running_without w node n [] is once = absurd (cc)
running_without w node n (p ∷ ps) is once =
    filter_cond (λ (q : Placed). is_node n q.node) (is_waiter w p.waiter) p (without_waiter w ps)
    ∙ less_here (is_waiter w p.waiter) (is_node n p.node) (is_node n node) p (filter (λ (q : Placed). is_node n q.node) ps) (filter (λ (q : Placed). is_node n q.node) (without_waiter w ps)) (running_at n ps)
    (λ here. ap (filter (λ (q : Placed). is_node n q.node)) (all_others (λ (q : Placed). is_waiter w q.waiter) ps (none_of (is_waiter w p.waiter) p (filter (λ (q : Placed). is_waiter w q.waiter) ps) once here)))
    (λ here. ap (λ (x : NodeNo). is_node n x) (node_head (is_waiter w p.waiter) p (find (λ (q : Placed). is_waiter w q.waiter) ps) node is here))
    (λ later. running_without w node n ps (node_tail (is_waiter w p.waiter) p (find (λ (q : Placed). is_waiter w q.waiter) ps) node is later) (fewer_of (is_waiter w p.waiter) p (filter (λ (q : Placed). is_waiter w q.waiter) ps) once))
    (λ later there. counted_there w node n ps (node_tail (is_waiter w p.waiter) p (find (λ (q : Placed). is_waiter w q.waiter) ps) node is later) there)
    refl

-- by the tests whether the head runs on the node that goes (a), and on n (b); c: whether n is that node
gone_here : (a b c : Bool) (x : Placed) (ps qs : List Placed) → (a ≡ true → b ≡ c) → (b ≡ true → c ≡ true → a ≡ true) → length qs ≡ (if c then 0 else length ps)
    → length (if a then qs else cond b (x ∷ qs) qs) ≡ (if c then 0 else length (cond b (x ∷ ps) ps))
gone_here true true true x ps qs same both is = is
gone_here true true false x ps qs same both is = absurd (let e : true ≡ false = same refl in cc)
gone_here true false true x ps qs same both is = absurd (let e : false ≡ true = same refl in cc)
gone_here true false false x ps qs same both is = is
gone_here false true true x ps qs same both is = absurd (let e : false ≡ true = both refl refl in cc)
gone_here false true false x ps qs same both is = omega (arith, is)
gone_here false false true x ps qs same both is = is
gone_here false false false x ps qs same both is = is

zero_either : (b : Bool) → ◌≡◌ {A = ℕ} 0 (if b then 0 else 0)
zero_either true = refl
zero_either false = refl

pub running_without_node : (node n : NodeNo) (ps : List Placed) → running_at n (without_node node ps) ≡ (if is_node n node then 0 else running_at n ps)
running_without_node node n [] = zero_either (is_node n node)
running_without_node node n (p ∷ ps) =
    filter_cond (λ (q : Placed). is_node n q.node) (is_node node p.node) p (without_node node ps)
    ∙ gone_here (is_node node p.node) (is_node n p.node) (is_node n node) p (filter (λ (q : Placed). is_node n q.node) ps) (filter (λ (q : Placed). is_node n q.node) (without_node node ps))
    (λ here. sym (node_through node p.node n here))
    (λ at there. node_is node p.node (sym (node_same n node there) ∙ node_same n p.node at))
    (running_without_node node n ps)

-- ---- counts of waiters

some_if : {A : Type 0} (b : Bool) (x : A) (zs : List A) → b ≡ true → 1 ≤ length (cond b (x ∷ zs) zs)
some_if true x zs is = omega arith
some_if false x zs is = absurd (cc)

more_if : {A : Type 0} (b : Bool) (x : A) (zs : List A) → 1 ≤ length zs → 1 ≤ length (cond b (x ∷ zs) zs)
more_if true x zs is = omega arith
more_if false x zs is = is

one_if : {A : Type 0} (b : Bool) (x : A) → length (cond b (x ∷ []) []) ≡ (if b then 1 else 0)
one_if true x = refl
one_if false x = refl

first_here : (b : Bool) (v x : Waiting) (rest : Option Waiting) (zs : List Waiting) → cond b (Some v) rest ≡ Some x → (rest ≡ Some x → 1 ≤ length (filter (λ (y : Waiting). is_waiter x.waiter y.waiter) zs)) → 1 ≤ length (cond (is_waiter x.waiter v.waiter) (v ∷ filter (λ (y : Waiting). is_waiter x.waiter y.waiter) zs) (filter (λ (y : Waiting). is_waiter x.waiter y.waiter) zs))
first_here true v x rest zs is later = some_if (is_waiter x.waiter v.waiter) v (filter (λ (y : Waiting). is_waiter x.waiter y.waiter) zs) (let e : v ≡ x = (let h : Some v ≡ Some x = is in cc) in subst (λ (y : Waiting). is_waiter x.waiter y.waiter ≡ true) (sym e) (waiter_refl x.waiter))
first_here false v x rest zs is later = more_if (is_waiter x.waiter v.waiter) v (filter (λ (y : Waiting). is_waiter x.waiter y.waiter) zs) (later is)

-- the first of a class waits
pub first_waits : (u : Bool) (x : Waiting) (ws : List Waiting) → first_of u ws ≡ Some x → 1 ≤ times_waiting x.waiter ws
first_waits u x [] is = absurd (cc)
first_waits u x (v ∷ ws) is = first_here (if u then is_urgent v.priority else not (is_urgent v.priority)) v x (first_of u ws) ws is (first_waits u x ws)

split_here : {A : Type 0} (b : Bool) (x : A) (ys zs : List A) (n : ℕ) → length ys + length zs ≡ n → length (cond (not b) (x ∷ ys) ys) + length (cond b (x ∷ zs) zs) ≡ suc n
split_here true x ys zs n is = omega (arith, is)
split_here false x ys zs n is = omega (arith, is)

-- what passes and the others are all
pub split_length : {A : Type 0} (p : A → Bool) (xs : List A) → length (filter (λ x. not (p x)) xs) + length (filter p xs) ≡ length xs
split_length p [] = refl
split_length p (x ∷ xs) = split_here (p x) x (filter (λ y. not (p y)) xs) (filter p xs) (length xs) (split_length p xs)

drop_here : {A : Type 0} (p : A → Bool) (b : Bool) (x : A) (ys : List A) → p x ≡ b → length (filter p ys) ≡ 0 → length (filter p (cond (not b) (x ∷ ys) ys)) ≡ 0
drop_here p true x ys is none = none
drop_here p false x ys is none = subst (λ (c : Bool). length (cond c (x ∷ filter p ys) (filter p ys)) ≡ 0) (sym is) none

-- none of the others passes
pub none_pass : {A : Type 0} (p : A → Bool) (xs : List A) → length (filter p (filter (λ x. not (p x)) xs)) ≡ 0
none_pass p [] = refl
none_pass p (x ∷ xs) = drop_here p (p x) x (filter (λ y. not (p y)) xs) refl (none_pass p xs)

pub times_pushed : (v : Waiter) (ps : List Placed) (p : Placed) → times_running v (ps ++ p ∷ []) ≡ times_running v ps + (if is_waiter v p.waiter then 1 else 0)
times_pushed v ps p =
    ap (λ (l : List Placed). length l) (filter-append (λ (q : Placed). is_waiter v q.waiter) ps (p ∷ []))
    ∙ length-append (filter (λ (q : Placed). is_waiter v q.waiter) ps) (filter (λ (q : Placed). is_waiter v q.waiter) (p ∷ []))
    ∙ ap (λ n. times_running v ps + n) (one_if (is_waiter v p.waiter) p)

once_placed : (b : Bool) (v w : Waiter) (ws : List Waiting) (ps : List Placed) (t : ℕ) → is_waiter v w ≡ b → 1 ≤ times_waiting w ws → ((x : Waiter) → times_waiting x ws + times_running x ps ≤ 1) → t ≡ times_running v ps + (if b then 1 else 0) → times_waiting v (dequeue w ws) + t ≤ 1
once_placed false v w ws ps t is waits once at = let h : times_waiting v (dequeue w ws) ≤ times_waiting v ws = filter_less (λ (x : Waiting). is_waiter v x.waiter) (λ (x : Waiting). not (is_waiter w x.waiter)) ws in omega (arith, h, once v, at)
once_placed true v w ws ps t is waits once at =
    let e : v ≡ w = waiter_is v w is in
    let none : times_waiting v (dequeue w ws) ≡ 0 = subst (λ (x : Waiter). times_waiting x (dequeue w ws) ≡ 0) (sym e) (none_pass (λ (x : Waiting). is_waiter w x.waiter) ws) in
    let h : 1 ≤ times_waiting v ws = subst (λ (x : Waiter). 1 ≤ times_waiting x ws) (sym e) waits in
    omega (arith, none, h, once v, at)

-- ---- what is kept

appended : (P : Placed → Type 0) (ps : List Placed) (p : Placed) → AllByRecursion P ps → P p → AllByRecursion P (ps ++ p ∷ [])
appended P [] p all here = (here, tt)
appended P (q ∷ ps) p all here = (all.0, appended P ps p all.1 here)

all_as : (P Q : Placed → Type 0) → ((p : Placed) → P p → Q p) → (ps : List Placed) → AllByRecursion P ps → AllByRecursion Q ps
all_as P Q so [] all = tt
all_as P Q so (p ∷ ps) all = (so p all.0, all_as P Q so ps all.1)

still_there : (t : NodeLine → Bool) (f : NodeLine → NodeLine) (ls : List NodeLine) (ps : List Placed) → AllByRecursion (λ p. IsNumber (length ls) p.node) ps → AllByRecursion (λ p. IsNumber (length (changed t f ls)) p.node) ps
still_there t f ls ps all = subst (λ n. AllByRecursion (λ p. IsNumber n p.node) ps) (sym (length_changed t f ls)) all

running_is : (ps ps' : List Placed) (n : Node) (k : ℕ) → running_at n.node ps' ≡ k → line_of ps' n ≡ record (line_of ps n) { running = k }
running_is ps ps' n k is = ap (λ (x : ℕ). record (line_of ps n) { running = x }) is

pub kept_placed : (ws : List Waiting) (rs rs' : Runs) (ls : List NodeLine) (w : Waiter) (line : NodeLine) (u : Bool) → AreCounted ws rs ls → 1 ≤ times_waiting w ws → best_of u ls ≡ Some line → rs'.placed ≡ rs.placed ++ record { waiter = w; node = line.node } ∷ [] → rs.room ≤ rs'.room + 1 → AreCounted (dequeue w ws) rs' (occupied line.node ls)
kept_placed ws rs rs' ls w line u ok waits best is room =
    let p : Placed = record { waiter = w; node = line.node } in
    record {
      counted = counted_changed (is_node line.node) (λ (l : NodeLine). record l { running = l.running + 1 }) (λ n. n) rs.placed rs'.placed (λ l. refl)
          (λ n there. running_is rs.placed rs'.placed n (running_at n.node rs.placed + 1) (ap (running_at n.node) is ∙ running_push n.node rs.placed p ∙ ap (λ (b : Bool). if b then running_at n.node rs.placed + 1 else running_at n.node rs.placed) (node_flips n.node line.node ∙ there)))
          (λ n other. running_is rs.placed rs'.placed n (running_at n.node rs.placed) (ap (running_at n.node) is ∙ running_push n.node rs.placed p ∙ ap (λ (b : Bool). if b then running_at n.node rs.placed + 1 else running_at n.node rs.placed) (node_flips n.node line.node ∙ other)))
          ls ok.counted;
      numbered = numbered_changed (λ l. is_node line.node l.node) (λ (l : NodeLine). record l { running = l.running + 1 }) (λ l. refl) 0 ls ok.numbered;
      placed_there = still_there (λ l. is_node line.node l.node) (λ (l : NodeLine). record l { running = l.running + 1 }) ls rs'.placed
          (subst (AllByRecursion (λ q. IsNumber (length ls) q.node)) (sym is) (appended (λ q. IsNumber (length ls) q.node) rs.placed p ok.placed_there (let h = best_number u 0 ls line ok.numbered best in (omega (arith, h.0), omega (arith, h.1)))));
      once = λ v. once_placed (is_waiter v w) v w ws rs.placed (times_running v rs'.placed) refl waits ok.once (ap (times_running v) is ∙ times_pushed v rs.placed p);
      room = let h = split_length (λ (x : Waiting). is_waiter w x.waiter) ws in omega (arith, h, waits, room, ok.room);
    }

pub kept_gone : (ws : List Waiting) (rs rs' : Runs) (ls : List NodeLine) (w : Waiter) (node : NodeNo) → AreCounted ws rs ls → node_of w rs.placed ≡ Some node → rs'.placed ≡ without_waiter w rs.placed → rs.room ≤ rs'.room → AreCounted ws rs' (changed (λ l. is_node node l.node) (λ l. record l { running = l.running - 1 }) ls)
kept_gone ws rs rs' ls w node ok at is room =
    let once : times_running w rs.placed ≤ 1 = omega (arith, ok.once w) in
    record {
      counted = counted_changed (is_node node) (λ (l : NodeLine). record l { running = l.running - 1 }) (λ n. n) rs.placed rs'.placed (λ l. refl)
          (λ n there. running_is rs.placed rs'.placed n (running_at n.node rs.placed - 1) (ap (running_at n.node) is ∙ running_without w node n.node rs.placed at once ∙ ap (λ (b : Bool). if b then running_at n.node rs.placed - 1 else running_at n.node rs.placed) (node_flips n.node node ∙ there)))
          (λ n other. running_is rs.placed rs'.placed n (running_at n.node rs.placed) (ap (running_at n.node) is ∙ running_without w node n.node rs.placed at once ∙ ap (λ (b : Bool). if b then running_at n.node rs.placed - 1 else running_at n.node rs.placed) (node_flips n.node node ∙ other)))
          ls ok.counted;
      numbered = numbered_changed (λ l. is_node node l.node) (λ (l : NodeLine). record l { running = l.running - 1 }) (λ l. refl) 0 ls ok.numbered;
      placed_there = still_there (λ l. is_node node l.node) (λ (l : NodeLine). record l { running = l.running - 1 }) ls rs'.placed
          (subst (AllByRecursion (λ q. IsNumber (length ls) q.node)) (sym is) (all_filtered (λ q. IsNumber (length ls) q.node) (λ q. not (is_waiter w q.waiter)) rs.placed ok.placed_there));
      once = λ v. let h : times_running v rs'.placed ≤ times_running v rs.placed = subst (λ (l : List Placed). times_running v l ≤ times_running v rs.placed) (sym is) (filter_less (λ (q : Placed). is_waiter v q.waiter) (λ (q : Placed). not (is_waiter w q.waiter)) rs.placed) in omega (arith, h, ok.once v);
      room = omega (arith, ok.room, room);
    }

pub kept_failed : (ws : List Waiting) (rs rs' : Runs) (ls : List NodeLine) (node : NodeNo) → AreCounted ws rs ls → rs'.placed ≡ without_node node rs.placed → rs.room ≤ rs'.room → AreCounted ws rs' (changed (λ l. is_node node l.node) (λ l. record l { state = Failed; running = 0 }) ls)
kept_failed ws rs rs' ls node ok is room =
    record {
      counted = counted_changed (is_node node) (λ (l : NodeLine). record l { state = Failed; running = 0 }) (λ n. record n { state = Failed }) rs.placed rs'.placed (λ l. refl)
          (λ n there. ap (λ (x : ℕ). record (line_of rs.placed n) { state = Failed; running = x }) (ap (running_at n.node) is ∙ running_without_node node n.node rs.placed ∙ ap (λ (b : Bool). if b then 0 else running_at n.node rs.placed) (node_flips n.node node ∙ there)))
          (λ n other. running_is rs.placed rs'.placed n (running_at n.node rs.placed) (ap (running_at n.node) is ∙ running_without_node node n.node rs.placed ∙ ap (λ (b : Bool). if b then 0 else running_at n.node rs.placed) (node_flips n.node node ∙ other)))
          ls ok.counted;
      numbered = numbered_changed (λ l. is_node node l.node) (λ (l : NodeLine). record l { state = Failed; running = 0 }) (λ l. refl) 0 ls ok.numbered;
      placed_there = still_there (λ l. is_node node l.node) (λ (l : NodeLine). record l { state = Failed; running = 0 }) ls rs'.placed
          (subst (AllByRecursion (λ q. IsNumber (length ls) q.node)) (sym is) (all_filtered (λ q. IsNumber (length ls) q.node) (λ q. not (is_node node q.node)) rs.placed ok.placed_there));
      once = λ v. let h : times_running v rs'.placed ≤ times_running v rs.placed = subst (λ (l : List Placed). times_running v l ≤ times_running v rs.placed) (sym is) (filter_less (λ (q : Placed). is_waiter v q.waiter) (λ (q : Placed). not (is_node node q.node)) rs.placed) in omega (arith, h, ok.once v);
      room = omega (arith, ok.room, room);
    }

-- a change of a node that leaves what runs
pub kept_changed : (ws : List Waiting) (rs : Runs) (ls : List NodeLine) (node : NodeNo) (f : NodeLine → NodeLine) (g : Node → Node) → AreCounted ws rs ls → ((l : NodeLine) → unlisted (f l) ≡ g (unlisted l)) → ((l : NodeLine) → (f l).node ≡ l.node) → ((n : Node) → line_of rs.placed (g n) ≡ f (line_of rs.placed n)) → AreCounted ws rs (changed (λ l. is_node node l.node) f ls)
kept_changed ws rs ls node f g ok is stays lines = record {
  counted = counted_changed (is_node node) f g rs.placed rs.placed is (λ n there. lines n) (λ n other. refl) ls ok.counted;
  numbered = numbered_changed (λ l. is_node node l.node) f stays 0 ls ok.numbered;
  placed_there = still_there (λ l. is_node node l.node) f ls rs.placed ok.placed_there;
  once = ok.once;
  room = ok.room;
}

length_if : (b : Bool) (n m : ℕ) (xs ys : List Waiting) → length xs ≡ n → length ys ≡ n → length (if b then xs else ys) ≡ n
length_if true n m xs ys p q = p
length_if false n m xs ys p q = q

length_enqueued : (x : Waiting) (ws : List Waiting) → length (enqueue x ws) ≡ length ws + 1
length_enqueued x [] = refl
length_enqueued x (v ∷ ws) = length_if (int_le x.priority v.priority) (suc (length ws) + 1) 0 (v ∷ enqueue x ws) (x ∷ v ∷ ws) (let h = length_enqueued x ws in omega (arith, h)) (omega arith)

once_come : (b : Bool) (v : Waiter) (x : Waiting) (ws : List Waiting) (ps : List Placed) (t r : ℕ) → is_waiter v x.waiter ≡ b → times_waiting x.waiter ws ≡ 0 → times_running x.waiter ps ≡ 0 → ((y : Waiter) → times_waiting y ws + times_running y ps ≤ 1) → t ≡ (if b then 1 else 0) + times_waiting v ws → r ≡ times_running v ps → t + r ≤ 1
once_come false v x ws ps t r is waits runs once at there = omega (arith, once v, at, there)
once_come true v x ws ps t r is waits runs once at there =
    let e : v ≡ x.waiter = waiter_is v x.waiter is in
    let h : times_waiting v ws ≡ 0 = subst (λ (y : Waiter). times_waiting y ws ≡ 0) (sym e) waits in
    let k : times_running v ps ≡ 0 = subst (λ (y : Waiter). times_running y ps ≡ 0) (sym e) runs in
    omega (arith, h, k, at, there)

pub kept_waits : (ws : List Waiting) (rs rs' : Runs) (ls : List NodeLine) (x : Waiting) → AreCounted ws rs ls → times_waiting x.waiter ws ≡ 0 → times_running x.waiter rs.placed ≡ 0 → rs'.placed ≡ rs.placed → length ws + 1 ≤ rs'.room → AreCounted (enqueue x ws) rs' ls
kept_waits ws rs rs' ls x ok waits runs is room = record {
  counted = subst (λ (ps : List Placed). ls ≡ lines_of ps (nodes_of ls)) (sym is) ok.counted;
  numbered = ok.numbered;
  placed_there = subst (AllByRecursion (λ q. IsNumber (length ls) q.node)) (sym is) ok.placed_there;
  once = λ v. once_come (is_waiter v x.waiter) v x ws rs.placed (times_waiting v (enqueue x ws)) (times_running v rs'.placed) refl waits runs ok.once (times_enqueued v x ws) (ap (times_running v) is);
  room = subst (λ n. n ≤ rs'.room) (sym (length_enqueued x ws)) (omega (arith, room));
}

pub kept_left : (ws : List Waiting) (rs : Runs) (ls : List NodeLine) (w : Waiter) → AreCounted ws rs ls → AreCounted (dequeue w ws) rs ls
kept_left ws rs ls w ok = record {
  counted = ok.counted;
  numbered = ok.numbered;
  placed_there = ok.placed_there;
  once = λ v. let h : times_waiting v (dequeue w ws) ≤ times_waiting v ws = filter_less (λ (x : Waiting). is_waiter v x.waiter) (λ (x : Waiting). not (is_waiter w x.waiter)) ws in omega (arith, h, ok.once v);
  room = let h = split_length (λ (x : Waiting). is_waiter w x.waiter) ws in omega (arith, h, ok.room);
}

pub kept_same : (ws : List Waiting) (rs rs' : Runs) (ls : List NodeLine) → AreCounted ws rs ls → rs'.placed ≡ rs.placed → rs.room ≤ rs'.room → AreCounted ws rs' ls
kept_same ws rs rs' ls ok is room = record {
  counted = subst (λ (ps : List Placed). ls ≡ lines_of ps (nodes_of ls)) (sym is) ok.counted;
  numbered = ok.numbered;
  placed_there = subst (AllByRecursion (λ q. IsNumber (length ls) q.node)) (sym is) ok.placed_there;
  once = λ v. let e : times_running v rs'.placed ≡ times_running v rs.placed = ap (times_running v) is in omega (arith, e, ok.once v);
  room = omega (arith, ok.room, room);
}
