-- Each change of the nodes as a step of the schedule.
use Rattle.std.proofs.Common.{◌≡◌, refl, sym, ap, ap₂, ◌∙◌, ◌+◌, ◌-◌, ◌≤◌, ◌<◌, ◌^◌, ℕ, Bool, true, false, List, [], ◌∷◌, ◌++◌, Option, Some, None, arith, cond, length, subst, true≢false, suc, zero, IsTrue, IfSome, IsNone, rules}
use Rattle.std.specs.List.{AllByRecursion}
use Rattle.std.specs.Prelude.{option_map, filter, find, nat_le}
use Rattle.std.proofs.lemmas.Bool.Decides.{nat_tests}
use Rattle.base_names.specs.declared.node.NodeLine.{NodeLine}
use Rattle.base_names.specs.declared.node.NodeNo.{NodeNo}
use Rattle.base_names.specs.declared.node.NodeState.TheVariants.{Failed}
use Rattle.base_names.specs.declared.node.Placed.{Placed}
use Rattle.base_names.specs.declared.node.Waiter.{Waiter}
use Rattle.table_defs.specs.Lists.{changed}
use Rattle.cluster_defs.specs.Cluster.{Node, Waiting}
use Rattle.cluster_defs.specs.Placement.{dequeue, occupied}
use Rattle.cluster_defs.specs.Refusals.{has_node}
use Rattle.cluster_defs.specs.Waiters.{is_node, is_waiter}
use Rattle.node_sched.specs.Asked.{failed, gone}
use Rattle.node_sched.specs.Counts.{AreCounted, IsBusyAt, IsFitAt, IsNumber, IsNumbered, nodes_of, schedule_of, unlisted}
use Rattle.node_sched.specs.Runs.{Runs, node_of, without_node, without_waiter}
use Rattle.node_sched.specs.Schedule.{InOrder, Schedule, best_of, first_of, lines_of, next_of, place, placing, settled, settled_if, times_running, times_waiting}
use Rattle.node_sched.proofs.Counts.{changed_same, has_number, lacks_number, nodes_of_changed}
use Rattle.node_sched.proofs.Goes.{counted_there, first_waits, node_flips, split_length}
use Rattle.node_sched.proofs.Rule.{all_others, chosen, next_none, next_ordinary, next_urgent}

-- ---- which node there is

pub has_is : (node : NodeNo) (ls : List NodeLine) (n : ℕ) (b : Bool) → IsNumbered 0 ls → n ≡ length ls → 0 < node.0 → nat_le node.0 n ≡ b → b ≡ has_node node (nodes_of ls)
has_is node ls n true numbered many some is = sym (has_number node 0 ls numbered some (grind (arith, nat_tests, many, is)))
has_is node ls n false numbered many some is = sym (lacks_number node 0 ls numbered (λ lt le. grind (arith, nat_tests, many, is, le)))

pub has_not : (node : NodeNo) (ls : List NodeLine) → IsNumbered 0 ls → node.0 ≡ 0 → false ≡ has_node node (nodes_of ls)
has_not node ls numbered none = sym (lacks_number node 0 ls numbered (λ lt le. omega (arith, none, lt)))

-- ---- placing one

waits_by : (u : Bool) (w : Waiter) (ws : List Waiting) (o : Option Waiting) → first_of u ws ≡ o → Some w ≡ option_map (λ (x : Waiting). x.waiter) o → 1 ≤ times_waiting w ws
waits_by u w ws None first is = absurd (cc)
waits_by u w ws (Some x) first is = subst (λ (v : Waiter). 1 ≤ times_waiting v ws) (let e : x.waiter ≡ w = cc in e) (first_waits u x ws first)

pub waits_first : (u : Bool) (w : Waiter) (ws : List Waiting) → Some w ≡ option_map (λ (x : Waiting). x.waiter) (first_of u ws) → 1 ≤ times_waiting w ws
waits_first u w ws is = waits_by u w ws (first_of u ws) refl is

pub runs_not : (u : Bool) (w : Waiter) (ws : List Waiting) (rs : Runs) (ls : List NodeLine) → AreCounted ws rs ls → Some w ≡ option_map (λ (x : Waiting). x.waiter) (first_of u ws) → times_running w rs.placed ≡ 0
runs_not u w ws rs ls ok is = let h = waits_first u w ws is in omega (arith, h, ok.once w)

pub at_most : {A : Type 0} (p : A → Bool) (xs : List A) → length (filter p xs) ≤ length xs
at_most p xs = let h = split_length p xs in omega (arith, h)

fit_lines : (node : NodeNo) (ps : List Placed) (ns : List Node) → length ps < 2 ^ 63 → IsFitAt node (lines_of ps ns)
fit_lines node ps [] small = tt
fit_lines node ps (n ∷ ns) small = ((λ there. let h = at_most (λ (q : Placed). is_node n.node q.node) ps in omega (arith, h, small)), fit_lines node ps ns small)

pub fits_at : (node : NodeNo) (ws : List Waiting) (rs : Runs) (ls : List NodeLine) → AreCounted ws rs ls → length rs.placed < 2 ^ 63 → IsFitAt node ls
fits_at node ws rs ls ok small = subst (IsFitAt node) (sym ok.counted) (fit_lines node rs.placed (nodes_of ls) small)

busy_lines : (w : Waiter) (node : NodeNo) (ps : List Placed) (ns : List Node) → node_of w ps ≡ Some node → IsBusyAt node (lines_of ps ns)
busy_lines w node ps [] is = tt
busy_lines w node ps (n ∷ ns) is = ((λ there. let h = counted_there w node n.node ps is (node_flips n.node node ∙ there) in omega (arith, h)), busy_lines w node ps ns is)

pub busy_at : (w : Waiter) (node : NodeNo) (ws : List Waiting) (rs : Runs) (ls : List NodeLine) → AreCounted ws rs ls → node_of w rs.placed ≡ Some node → IsBusyAt node ls
busy_at w node ws rs ls ok is = subst (IsBusyAt node) (sym ok.counted) (busy_lines w node rs.placed (nodes_of ls) is)

there_here : (b : Bool) (n : ℕ) (node : NodeNo) (p : Placed) (rest : Option Placed) → option_map (λ (q : Placed). q.node) (cond b (Some p) rest) ≡ Some node → IsNumber n p.node → (option_map (λ (q : Placed). q.node) rest ≡ Some node → IsNumber n node) → IsNumber n node
there_here true n node p rest is here later = subst (IsNumber n) (let e : p.node ≡ node = cc in e) here
there_here false n node p rest is here later = later is

there_by : (w : Waiter) (node : NodeNo) (n : ℕ) (ps : List Placed) → AllByRecursion (λ p. IsNumber n p.node) ps → node_of w ps ≡ Some node → IsNumber n node
there_by w node n [] all is = absurd (cc)
there_by w node n (p ∷ ps) all is = there_here (is_waiter w p.waiter) n node p (find (λ (q : Placed). is_waiter w q.waiter) ps) is all.0 (there_by w node n ps all.1)

-- where a job runs is a node
pub runs_there : (w : Waiter) (node : NodeNo) (ws : List Waiting) (rs : Runs) (ls : List NodeLine) → AreCounted ws rs ls → node_of w rs.placed ≡ Some node → IsNumber (length ls) node
runs_there w node ws rs ls ok is = there_by w node (length ls) rs.placed ok.placed_there is

placing_of : (w : Waiter) (line : NodeLine) (first : Option Waiting) (best : Option NodeLine) → Some w ≡ option_map (λ (x : Waiting). x.waiter) first → Some line ≡ best → placing first best ≡ Some record { waiter = w; node = line.node }
placing_of w line None best is at = absurd (cc)
placing_of w line (Some x) None is at = absurd (cc)
placing_of w line (Some x) (Some n) is at = let e : x.waiter ≡ w = cc in let m : n ≡ line = cc in ap₂ (λ (v : Waiter) (l : NodeLine). Some record { waiter = v; node = l.node }) e m

pub next_is : (u : Bool) (w : Waiter) (line : NodeLine) (ws : List Waiting) (rs : Runs) (ls : List NodeLine) → AreCounted ws rs ls → Some w ≡ option_map (λ (x : Waiting). x.waiter) (first_of u ws) → Some line ≡ best_of u ls → next_of u (schedule_of ws rs ls) ≡ Some record { waiter = w; node = line.node }
next_is u w line ws rs ls ok first best = placing_of w line (first_of u ws) (best_of u (lines_of rs.placed (nodes_of ls))) first (best ∙ ap (best_of u) ok.counted)

same_nodes : (node : NodeNo) (f : NodeLine → NodeLine) → ((l : NodeLine) → unlisted (f l) ≡ unlisted l) → (ls : List NodeLine) → nodes_of (changed (λ l. is_node node l.node) f ls) ≡ nodes_of ls
same_nodes node f same ls = nodes_of_changed (is_node node) f (λ n. n) same ls ∙ changed_same (λ (n : Node). is_node node n.node) (nodes_of ls)

pub after_placed : (u : Bool) (w : Waiter) (line : NodeLine) (ws ws' : List Waiting) (rs rs' : Runs) (ls ls' : List NodeLine) (s : Schedule) → AreCounted ws rs ls → schedule_of ws rs ls ≡ s → Some w ≡ option_map (λ (x : Waiting). x.waiter) (first_of u ws) → Some line ≡ best_of u ls
    → ws' ≡ dequeue w ws → rs'.placed ≡ rs.placed ++ record { waiter = w; node = line.node } ∷ [] → ls' ≡ occupied line.node ls → schedule_of ws' rs' ls' ≡ settled_if (next_of u s) s
after_placed u w line ws ws' rs rs' ls ls' s ok view first best left placed taken =
    let nodes : nodes_of ls' ≡ nodes_of ls = ap nodes_of taken ∙ same_nodes line.node (λ (l : NodeLine). record l { running = l.running + 1 }) (λ l. refl) ls in
    let now : schedule_of ws' rs' ls' ≡ settled (record { waiter = w; node = line.node } ∷ []) (schedule_of ws rs ls) = λ i. record { waiting = left i; running = placed i; nodes = nodes i } in
    now
    ∙ ap (λ (o : Option Placed). settled_if o (schedule_of ws rs ls)) (sym (next_is u w line ws rs ls ok first best))
    ∙ ap (λ (t : Schedule). settled_if (next_of u t) t) view

-- ---- placing the first that may run

fewer_by : (u : Bool) (s : Schedule) (p : Placed) → InOrder s → next_of u s ≡ Some p → length (dequeue p.waiter s.waiting) + 1 ≡ length s.waiting
fewer_by u s p ok is =
    let c = chosen (first_of u s.waiting) (best_of u (lines_of s.running s.nodes)) p is in
    let w : c.waiting.waiter ≡ p.waiter = sym (ap (λ (q : Placed). q.waiter) c.placed) in
    let some : 1 ≤ times_waiting p.waiter s.waiting = subst (λ (v : Waiter). 1 ≤ times_waiting v s.waiting) w (first_waits u c.waiting s.waiting c.first_is) in
    let h = split_length (λ (x : Waiting). is_waiter p.waiter x.waiter) s.waiting in
    omega (arith, some, h, ok.once p.waiter)

pub fewer_wait : (u : Bool) (s t : Schedule) (p : Placed) → InOrder s → next_of u s ≡ Some p → t ≡ settled_if (next_of u s) s → length t.waiting + 1 ≡ length s.waiting
fewer_wait u s t p ok is at = let e : t ≡ settled (p ∷ []) s = at ∙ ap (λ (o : Option Placed). settled_if o s) is in subst (λ (x : Schedule). length x.waiting + 1 ≡ length s.waiting) (sym e) (fewer_by u s p ok is)

pub urgent_step : (s t : Schedule) (p : Placed) → InOrder s → Some p ≡ next_of true s → t ≡ settled_if (next_of true s) s → (place s ≡ p ∷ place t) × (t ≡ settled (p ∷ []) s)
urgent_step s t p ok is at =
    let e : t ≡ settled (p ∷ []) s = at ∙ ap (λ (o : Option Placed). settled_if o s) (sym is) in
    (next_urgent s p ok (sym is) ∙ ap (λ (x : Schedule). p ∷ place x) (sym e), e)

ordinary_by : (s r : Schedule) (o : Option Placed) → None ≡ next_of true s → InOrder s → o ≡ next_of false s → r ≡ settled_if (next_of false s) s
    → IfSome o (λ p. (place s ≡ p ∷ place r) × (r ≡ settled (p ∷ []) s)) × (IsNone o → (place s ≡ []) × (r ≡ s)) × IfSome o (λ p. length r.waiting + 1 ≡ length s.waiting)
ordinary_by s r None none ok is at = (tt, (λ h. (next_none s (sym none) (sym is), at ∙ ap (λ (x : Option Placed). settled_if x s) (sym is))), tt)
ordinary_by s r (Some p) none ok is at =
    let e : r ≡ settled (p ∷ []) s = at ∙ ap (λ (x : Option Placed). settled_if x s) (sym is) in
    ((next_ordinary s p ok (sym none) (sym is) ∙ ap (λ (x : Schedule). p ∷ place x) (sym e), e), (λ h. absurd (true≢false h)), fewer_wait false s r p ok (sym is) at)

-- where none of priority 100 was placed
pub ordinary_step : (s t r : Schedule) (o : Option Placed) → None ≡ next_of true s → t ≡ settled_if (next_of true s) s → InOrder t → o ≡ next_of false t → r ≡ settled_if (next_of false t) t
    → IfSome o (λ p. (place s ≡ p ∷ place r) × (r ≡ settled (p ∷ []) s)) × (IsNone o → (place s ≡ []) × (r ≡ s)) × IfSome o (λ p. length r.waiting + 1 ≡ length s.waiting)
ordinary_step s t r o none at ok is then' =
    let same : t ≡ s = at ∙ ap (λ (x : Option Placed). settled_if x s) (sym none) in
    ordinary_by s r o none (subst InOrder same ok) (is ∙ ap (next_of false) same) (then' ∙ ap (λ (x : Schedule). settled_if (next_of false x) x) same)

pub room_first : (u : Bool) (w : Waiter) (ws : List Waiting) (rs : Runs) (ls : List NodeLine) → AreCounted ws rs ls → Some w ≡ option_map (λ (x : Waiting). x.waiter) (first_of u ws) → 0 < rs.room
room_first u w ws rs ls ok is = let h = waits_first u w ws is in let k = at_most (λ (x : Waiting). is_waiter w x.waiter) ws in omega (arith, h, k, ok.room)

-- ---- one that leaves

none_there : (w : Waiter) (ps : List Placed) → times_running w ps ≡ 0 → without_waiter w ps ≡ ps
none_there w ps none = all_others (λ (p : Placed). is_waiter w p.waiter) ps none

none_waits : (w : Waiter) (ws : List Waiting) → times_waiting w ws ≡ 0 → dequeue w ws ≡ ws
none_waits w ws none = all_others (λ (x : Waiting). is_waiter w x.waiter) ws none

-- it waited
pub left_waiting : (w : Waiter) (ws ws' : List Waiting) (rs : Runs) (ls : List NodeLine) (s : Schedule) → AreCounted ws rs ls → schedule_of ws rs ls ≡ s → ws' ≡ dequeue w ws → 0 < times_waiting w ws → schedule_of ws' rs ls ≡ gone w s
left_waiting w ws ws' rs ls s ok view left waits =
    let none : times_running w rs.placed ≡ 0 = omega (arith, ok.once w, waits) in
    let runs = none_there w rs.placed none in
    (λ i. record { waiting = left i; running = sym runs i; nodes = nodes_of ls }) ∙ ap (gone w) view

-- it ran
pub left_running : (w : Waiter) (node : NodeNo) (ws ws' : List Waiting) (rs rs' : Runs) (ls ls' : List NodeLine) (s : Schedule) → AreCounted ws rs ls → schedule_of ws rs ls ≡ s → ws' ≡ dequeue w ws → rs'.placed ≡ without_waiter w rs.placed → ls' ≡ changed (λ l. is_node node l.node) (λ l. record l { running = l.running - 1 }) ls → schedule_of ws' rs' ls' ≡ gone w s
left_running w node ws ws' rs rs' ls ls' s ok view left goes taken =
    let nodes : nodes_of ls' ≡ nodes_of ls = ap nodes_of taken ∙ same_nodes node (λ (l : NodeLine). record l { running = l.running - 1 }) (λ l. refl) ls in
    (λ i. record { waiting = left i; running = goes i; nodes = nodes i }) ∙ ap (gone w) view

-- it did neither
pub left_nothing : (w : Waiter) (ws ws' : List Waiting) (rs rs' : Runs) (ls : List NodeLine) (s : Schedule) → schedule_of ws rs ls ≡ s → ws' ≡ dequeue w ws → rs'.placed ≡ without_waiter w rs.placed → schedule_of ws' rs' ls ≡ gone w s
left_nothing w ws ws' rs rs' ls s view left goes = (λ i. record { waiting = left i; running = goes i; nodes = nodes_of ls }) ∙ ap (gone w) view

runs_here : (b : Bool) (p : Placed) (rest : Option Placed) (node : NodeNo) (zs : List Placed) → option_map (λ (q : Placed). q.node) (cond b (Some p) rest) ≡ Some node → (option_map (λ (q : Placed). q.node) rest ≡ Some node → 1 ≤ length zs) → 1 ≤ length (cond b (p ∷ zs) zs)
runs_here true p rest node zs is later = omega arith
runs_here false p rest node zs is later = later is

not_here : (b : Bool) (p : Placed) (rest : Option Placed) (zs : List Placed) → None ≡ option_map (λ (q : Placed). q.node) (cond b (Some p) rest) → (None ≡ option_map (λ (q : Placed). q.node) rest → length zs ≡ 0) → length (cond b (p ∷ zs) zs) ≡ 0
not_here true p rest zs is later = absurd (cc)
not_here false p rest zs is later = later is

runs_by : (w : Waiter) (ps : List Placed) (node : NodeNo) → node_of w ps ≡ Some node → 1 ≤ times_running w ps
runs_by w [] node is = absurd (cc)
runs_by w (p ∷ ps) node is = runs_here (is_waiter w p.waiter) p (find (λ (q : Placed). is_waiter w q.waiter) ps) node (filter (λ (q : Placed). is_waiter w q.waiter) ps) is (runs_by w ps node)

pub it_runs : (w : Waiter) (ps : List Placed) (node : NodeNo) → Some node ≡ node_of w ps → 0 < times_running w ps
it_runs w ps node is = let h = runs_by w ps node (sym is) in omega (arith, h)

pub it_runs_not : (w : Waiter) (ps : List Placed) → None ≡ node_of w ps → times_running w ps ≡ 0
it_runs_not w [] is = refl
it_runs_not w (p ∷ ps) is = not_here (is_waiter w p.waiter) p (find (λ (q : Placed). is_waiter w q.waiter) ps) (filter (λ (q : Placed). is_waiter w q.waiter) ps) is (it_runs_not w ps)

-- ---- a node that fails

pub after_failed : (node : NodeNo) (ws : List Waiting) (rs rs' : Runs) (ls ls' : List NodeLine) (s : Schedule) → schedule_of ws rs ls ≡ s → rs'.placed ≡ without_node node rs.placed → ls' ≡ changed (λ l. is_node node l.node) (λ l. record l { state = Failed; running = 0 }) ls → schedule_of ws rs' ls' ≡ failed node s
after_failed node ws rs rs' ls ls' s view goes taken =
    let nodes = ap nodes_of taken ∙ nodes_of_changed (is_node node) (λ (l : NodeLine). record l { state = Failed; running = 0 }) (λ (n : Node). record n { state = Failed }) (λ l. refl) ls in
    (λ i. record { waiting = ws; running = goes i; nodes = nodes i }) ∙ ap (failed node) view

-- whether one that leaves was there
pub there_yes : (n : ℕ) → 0 < n → (IsTrue true → 0 < n) × (0 < n → IsTrue true)
there_yes n h = ((λ x. h), (λ x. search rules))

pub there_no : (n : ℕ) → n ≡ 0 → (IsTrue false → 0 < n) × (0 < n → IsTrue false)
there_no n h = ((λ x. absurd (true≢false (sym x))), (λ x. absurd (omega (arith, h, x))))

pub waits_none : (n : ℕ) → (0 < n → IsTrue false) → n ≡ 0
waits_none zero h = refl
waits_none (suc n) h = absurd (true≢false (sym (h (omega arith))))
