-- The waiting list as entries by turn.
use Rattle.std.proofs.Common.{◌≡◌, refl, sym, ap, ◌∙◌, ◌+◌, ◌≤◌, ◌<◌, ℕ, Bool, true, false, not, ◌&&◌, ℤ, List, [], ◌∷◌, Option, Some, None, arith, cond, length, subst, true≢false, suc, rules, IsTrue, is_some}
use Rattle.std.specs.BTreeMap.{insert_entry, is_at}
use Rattle.std.specs.List.{AllByRecursion, slice_get}
use Rattle.std.specs.List.Sorted.{IsStrictlySortedBy}
use Rattle.std.specs.Map.{keys_of, remove_entry}
use Rattle.std.specs.Ordering.{int_eq, match_ordering, is_le}
use Rattle.std.specs.Prelude.{if◌then◌else◌, option_map, pos, negsuc, neg_ℤ, int_le, ◌≤ℤ◌, filter}
use Rattle.std.specs.declared.cmp.Ordering.{Ordering}
use Rattle.std.specs.declared.cmp.Ordering.TheVariants.{Less, Equal, Greater}
use Rattle.std.proofs.lemmas.Bool.Decides.{nat_tests}
use Rattle.std.proofs.lemmas.Int.{ints}
use Rattle.std.proofs.lemmas.Map.Keys.{sorted_head, sorted_tail}
use Rattle.base_names.specs.contracts.node.WaiterPartialEq.TheImpl as derived
use Rattle.base_names.specs.declared.node.Waiter.{Waiter}
use Rattle.cluster_defs.specs.Cluster.{Waiting}
use Rattle.cluster_defs.specs.Placement.{dequeue, enqueue}
use Rattle.cluster_defs.specs.Waiters.{is_waiter}
use Rattle.cluster_laws.proofs.Waiters.{waiter_refl}
use Rattle.node_sched.specs.contracts.turn.TurnOrd.TheImpl as turns
use Rattle.node_sched.specs.declared.turn.Turn.{Turn}
use Rattle.node_sched.specs.Schedule.{UrgentFirst, first_of, is_urgent, times_waiting}
use Rattle.node_sched.specs.Turns.{IsEarly, IsKept, turn_cmp, turn_of, waiting_in, waiting_of}
use Rattle.node_sched.proofs.Rule.{all_others}
use Rattle.node_sched.proofs.Tests.{same_waiter, waiter_is}

pub derived_cmp : (a b : Turn) → turns.ghosts.cmp a b ≡ turn_cmp a b
derived_cmp a b = refl

-- a new turn stands behind those of its priority and above
behind_or_before : (k : Turn) (e : Turn × Waiter) → e.0.arrival < k.arrival → turn_cmp k e.0 ≡ (if int_le (neg_ℤ k.behind) (neg_ℤ e.0.behind) then Greater else Less)
behind_or_before k e later = grind (arith, ints, nat_tests)

-- ---- a waiter comes

enqueue_here : (b : Bool) (o : Ordering) (k : Turn) (w : Waiter) (e : Turn × Waiter) (es fs : List (Turn × Waiter)) → o ≡ (if b then Greater else Less) → waiting_in fs ≡ enqueue (waiting_of (k, w)) (waiting_in es)
    → waiting_in (match_ordering o ((k, w) ∷ e ∷ es) ((e.0, w) ∷ es) (e ∷ fs)) ≡ (if b then waiting_of e ∷ enqueue (waiting_of (k, w)) (waiting_in es) else waiting_of (k, w) ∷ waiting_of e ∷ waiting_in es)
enqueue_here true o k w e es fs is rest = rw is (ap (λ (l : List Waiting). waiting_of e ∷ l) rest)
enqueue_here false o k w e es fs is rest = rw is

pub inserted_is_enqueued : (k : Turn) (w : Waiter) (es : List (Turn × Waiter)) → AllByRecursion (IsEarly k.arrival) es → waiting_in (insert_entry turn_cmp es k w) ≡ enqueue (waiting_of (k, w)) (waiting_in es)
inserted_is_enqueued k w [] early = refl
inserted_is_enqueued k w (e ∷ es) early =
    enqueue_here (int_le (neg_ℤ k.behind) (neg_ℤ e.0.behind)) (turn_cmp k e.0) k w e es (insert_entry turn_cmp es k w) (behind_or_before k e early.0.1) (inserted_is_enqueued k w es early.1)

found_here : (b c v : Bool) (o : Ordering) (k : Turn) (w : Waiter) (e : Turn × Waiter) (rest rest' : Option Turn) → o ≡ (if b then Greater else Less) → (v ≡ true → c ≡ true → ⊥) → rest' ≡ (if v then Some k else rest)
    → match_ordering o (if v then Some k else (if c then Some e.0 else rest)) (if v then Some e.0 else rest) (if c then Some e.0 else rest') ≡ (if v then Some k else (if c then Some e.0 else rest))
found_here true true true o k w e rest rest' is apart later = absurd (apart refl refl)
found_here true true false o k w e rest rest' is apart later = rw is
found_here true false v o k w e rest rest' is apart later = rw is later
found_here false c v o k w e rest rest' is apart later = rw is

turn_of_match : (v : Waiter) (o : Ordering) (a b c : List (Turn × Waiter)) → turn_of v (match_ordering o a b c) ≡ match_ordering o (turn_of v a) (turn_of v b) (turn_of v c)
turn_of_match v Less a b c = refl
turn_of_match v Equal a b c = refl
turn_of_match v Greater a b c = refl

none_if : (b : Bool) (x rest : Option Turn) (t : Turn) → (if b then Some t else rest) ≡ None → rest ≡ None
none_if true x rest t h = absurd (cc)
none_if false x rest t h = h

not_if : (b : Bool) (rest : Option Turn) (t : Turn) → (if b then Some t else rest) ≡ None → b ≡ false
not_if true rest t h = absurd (cc)
not_if false rest t h = refl

-- one that is w isn't another that isn't
apart_from : (v w x : Waiter) → is_waiter w x ≡ false → is_waiter v w ≡ true → is_waiter v x ≡ true → ⊥
apart_from v w x other is same = let e : is_waiter w x ≡ true = subst (λ (y : Waiter). is_waiter y x ≡ true) (waiter_is v w is) same in true≢false (sym e ∙ other)

pub turn_of_inserted : (v : Waiter) (k : Turn) (w : Waiter) (es : List (Turn × Waiter)) → AllByRecursion (IsEarly k.arrival) es → turn_of w es ≡ None → turn_of v (insert_entry turn_cmp es k w) ≡ (if is_waiter v w then Some k else turn_of v es)
turn_of_inserted v k w [] early none = refl
turn_of_inserted v k w (e ∷ es) early none =
    turn_of_match v (turn_cmp k e.0) ((k, w) ∷ e ∷ es) ((e.0, w) ∷ es) (e ∷ insert_entry turn_cmp es k w)
    ∙ found_here (int_le (neg_ℤ k.behind) (neg_ℤ e.0.behind)) (is_waiter v e.1) (is_waiter v w) (turn_cmp k e.0) k w e (turn_of v es) (turn_of v (insert_entry turn_cmp es k w)) (behind_or_before k e early.0.1)
    (apart_from v w e.1 (not_if (is_waiter w e.1) (turn_of w es) e.0 none))
    (turn_of_inserted v k w es early.1 (none_if (is_waiter w e.1) None (turn_of w es) e.0 none))

-- ---- how often it waits then

counted_here : {A : Type 0} (b c : Bool) (x y : A) (n : ℕ) (xs : List A) → length xs ≡ n → length (cond b (x ∷ cond c (y ∷ xs) xs) (cond c (y ∷ xs) xs)) ≡ (if b then 1 else 0) + length (cond c (y ∷ xs) xs)
counted_here true c x y n xs is = omega arith
counted_here false c x y n xs is = omega arith

filter_if : {A : Type 0} (p : A → Bool) (b : Bool) (xs ys : List A) → filter p (if b then xs else ys) ≡ (if b then filter p xs else filter p ys)
filter_if p true xs ys = refl
filter_if p false xs ys = refl

sum_if : (b c m : Bool) (x y : Waiting) (zs ws : List Waiting) → length zs ≡ (if m then 1 else 0) + length ws → length (if b then cond c (y ∷ zs) zs else cond m (x ∷ cond c (y ∷ ws) ws) (cond c (y ∷ ws) ws)) ≡ (if m then 1 else 0) + length (cond c (y ∷ ws) ws)
sum_if true true m x y zs ws is = omega (arith, is)
sum_if true false m x y zs ws is = is
sum_if false c true x y zs ws is = omega arith
sum_if false c false x y zs ws is = omega arith

one_or_none : (b : Bool) (x : Waiting) → length (cond b (x ∷ []) []) ≡ (if b then 1 else 0) + 0
one_or_none true x = refl
one_or_none false x = refl

pub times_enqueued : (v : Waiter) (x : Waiting) (ws : List Waiting) → times_waiting v (enqueue x ws) ≡ (if is_waiter v x.waiter then 1 else 0) + times_waiting v ws
times_enqueued v x [] = one_or_none (is_waiter v x.waiter) x
times_enqueued v x (y ∷ ws) =
    ap (λ (l : List Waiting). length l) (filter_if (λ (z : Waiting). is_waiter v z.waiter) (int_le x.priority y.priority) (y ∷ enqueue x ws) (x ∷ y ∷ ws))
    ∙ sum_if (int_le x.priority y.priority) (is_waiter v y.waiter) (is_waiter v x.waiter) x y (filter (λ (z : Waiting). is_waiter v z.waiter) (enqueue x ws)) (filter (λ (z : Waiting). is_waiter v z.waiter) ws) (times_enqueued v x ws)

none_times : (b : Bool) (t : Turn) (x : Waiting) (rest : Option Turn) (ws : List Waiting) → (if b then Some t else rest) ≡ None → (rest ≡ None → length ws ≡ 0) → length (cond b (x ∷ ws) ws) ≡ 0
none_times true t x rest ws none later = absurd (cc)
none_times false t x rest ws none later = later none

-- one that has no turn doesn't wait
pub no_turn : (w : Waiter) (es : List (Turn × Waiter)) → turn_of w es ≡ None → times_waiting w (waiting_in es) ≡ 0
no_turn w [] none = refl
no_turn w (e ∷ es) none = none_times (is_waiter w e.1) e.0 (waiting_of e) (turn_of w es) (filter (λ (v : Waiting). is_waiter w v.waiter) (waiting_in es)) none (no_turn w es)

some_times : (b : Bool) (t k : Turn) (x : Waiting) (rest : Option Turn) (ws : List Waiting) → (if b then Some t else rest) ≡ Some k → (rest ≡ Some k → 1 ≤ length ws) → 1 ≤ length (cond b (x ∷ ws) ws)
some_times true t k x rest ws some later = omega arith
some_times false t k x rest ws some later = later some

-- one that has a turn waits
pub a_turn : (w : Waiter) (k : Turn) (es : List (Turn × Waiter)) → turn_of w es ≡ Some k → 1 ≤ times_waiting w (waiting_in es)
a_turn w k [] some = absurd (cc)
a_turn w k (e ∷ es) some = some_times (is_waiter w e.1) e.0 k (waiting_of e) (turn_of w es) (filter (λ (v : Waiting). is_waiter w v.waiter) (waiting_in es)) some (a_turn w k es)

pub no_turn_at : (w : Waiter) (es : List (Turn × Waiter)) (o : Option Turn) → turn_of w es ≡ o → times_waiting w (waiting_in es) ≡ 0 → turn_of w es ≡ None
no_turn_at w es None is none = is
no_turn_at w es (Some k) is none = absurd (omega (arith, a_turn w k es is, none))

-- ---- all are early

match_all : (P : Turn × Waiter → Type 0) (o : Ordering) (a b c : List (Turn × Waiter)) → AllByRecursion P a → AllByRecursion P b → AllByRecursion P c → AllByRecursion P (match_ordering o a b c)
match_all P Less a b c x y z = x
match_all P Equal a b c x y z = y
match_all P Greater a b c x y z = z

earlier : (n m : ℕ) → n ≤ m → (es : List (Turn × Waiter)) → AllByRecursion (IsEarly n) es → AllByRecursion (IsEarly m) es
earlier n m le [] all = tt
earlier n m le (e ∷ es) all = ((all.0.0, omega (arith, all.0.1)), earlier n m le es all.1)

pub early_inserted : (m : ℕ) (k : Turn) (w : Waiter) (es : List (Turn × Waiter)) → IsEarly m (k, w) → AllByRecursion (IsEarly m) es → AllByRecursion (IsEarly m) (insert_entry turn_cmp es k w)
early_inserted m k w [] here all = (here, tt)
early_inserted m k w (e ∷ es) here all =
    match_all (IsEarly m) (turn_cmp k e.0) ((k, w) ∷ e ∷ es) ((e.0, w) ∷ es) (e ∷ insert_entry turn_cmp es k w) (here, (all.0, all.1)) ((all.0.0, all.0.1), all.1) (all.0, early_inserted m k w es here all.1)

once_by : (b : Bool) (n t : ℕ) → t ≡ (if b then 1 else 0) + n → n ≤ 1 → (b ≡ true → n ≡ 0) → t ≤ 1
once_by true n t is once none = omega (arith, is, none refl)
once_by false n t is once none = omega (arith, is)

-- what is kept when a waiter has come
kept_inserted : (es : List (Turn × Waiter)) (f f' : Waiter → Option Turn) (w : Waiter) (k : Turn) (n : ℕ) → IsKept es f n → k.arrival ≡ n → negsuc 99 ≤ℤ k.behind → turn_of w es ≡ None
    → ((v : Waiter) → f' v ≡ (if is_waiter v w then Some k else f v)) → IsStrictlySortedBy turn_cmp (keys_of (insert_entry turn_cmp es k w)) → IsKept (insert_entry turn_cmp es k w) f' (n + 1)
kept_inserted es f f' w k n ok at lawful none updates sorted =
    let before : AllByRecursion (IsEarly k.arrival) es = subst (λ (m : ℕ). AllByRecursion (IsEarly m) es) (sym at) ok.early in
    record {
      known = λ v. updates v ∙ ap (λ (o : Option Turn). if is_waiter v w then Some k else o) (ok.known v) ∙ sym (turn_of_inserted v k w es before none);
      once = λ v. once_by (is_waiter v w) (times_waiting v (waiting_in es)) (times_waiting v (waiting_in (insert_entry turn_cmp es k w)))
          (ap (times_waiting v) (inserted_is_enqueued k w es before) ∙ times_enqueued v (waiting_of (k, w)) (waiting_in es))
          (ok.once v)
          (λ same. subst (λ (x : Waiter). times_waiting x (waiting_in es) ≡ 0) (sym (waiter_is v w same)) (no_turn w es none));
      ordered = sorted;
      early = early_inserted (n + 1) k w es (lawful, omega (arith, at)) (earlier n (n + 1) (omega arith) es ok.early);
    }

-- ---- a waiter goes

abbrev pub without : Waiter → List (Turn × Waiter) → List (Turn × Waiter)
without w es = filter (λ e. not (is_waiter w e.1)) es

mapped_if : (b : Bool) (e : Turn × Waiter) (es : List (Turn × Waiter)) → waiting_in (cond b (e ∷ es) es) ≡ cond b (waiting_of e ∷ waiting_in es) (waiting_in es)
mapped_if true e es = refl
mapped_if false e es = refl

pub without_is_dequeued : (w : Waiter) (es : List (Turn × Waiter)) → waiting_in (without w es) ≡ dequeue w (waiting_in es)
without_is_dequeued w [] = refl
without_is_dequeued w (e ∷ es) = mapped_if (not (is_waiter w e.1)) e (without w es) ∙ ap (λ (l : List Waiting). cond (not (is_waiter w e.1)) (waiting_of e ∷ l) l) (without_is_dequeued w es)

cmp_equal : (k l : Turn) → is_at (turn_cmp k) l ≡ true → turn_cmp l k ≡ Less → ⊥
cmp_equal k l same less = grind (arith, ints, nat_tests, same, less)

cmp_refl : (k l : Turn) → k ≡ l → is_at (turn_cmp k) l ≡ true
cmp_refl k l same = subst (λ (x : Turn). is_at (turn_cmp k) x ≡ true) same (grind (arith, ints, nat_tests))

among_here : (b : Bool) (P : Turn → Type 0) (w : Waiter) (k : Turn) (e : Turn × Waiter) (es : List (Turn × Waiter)) → P e.0 × AllByRecursion P (keys_of es) → (if b then Some e.0 else turn_of w es) ≡ Some k → (turn_of w es ≡ Some k → P k) → P k
among_here true P w k e es all is later = subst P (let same : e.0 ≡ k = cc in same) all.0
among_here false P w k e es all is later = later is

-- what holds of all turns holds of this one
turn_among : (P : Turn → Type 0) (w : Waiter) (k : Turn) (es : List (Turn × Waiter)) → AllByRecursion P (keys_of es) → turn_of w es ≡ Some k → P k
turn_among P w k [] all is = absurd (cc)
turn_among P w k (e ∷ es) all is = among_here (is_waiter w e.1) P w k e es all is (turn_among P w k es all.1)

removed_here : (b c : Bool) (e : Turn × Waiter) (es fs gs : List (Turn × Waiter)) → b ≡ c → (b ≡ true → gs ≡ es) → (b ≡ false → fs ≡ gs) → cond c es (e ∷ fs) ≡ cond (not b) (e ∷ gs) gs
removed_here true true e es fs gs is here later = sym (here refl)
removed_here true false e es fs gs is here later = absurd (cc)
removed_here false true e es fs gs is here later = absurd (cc)
removed_here false false e es fs gs is here later = ap (λ (l : List (Turn × Waiter)). e ∷ l) (later refl)

same_test : (b c : Bool) → (b ≡ true → c ≡ true) → (b ≡ false → c ≡ true → ⊥) → b ≡ c
same_test true c here later = sym (here refl)
same_test false true here later = absurd (later refl refl)
same_test false false here later = refl

turn_here : (b : Bool) (t k : Turn) (rest : Option Turn) → (if b then Some t else rest) ≡ Some k → b ≡ true → k ≡ t
turn_here true t k rest is here = let e : Some t ≡ Some k = is in cc
turn_here false t k rest is here = absurd (cc)

turn_later : (b : Bool) (t k : Turn) (rest : Option Turn) → (if b then Some t else rest) ≡ Some k → b ≡ false → rest ≡ Some k
turn_later true t k rest is later = absurd (cc)
turn_later false t k rest is later = is

times_here : (b : Bool) (x : Turn × Waiter) (y : Waiting) (xs : List (Turn × Waiter)) (ys : List Waiting) → length xs ≡ length ys → length (cond b (x ∷ xs) xs) ≡ length (cond b (y ∷ ys) ys)
times_here true x y xs ys is = ap (λ n. suc n) is
times_here false x y xs ys is = is

times_entries : (w : Waiter) (es : List (Turn × Waiter)) → length (filter (λ e. is_waiter w e.1) es) ≡ times_waiting w (waiting_in es)
times_entries w [] = refl
times_entries w (e ∷ es) = times_here (is_waiter w e.1) e (waiting_of e) (filter (λ x. is_waiter w x.1) es) (filter (λ v. is_waiter w v.waiter) (waiting_in es)) (times_entries w es)

none_left : (b : Bool) (y : Waiting) (ys : List Waiting) → length (cond b (y ∷ ys) ys) ≤ 1 → b ≡ true → length ys ≡ 0
none_left true y ys once here = omega (arith, once)
none_left false y ys once here = absurd (cc)

less_left : (b : Bool) (y : Waiting) (ys : List Waiting) → length (cond b (y ∷ ys) ys) ≤ 1 → length ys ≤ 1
less_left true y ys once = omega (arith, once)
less_left false y ys once = once

pub removed_is_without : (w : Waiter) (k : Turn) (es : List (Turn × Waiter)) → IsStrictlySortedBy turn_cmp (keys_of es) → times_waiting w (waiting_in es) ≤ 1 → turn_of w es ≡ Some k → remove_entry (is_at (turn_cmp k)) es ≡ without w es
removed_is_without w k [] sorted once is = refl
removed_is_without w k (e ∷ es) sorted once is =
    removed_here (is_waiter w e.1) (is_at (turn_cmp k) e.0) e es (remove_entry (is_at (turn_cmp k)) es) (without w es)
    (same_test (is_waiter w e.1) (is_at (turn_cmp k) e.0)
    (λ here. cmp_refl k e.0 (turn_here (is_waiter w e.1) e.0 k (turn_of w es) is here))
    (λ later same. cmp_equal k e.0 same (turn_among (λ y. turn_cmp e.0 y ≡ Less) w k es (sorted_head turn_cmp e.0 (keys_of es) sorted) (turn_later (is_waiter w e.1) e.0 k (turn_of w es) is later))))
    (λ here. all_others (λ x. is_waiter w x.1) es (times_entries w es ∙ none_left (is_waiter w e.1) (waiting_of e) (filter (λ v. is_waiter w v.waiter) (waiting_in es)) once here))
    (λ later. removed_is_without w k es (sorted_tail turn_cmp e.0 (keys_of es) sorted) (less_left (is_waiter w e.1) (waiting_of e) (filter (λ v. is_waiter w v.waiter) (waiting_in es)) once) (turn_later (is_waiter w e.1) e.0 k (turn_of w es) is later))

turn_of_if : (v : Waiter) (b : Bool) (xs ys : List (Turn × Waiter)) → turn_of v (cond b xs ys) ≡ cond b (turn_of v xs) (turn_of v ys)
turn_of_if v true xs ys = refl
turn_of_if v false xs ys = refl

gone_turn : (a b c : Bool) (t : Turn) (x y : Option Turn) → x ≡ (if c then None else y) → (b ≡ true → c ≡ false → a ≡ true → ⊥) → (b ≡ false → c ≡ true → a ≡ true → ⊥) → cond (not b) (if a then Some t else x) x ≡ (if c then None else (if a then Some t else y))
gone_turn a true true t x y is p q = is
gone_turn true true false t x y is p q = absurd (p refl refl refl)
gone_turn false true false t x y is p q = is
gone_turn true false true t x y is p q = absurd (q refl refl refl)
gone_turn false false true t x y is p q = is
gone_turn true false false t x y is p q = refl
gone_turn false false false t x y is p q = is

both_are : (w v x : Waiter) → is_waiter w x ≡ true → is_waiter w v ≡ false → is_waiter v x ≡ true → ⊥
both_are w v x here apart same = let e : is_waiter w v ≡ true = subst (λ (y : Waiter). is_waiter w y ≡ true) (sym (waiter_is v x same)) here in true≢false (sym e ∙ apart)

one_is : (w v x : Waiter) → is_waiter w x ≡ false → is_waiter w v ≡ true → is_waiter v x ≡ true → ⊥
one_is w v x apart here same = let e : is_waiter w x ≡ true = subst (λ (y : Waiter). is_waiter w y ≡ true) (waiter_is v x same) here in true≢false (sym e ∙ apart)

none_either : (b : Bool) → ◌≡◌ {A = Option Turn} None (if b then None else None)
none_either true = refl
none_either false = refl

pub turn_of_without : (v w : Waiter) (es : List (Turn × Waiter)) → turn_of v (without w es) ≡ (if is_waiter w v then None else turn_of v es)
turn_of_without v w [] = none_either (is_waiter w v)
turn_of_without v w (e ∷ es) =
    turn_of_if v (not (is_waiter w e.1)) (e ∷ without w es) (without w es)
    ∙ gone_turn (is_waiter v e.1) (is_waiter w e.1) (is_waiter w v) e.0 (turn_of v (without w es)) (turn_of v es) (turn_of_without v w es) (both_are w v e.1) (one_is w v e.1)

less_here : {A : Type 0} (p : A → Bool) (b c : Bool) (x : A) (ys zs : List A) → p x ≡ c → length (filter p ys) ≤ length zs → length (filter p (cond b (x ∷ ys) ys)) ≤ length (cond c (x ∷ zs) zs)
less_here p true true x ys zs is le = subst (λ (b : Bool). length (cond b (x ∷ filter p ys) (filter p ys)) ≤ suc (length zs)) (sym is) (omega (arith, le))
less_here p true false x ys zs is le = subst (λ (b : Bool). length (cond b (x ∷ filter p ys) (filter p ys)) ≤ length zs) (sym is) le
less_here p false true x ys zs is le = omega (arith, le)
less_here p false false x ys zs is le = le

pub filter_less : {A : Type 0} (p q : A → Bool) (xs : List A) → length (filter p (filter q xs)) ≤ length (filter p xs)
filter_less p q [] = omega arith
filter_less p q (x ∷ xs) = less_here p (q x) (p x) x (filter q xs) (filter p xs) refl (filter_less p q xs)

all_here : {A : Type 0} (P : A → Type 0) (b : Bool) (x : A) (xs : List A) → P x → AllByRecursion P xs → AllByRecursion P (cond b (x ∷ xs) xs)
all_here P true x xs here all = (here, all)
all_here P false x xs here all = all

less_than_once : {m n : ℕ} → m ≤ n → n ≤ 1 → m ≤ 1
less_than_once le once = omega (arith, le, once)

pub all_filtered : {A : Type 0} (P : A → Type 0) (q : A → Bool) (xs : List A) → AllByRecursion P xs → AllByRecursion P (filter q xs)
all_filtered P q [] all = tt
all_filtered P q (x ∷ xs) all = all_here P (q x) x (filter q xs) all.0 (all_filtered P q xs all.1)

-- what is kept when a waiter has gone
kept_taken : (es : List (Turn × Waiter)) (f f' : Waiter → Option Turn) (w : Waiter) (k : Turn) (n : ℕ) → IsKept es f n → turn_of w es ≡ Some k
    → ((v : Waiter) → f' v ≡ (if is_waiter w v then None else f v)) → IsStrictlySortedBy turn_cmp (keys_of (remove_entry (is_at (turn_cmp k)) es)) → IsKept (remove_entry (is_at (turn_cmp k)) es) f' n
kept_taken es f f' w k n ok is updates sorted =
    let same = removed_is_without w k es ok.ordered (ok.once w) is in
    record {
      known = λ v. updates v ∙ ap (λ (o : Option Turn). if is_waiter w v then None else o) (ok.known v) ∙ sym (ap (turn_of v) same ∙ turn_of_without v w es);
      once = λ v. subst (λ (l : List Waiting). times_waiting v l ≤ 1) (sym (ap waiting_in same ∙ without_is_dequeued w es)) (less_than_once (filter_less (λ x. is_waiter v x.waiter) (λ x. not (is_waiter w x.waiter)) (waiting_in es)) (ok.once v));
      ordered = sorted;
      early = subst (λ (l : List (Turn × Waiter)). AllByRecursion (IsEarly n) l) (sym same) (all_filtered (IsEarly n) (λ e. not (is_waiter w e.1)) es ok.early);
    }

-- ---- as the calls of the maps tell it

flipped : (b c : Bool) (v w : Waiter) → is_waiter v w ≡ b → is_waiter w v ≡ c → b ≡ c
flipped true true v w p q = refl
flipped true false v w p q = absurd (true≢false (sym (subst (λ (x : Waiter). is_waiter w x ≡ true) (sym (waiter_is v w p)) (waiter_refl w)) ∙ q))
flipped false true v w p q = absurd (true≢false (sym (subst (λ (x : Waiter). is_waiter v x ≡ true) (sym (waiter_is w v q)) (waiter_refl v)) ∙ p))
flipped false false v w p q = refl

pub waiter_flips : (v w : Waiter) → is_waiter v w ≡ is_waiter w v
waiter_flips v w = flipped (is_waiter v w) (is_waiter w v) v w refl refl

pub kept_pushed : (es es' : List (Turn × Waiter)) (f f' : Waiter → Option Turn) (w : Waiter) (k : Turn) (n : ℕ) → IsKept es f n → k.arrival ≡ n → negsuc 99 ≤ℤ k.behind → times_waiting w (waiting_in es) ≡ 0
    → ((v : Waiter) → f' v ≡ (if derived.ghosts.eq w v then Some k else f v)) → es' ≡ insert_entry turn_cmp es k w → IsStrictlySortedBy turn_cmp (keys_of es') → IsKept es' f' (n + 1)
kept_pushed es es' f f' w k n ok at lawful none updates is sorted =
    subst (λ (l : List (Turn × Waiter)). IsKept l f' (n + 1)) (sym is)
    (kept_inserted es f f' w k n ok at lawful (no_turn_at w es (turn_of w es) refl none)
    (λ v. updates v ∙ ap (λ (b : Bool). if b then Some k else f v) (same_waiter w v ∙ waiter_flips w v))
    (subst (λ (l : List (Turn × Waiter)). IsStrictlySortedBy turn_cmp (keys_of l)) is sorted))

pub kept_removed : (es es' : List (Turn × Waiter)) (f f' : Waiter → Option Turn) (w : Waiter) (k : Turn) (n : ℕ) → IsKept es f n → f w ≡ Some k
    → ((v : Waiter) → f' v ≡ (if derived.ghosts.eq w v then None else f v)) → es' ≡ remove_entry (is_at (turn_cmp k)) es → IsStrictlySortedBy turn_cmp (keys_of es') → IsKept es' f' n
kept_removed es es' f f' w k n ok is updates taken sorted =
    subst (λ (l : List (Turn × Waiter)). IsKept l f' n) (sym taken)
    (kept_taken es f f' w k n ok (sym (ok.known w) ∙ is)
    (λ v. updates v ∙ ap (λ (b : Bool). if b then None else f v) (same_waiter w v))
    (subst (λ (l : List (Turn × Waiter)). IsStrictlySortedBy turn_cmp (keys_of l)) taken sorted))

pub removed_is_dequeued : (es : List (Turn × Waiter)) (f : Waiter → Option Turn) (w : Waiter) (k : Turn) (n : ℕ) → IsKept es f n → f w ≡ Some k → waiting_in (remove_entry (is_at (turn_cmp k)) es) ≡ dequeue w (waiting_in es)
removed_is_dequeued es f w k n ok is = ap waiting_in (removed_is_without w k es ok.ordered (ok.once w) (sym (ok.known w) ∙ is)) ∙ without_is_dequeued w es

pub times_known : (es : List (Turn × Waiter)) (f : Waiter → Option Turn) (w : Waiter) (k : Turn) (n : ℕ) → IsKept es f n → f w ≡ Some k → 0 < times_waiting w (waiting_in es)
times_known es f w k n ok is = let h : 1 ≤ times_waiting w (waiting_in es) = a_turn w k es (sym (ok.known w) ∙ is) in omega (arith, h)

pub times_unknown : (es : List (Turn × Waiter)) (f : Waiter → Option Turn) (w : Waiter) (n : ℕ) → IsKept es f n → f w ≡ None → times_waiting w (waiting_in es) ≡ 0
times_unknown es f w n ok is = no_turn w es (sym (ok.known w) ∙ is)

pub dequeued_none : (w : Waiter) (ws : List Waiting) → times_waiting w ws ≡ 0 → dequeue w ws ≡ ws
dequeued_none w ws none = all_others (λ (v : Waiting). is_waiter w v.waiter) ws none

neg_neg : (p : ℤ) → neg_ℤ (neg_ℤ p) ≡ p
neg_neg p = omega (arith, ints)

lawful_turn : (p : ℤ) → p ≤ℤ pos 100 → negsuc 99 ≤ℤ neg_ℤ p
lawful_turn p h = omega (arith, ints, h)

pub pushed_is_enqueued : (es : List (Turn × Waiter)) (f : Waiter → Option Turn) (w : Waiter) (k : Turn) (p : ℤ) (n : ℕ) → IsKept es f n → k ≡ record { behind = neg_ℤ p; arrival = n } → waiting_in (insert_entry turn_cmp es k w) ≡ enqueue record { waiter = w; priority = p } (waiting_in es)
pushed_is_enqueued es f w k p n ok is =
    inserted_is_enqueued k w es (subst (λ (m : ℕ). AllByRecursion (IsEarly m) es) (sym (ap (λ (t : Turn). t.arrival) is)) ok.early)
    ∙ ap (λ (q : ℤ). enqueue record { waiter = w; priority = q } (waiting_in es)) (ap (λ (t : Turn). neg_ℤ t.behind) is ∙ neg_neg p)

pub kept_come : (es es' : List (Turn × Waiter)) (f f' : Waiter → Option Turn) (w : Waiter) (k : Turn) (p : ℤ) (n : ℕ) → IsKept es f n → k ≡ record { behind = neg_ℤ p; arrival = n } → p ≤ℤ pos 100 → times_waiting w (waiting_in es) ≡ 0
    → ((v : Waiter) → f' v ≡ (if derived.ghosts.eq w v then Some k else f v)) → es' ≡ insert_entry turn_cmp es k w → IsStrictlySortedBy turn_cmp (keys_of es') → IsKept es' f' (n + 1)
kept_come es es' f f' w k p n ok turn highest none updates is sorted =
    kept_pushed es es' f f' w k n ok (ap (λ (t : Turn). t.arrival) turn) (subst (λ (b : ℤ). negsuc 99 ≤ℤ b) (sym (ap (λ (t : Turn). t.behind) turn)) (lawful_turn p highest)) none updates is sorted

-- what a test of the index tells
pub waits_where : (o : Option Turn) (n : ℕ) → ((k : Turn) → o ≡ Some k → 0 < n) → (o ≡ None → n ≡ 0) → (b : Bool) → b ≡ is_some o → (IsTrue b → 0 < n) × (0 < n → IsTrue b)
waits_where None n known unknown true is = absurd (cc)
waits_where None n known unknown false is = let none : n ≡ 0 = unknown refl in ((λ h. absurd (grind (arith, h))), (λ h. absurd (omega (arith, h, none))))
waits_where (Some k) n known unknown true is = let some : 0 < n = known k refl in ((λ h. some), (λ h. search rules))
waits_where (Some k) n known unknown false is = absurd (cc)

pub waits_by : (es : List (Turn × Waiter)) (f : Waiter → Option Turn) (w : Waiter) (n : ℕ) (ws : List Waiting) → IsKept es f n → waiting_in es ≡ ws → (b : Bool) → b ≡ is_some (f w) → (IsTrue b → 0 < times_waiting w ws) × (0 < times_waiting w ws → IsTrue b)
waits_by es f w n ws ok is = waits_where (f w) (times_waiting w ws)
    (λ k found. subst (λ (l : List Waiting). 0 < times_waiting w l) is (times_known es f w k n ok found))
    (λ none. subst (λ (l : List Waiting). times_waiting w l ≡ 0) is (times_unknown es f w n ok none))

-- ---- the first of a class

later_class : (t y : Turn) → is_urgent (neg_ℤ t.behind) ≡ false → negsuc 99 ≤ℤ t.behind → turn_cmp t y ≡ Less → is_urgent (neg_ℤ y.behind) ≡ false
later_class t y ordinary lawful less = grind (arith, ints, nat_tests, ordinary, lawful, less)

skip_none : (b : Bool) (x : Waiting) (rest : Option Waiting) → b ≡ false → rest ≡ None → cond b (Some x) rest ≡ None
skip_none true x rest is none = absurd (cc)
skip_none false x rest is none = none

none_urgent : (t : Turn) → is_urgent (neg_ℤ t.behind) ≡ false → negsuc 99 ≤ℤ t.behind → (es : List (Turn × Waiter)) → AllByRecursion (λ y. turn_cmp t y ≡ Less) (keys_of es) → first_of true (waiting_in es) ≡ None
none_urgent t ordinary lawful [] all = refl
none_urgent t ordinary lawful (e ∷ es) all = skip_none (is_urgent (neg_ℤ e.0.behind)) (waiting_of e) (first_of true (waiting_in es)) (later_class t e.0 ordinary lawful all.0) (none_urgent t ordinary lawful es all.1)

pub urgent_first : (n : ℕ) (es : List (Turn × Waiter)) → IsStrictlySortedBy turn_cmp (keys_of es) → AllByRecursion (IsEarly n) es → UrgentFirst (waiting_in es)
urgent_first n [] sorted early = tt
urgent_first n (e ∷ es) sorted early = ((λ ordinary. none_urgent e.0 ordinary early.0.0 es (sorted_head turn_cmp e.0 (keys_of es) sorted)), urgent_first n es (sorted_tail turn_cmp e.0 (keys_of es) sorted) early.1)

-- ---- what the ends of the map tell

same_class : (x : ℤ) → is_urgent (neg_ℤ x) ≡ int_eq x (negsuc 99)
same_class x = grind (arith, ints, nat_tests)

head_here : (b : Bool) (x e : Turn × Waiter) (rest : Option Waiting) → x ≡ e → b ≡ true → option_map (λ (w : Waiting). w.waiter) (cond b (Some (waiting_of x)) rest) ≡ Some e.1
head_here true x e rest same is = ap (λ (y : Turn × Waiter). Some y.1) same
head_here false x e rest same is = absurd (cc)

pub head_urgent : (es : List (Turn × Waiter)) (e : Turn × Waiter) → slice_get es 0 ≡ Some e → int_eq e.0.behind (negsuc 99) ≡ true → option_map (λ (w : Waiting). w.waiter) (first_of true (waiting_in es)) ≡ Some e.1
head_urgent [] e is urgent = absurd (cc)
head_urgent (x ∷ es) e is urgent = head_here (is_urgent (neg_ℤ x.0.behind)) x e (first_of true (waiting_in es)) (let same : x ≡ e = cc in same) (same_class x.0.behind ∙ ap (λ (y : Turn × Waiter). int_eq y.0.behind (negsuc 99)) (let same : x ≡ e = cc in same) ∙ urgent)

pub head_ordinary : (es : List (Turn × Waiter)) (e : Turn × Waiter) → slice_get es 0 ≡ Some e → int_eq e.0.behind (negsuc 99) ≡ false → UrgentFirst (waiting_in es) → first_of true (waiting_in es) ≡ None
head_ordinary [] e is ordinary ordered = refl
head_ordinary (x ∷ es) e is ordinary ordered =
    let class : is_urgent (neg_ℤ x.0.behind) ≡ false = same_class x.0.behind ∙ ap (λ (y : Turn × Waiter). int_eq y.0.behind (negsuc 99)) (let same : x ≡ e = cc in same) ∙ ordinary in
    skip_none (is_urgent (neg_ℤ x.0.behind)) (waiting_of x) (first_of true (waiting_in es)) class (ordered.0 class)

pub no_head : (u : Bool) (es : List (Turn × Waiter)) → length es ≡ 0 → first_of u (waiting_in es) ≡ None
no_head u [] none = refl
no_head u (e ∷ es) none = absurd (omega (arith, none))

first_ordinary : Turn
first_ordinary = record { behind = negsuc 98; arrival = 0 }

ranged : (e : Turn × Waiter) → negsuc 99 ≤ℤ e.0.behind → (is_le (turn_cmp first_ordinary e.0) && true) ≡ not (is_urgent (neg_ℤ e.0.behind))
unfolding first_ordinary
ranged e lawful = grind (arith, ints, nat_tests, lawful)

found_or_later : (b c : Bool) (e : Turn × Waiter) (fs : List (Turn × Waiter)) (rest : Option Waiting) → b ≡ c → option_map (λ (w : Waiting). w.waiter) rest ≡ option_map (λ (x : Turn × Waiter). x.1) (slice_get fs 0)
    → option_map (λ (w : Waiting). w.waiter) (cond c (Some (waiting_of e)) rest) ≡ option_map (λ (x : Turn × Waiter). x.1) (slice_get (cond b (e ∷ fs) fs) 0)
found_or_later true true e fs rest is later = refl
found_or_later true false e fs rest is later = absurd (cc)
found_or_later false true e fs rest is later = absurd (cc)
found_or_later false false e fs rest is later = later

pub first_in_range : (n : ℕ) (es : List (Turn × Waiter)) → AllByRecursion (IsEarly n) es → option_map (λ (w : Waiting). w.waiter) (first_of false (waiting_in es)) ≡ option_map (λ (x : Turn × Waiter). x.1) (slice_get (filter (λ e. is_le (turn_cmp (record { behind = negsuc 98; arrival = 0 }) e.0) && true) es) 0)
unfolding first_ordinary
first_in_range n [] early = refl
first_in_range n (e ∷ es) early =
    found_or_later (is_le (turn_cmp (record { behind = negsuc 98; arrival = 0 }) e.0) && true) (not (is_urgent (neg_ℤ e.0.behind))) e (filter (λ x. is_le (turn_cmp (record { behind = negsuc 98; arrival = 0 }) x.0) && true) es) (first_of false (waiting_in es)) (ranged e early.0.0) (first_in_range n es early.1)
