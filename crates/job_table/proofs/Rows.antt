-- Entries by seat are jobs in the order in which they are listed.
use Rattle.std.proofs.Common.{◌≡◌, refl, sym, ap, ap₂, ◌∙◌, ℕ, ◌==◌, Ordering, Less, Equal, Greater, Bool, true, false, not, List, [], ◌∷◌, Option, Some, None, cond, arith}
use Rattle.std.specs.BTreeMap.{insert_entry, is_at}
use Rattle.std.specs.Cmp.Lexicographic.{slice_cmp}
use Rattle.std.specs.List.{AllByRecursion}
use Rattle.std.specs.List.Sorted.{IsStrictlySortedBy}
use Rattle.std.specs.Map.{keys_of, lookup, remove_entry}
use Rattle.std.specs.Ordering.{is_eq, is_lt, match_ordering, nat_cmp, ordering_reverse, ordering_then}
use Rattle.std.specs.Prelude.{if◌then◌else◌, is_some, nat_lt, option_map, Result, Ok, Err, OnErr}
use Rattle.std.specs.Result.{is_ok}
use Rattle.std.proofs.lemmas.Bool.Decides.{nat_tests}
use Rattle.std.proofs.lemmas.Cmp.{nat_list_cmp_total}
use Rattle.std.proofs.lemmas.Map.Keys.{sorted_head, sorted_tail}
use Rattle.std.proofs.lemmas.Map.Lookups.{exact_bytes}
use Rattle.base_names.specs.contracts.seat.RoleOrd.TheImpl as roles
use Rattle.base_names.specs.contracts.seat.SeatOrd.TheImpl as seats
use Rattle.base_names.specs.declared.seat.Role.{Role}
use Rattle.base_names.specs.declared.seat.Role.TheVariants.{Standard, Admin}
use Rattle.base_names.specs.declared.seat.Seat.{Seat}
use Rattle.table_defs.specs.Names.{Owner, is_owner}
use Rattle.table_defs.proofs.Names.{bool_off, not_both, owner_is, owner_refl}
use Rattle.cluster_defs.specs.Cluster.{Job, job_of}
use Rattle.cluster_defs.specs.Effects.{without_job}
use Rattle.cluster_defs.specs.Listing.{comes_first, is_earlier, is_lower, seated_in}
use Rattle.cluster_defs.specs.Waiters.{is_role, is_seat}
use Rattle.cluster_laws.proofs.Listings.{flip_owner}
use Rattle.cluster_laws.proofs.Seated.{seat_is}
use Rattle.job_table.specs.declared.job.Row.{Row}
use Rattle.job_table.specs.Jobs.{IsOnce, job_at, job_in, jobs_in, set_job}

-- ---- the order of seats

less_number : (a b : ℕ) → nat_cmp a b ≡ Less → ((a == b) ≡ false) × ((b == a) ≡ false) × (nat_lt b a ≡ false)
less_number a b h = (grind (arith, nat_tests, h), grind (arith, nat_tests, h), grind (arith, nat_tests, h))

greater_number : (a b : ℕ) → nat_cmp a b ≡ Greater → ((a == b) ≡ false) × ((b == a) ≡ false) × (nat_lt b a ≡ true)
greater_number a b h = (grind (arith, nat_tests, h), grind (arith, nat_tests, h), grind (arith, nat_tests, h))

same_number : (a b : ℕ) → nat_cmp a b ≡ Equal → ((a == b) ≡ true) × ((b == a) ≡ true)
same_number a b h = (grind (arith, nat_tests, h), grind (arith, nat_tests, h))

owner_reflexive : (o : Ordering) → o ≡ ordering_reverse o → o ≡ Equal
owner_reflexive Less h = absurd (cc)
owner_reflexive Equal h = refl
owner_reflexive Greater h = absurd (cc)

same_owner : (a b : Owner) → is_owner a b ≡ true → slice_cmp nat_cmp a b ≡ Equal
same_owner a b h = ap (slice_cmp nat_cmp a) (sym (owner_is a b h)) ∙ owner_reflexive (slice_cmp nat_cmp a a) (nat_list_cmp_total.antisymm a a)

apart : (a b : Owner) (o : Ordering) → slice_cmp nat_cmp a b ≡ o → (o ≡ Equal → ⊥) → is_owner a b ≡ false
apart a b o is other = bool_off (is_owner a b) (λ h. other (sym is ∙ same_owner a b h))

equal_owner : (a b : Owner) → slice_cmp nat_cmp a b ≡ Equal → is_owner a b ≡ true
equal_owner a b h = ap (is_owner a) (sym (exact_bytes a b h)) ∙ owner_refl a

first_owner : (a b : Owner) (o : Ordering) → slice_cmp nat_cmp a b ≡ o → comes_first b a ≡ is_lt (ordering_reverse o)
first_owner a b o is = ap is_lt (nat_list_cmp_total.antisymm b a ∙ ap ordering_reverse is)

role_order : (a b : Role) → roles.ghosts.cmp a b ≡ (if is_role a b then Equal else (if is_lower b a then Greater else Less))
role_order Standard Standard = refl
role_order Standard Admin = refl
role_order Admin Standard = refl
role_order Admin Admin = refl

order_by : (k e : Seat) (n o : Ordering) → nat_cmp k.number e.number ≡ n → slice_cmp nat_cmp k.owner e.owner ≡ o
    → ordering_then n (ordering_then o (roles.ghosts.cmp k.role e.role)) ≡ (if is_seat k e then Equal else (if is_earlier e k then Greater else Less))
unfolding is_seat
order_by k e Less o ns os = let f = less_number k.number e.number ns in rw (f.0, f.1, f.2) refl
order_by k e Greater o ns os = let f = greater_number k.number e.number ns in rw (f.0, f.1, f.2) refl
order_by k e Equal Less ns os =
    let f = same_number k.number e.number ns in
    let a = apart k.owner e.owner Less os (λ h. absurd (cc)) in
    let b = sym (flip_owner k.owner e.owner) ∙ a in
    let c = first_owner k.owner e.owner Less os in
    rw (f.0, f.1, a, b, c) refl
order_by k e Equal Greater ns os =
    let f = same_number k.number e.number ns in
    let a = apart k.owner e.owner Greater os (λ h. absurd (cc)) in
    let b = sym (flip_owner k.owner e.owner) ∙ a in
    let c = first_owner k.owner e.owner Greater os in
    rw (f.0, f.1, a, b, c) refl
order_by k e Equal Equal ns os =
    let f = same_number k.number e.number ns in
    let a = equal_owner k.owner e.owner os in
    let b = sym (flip_owner k.owner e.owner) ∙ a in
    rw (f.0, f.1, a, b) (role_order k.role e.role)

lower_role : (a b : Role) → is_lower a b ≡ is_lt (roles.ghosts.cmp a b)
lower_role Standard Standard = refl
lower_role Standard Admin = refl
lower_role Admin Standard = refl
lower_role Admin Admin = refl

earlier_by : (a b : Seat) (n o : Ordering) → nat_cmp a.number b.number ≡ n → slice_cmp nat_cmp a.owner b.owner ≡ o → is_earlier a b ≡ is_lt (ordering_then n (ordering_then o (roles.ghosts.cmp a.role b.role)))
earlier_by a b Less o ns os = let f = less_number a.number b.number ns in rw f.0 (grind (arith, nat_tests, ns))
earlier_by a b Greater o ns os = let f = greater_number a.number b.number ns in rw f.0 (grind (arith, nat_tests, ns))
earlier_by a b Equal Less ns os = let f = same_number a.number b.number ns in rw (f.0, apart a.owner b.owner Less os (λ h. absurd (cc))) (ap is_lt os)
earlier_by a b Equal Greater ns os = let f = same_number a.number b.number ns in rw (f.0, apart a.owner b.owner Greater os (λ h. absurd (cc))) (ap is_lt os)
earlier_by a b Equal Equal ns os = let f = same_number a.number b.number ns in rw (f.0, equal_owner a.owner b.owner os) (lower_role a.role b.role)

pub earlier_is : (a b : Seat) → is_earlier a b ≡ is_lt (seats.ghosts.cmp a b)
earlier_is a b = earlier_by a b (nat_cmp a.number b.number) (slice_cmp nat_cmp a.owner b.owner) refl refl

pub seat_order : (k e : Seat) → seats.ghosts.cmp k e ≡ (if is_seat k e then Equal else (if is_earlier e k then Greater else Less))
seat_order k e = order_by k e (nat_cmp k.number e.number) (slice_cmp nat_cmp k.owner e.owner) refl refl

equal_by : (s t : Bool) → is_eq (if s then Equal else (if t then Greater else Less)) ≡ s
equal_by true t = refl
equal_by false true = refl
equal_by false false = refl

pub at_seat : (k e : Seat) → is_at (seats.ghosts.cmp k) e ≡ is_seat k e
at_seat k e = ap is_eq (seat_order k e) ∙ equal_by (is_seat k e) (is_earlier e k)

-- ---- one is found

found_here : (b c : Bool) (k s : Seat) (row : Row) (rest : Option Row) (others : Option Job) → b ≡ c → (c ≡ true → k ≡ s) → option_map (job_at k) rest ≡ others
    → option_map (job_at k) (cond b (Some row) rest) ≡ (if c then Some (job_at s row) else others)
found_here true true k s row rest others same here later = ap (λ (x : Seat). Some (job_at x row)) (here refl)
found_here false false k s row rest others same here later = later
found_here true false k s row rest others same here later = absurd (cc)
found_here false true k s row rest others same here later = absurd (cc)

pub looked_up : (k : Seat) (es : List (Seat × Row)) → option_map (job_at k) (lookup (is_at (seats.ghosts.cmp k)) es) ≡ job_of k (jobs_in es)
looked_up k [] = refl
looked_up k (e ∷ es) = found_here (is_at (seats.ghosts.cmp k) e.0) (is_seat k e.0) k e.0 e.1 (lookup (is_at (seats.ghosts.cmp k)) es) (job_of k (jobs_in es)) (at_seat k e.0) (seat_is k e.0) (looked_up k es)

-- ---- one comes

pub none_if : (b : Bool) (x : Job) (rest : Option Job) → (if b then Some x else rest) ≡ None → (b ≡ false) × (rest ≡ None)
none_if true x rest h = absurd (cc)
none_if false x rest h = (refl, h)

inserted_here : (s t : Bool) (o : Ordering) (k : Seat) (row : Row) (e : Seat × Row) (es fs : List (Seat × Row)) → o ≡ (if s then Equal else (if t then Greater else Less)) → s ≡ false → jobs_in fs ≡ seated_in (job_at k row) (jobs_in es)
    → jobs_in (match_ordering o ((k, row) ∷ e ∷ es) ((e.0, row) ∷ es) (e ∷ fs)) ≡ (if t then job_in e ∷ seated_in (job_at k row) (jobs_in es) else job_at k row ∷ job_in e ∷ jobs_in es)
inserted_here true t o k row e es fs is other later = absurd (cc)
inserted_here false true o k row e es fs is other later = rw is (ap (λ (l : List Job). job_in e ∷ l) later)
inserted_here false false o k row e es fs is other later = rw is refl

pub inserted : (k : Seat) (row : Row) (es : List (Seat × Row)) → job_of k (jobs_in es) ≡ None → jobs_in (insert_entry seats.ghosts.cmp es k row) ≡ seated_in (job_at k row) (jobs_in es)
inserted k row [] none = refl
inserted k row (e ∷ es) none =
    let n = none_if (is_seat k e.0) (job_in e) (job_of k (jobs_in es)) none in
    inserted_here (is_seat k e.0) (is_earlier e.0 k) (seats.ghosts.cmp k e.0) k row e es (insert_entry seats.ghosts.cmp es k row) (seat_order k e.0) n.0 (inserted k row es n.1)

-- ---- each seat has one

off_behind : (k e y : Seat) → is_seat k e ≡ true → seats.ghosts.cmp e y ≡ Less → is_seat k y ≡ false
off_behind k e y same less = sym (at_seat k y) ∙ ap is_eq (ap (λ (x : Seat). seats.ghosts.cmp x y) (seat_is k e same) ∙ less)

skip_if : (b : Bool) (x : Job) (rest : Option Job) → b ≡ false → rest ≡ None → (if b then Some x else rest) ≡ None
skip_if true x rest off none = absurd (cc)
skip_if false x rest off none = none

none_behind : (k e : Seat) → is_seat k e ≡ true → (es : List (Seat × Row)) → AllByRecursion (λ y. seats.ghosts.cmp e y ≡ Less) (keys_of es) → job_of k (jobs_in es) ≡ None
none_behind k e same [] all = refl
none_behind k e same (x ∷ es) all = skip_if (is_seat k x.0) (job_in x) (job_of k (jobs_in es)) (off_behind k e x.0 same all.0) (none_behind k e same es all.1)

pub once : (k : Seat) (es : List (Seat × Row)) → IsStrictlySortedBy seats.ghosts.cmp (keys_of es) → IsOnce k (jobs_in es)
once k [] sorted = tt
once k (e ∷ es) sorted = ((λ same. none_behind k e.0 same es (sorted_head seats.ghosts.cmp e.0 (keys_of es) sorted)), once k es (sorted_tail seats.ghosts.cmp e.0 (keys_of es) sorted))

-- ---- one goes

pub none_gone : (k : Seat) (jobs : List Job) → job_of k jobs ≡ None → without_job k jobs ≡ jobs
none_gone k [] none = refl
none_gone k (job ∷ jobs) none =
    let n = none_if (is_seat k job.seat) job (job_of k jobs) none in
    ap (λ (b : Bool). cond (not b) (job ∷ without_job k jobs) (without_job k jobs)) n.0 ∙ ap (λ (l : List Job). job ∷ l) (none_gone k jobs n.1)

removed_here : (b c : Bool) (e : Seat × Row) (es fs : List (Seat × Row)) (js : List Job) → b ≡ c → (c ≡ true → js ≡ jobs_in es) → jobs_in fs ≡ js
    → jobs_in (cond b es (e ∷ fs)) ≡ cond (not c) (job_in e ∷ js) js
removed_here true true e es fs js same here later = sym (here refl)
removed_here false false e es fs js same here later = ap (λ (l : List Job). job_in e ∷ l) later
removed_here true false e es fs js same here later = absurd (cc)
removed_here false true e es fs js same here later = absurd (cc)

pub removed : (k : Seat) (es : List (Seat × Row)) → IsOnce k (jobs_in es) → jobs_in (remove_entry (is_at (seats.ghosts.cmp k)) es) ≡ without_job k (jobs_in es)
removed k [] one = refl
removed k (e ∷ es) one = removed_here (is_at (seats.ghosts.cmp k) e.0) (is_seat k e.0) e es (remove_entry (is_at (seats.ghosts.cmp k)) es) (without_job k (jobs_in es)) (at_seat k e.0) (λ same. none_gone k (jobs_in es) (one.0 same)) (removed k es one.1)

-- ---- one is set

pub none_set : (k : Seat) (new : Job) (jobs : List Job) → job_of k jobs ≡ None → set_job k new jobs ≡ jobs
none_set k new [] none = refl
none_set k new (job ∷ jobs) none =
    let n = none_if (is_seat k job.seat) job (job_of k jobs) none in
    ap (λ (b : Bool). (if b then new else job) ∷ set_job k new jobs) n.0 ∙ ap (λ (l : List Job). job ∷ l) (none_set k new jobs n.1)

some_if : (b : Bool) (x : Job) (rest : Option Job) → is_some (if b then Some x else rest) ≡ true → b ≡ false → is_some rest ≡ true
some_if true x rest some off = absurd (cc)
some_if false x rest some off = some

among_here : (b : Bool) (k y e : Seat) → (b ≡ true → k ≡ y) → seats.ghosts.cmp e y ≡ Less → (b ≡ false → seats.ghosts.cmp e k ≡ Less) → seats.ghosts.cmp e k ≡ Less
among_here true k y e same less later = ap (seats.ghosts.cmp e) (same refl) ∙ less
among_here false k y e same less later = later refl

-- a seat behind one that is less is above it
among : (k e : Seat) (es : List (Seat × Row)) → AllByRecursion (λ y. seats.ghosts.cmp e y ≡ Less) (keys_of es) → is_some (job_of k (jobs_in es)) ≡ true → seats.ghosts.cmp e k ≡ Less
among k e [] all some = absurd (cc)
among k e (x ∷ es) all some = among_here (is_seat k x.0) k x.0 e (seat_is k x.0) all.0 (λ off. among k e es all.1 (some_if (is_seat k x.0) (job_in x) (job_of k (jobs_in es)) some off))

above : (k e : Seat) → seats.ghosts.cmp e k ≡ Less → is_earlier e k ≡ false → ⊥
above k e less off = let h : is_earlier e k ≡ true = earlier_is e k ∙ ap is_lt less in not_both h off

replaced_here : (s t : Bool) (o : Ordering) (k : Seat) (row : Row) (e : Seat × Row) (es fs : List (Seat × Row)) (js : List Job) → o ≡ (if s then Equal else (if t then Greater else Less)) → (s ≡ true → k ≡ e.0) → (s ≡ true → js ≡ jobs_in es) → (s ≡ false → t ≡ false → ⊥) → (s ≡ false → jobs_in fs ≡ js)
    → jobs_in (match_ordering o ((k, row) ∷ e ∷ es) ((e.0, row) ∷ es) (e ∷ fs)) ≡ (if s then job_at k row else job_in e) ∷ js
replaced_here true t o k row e es fs js is same here not_both later = rw is (ap₂ (λ (x : Seat) (l : List Job). job_at x row ∷ l) (sym (same refl)) (sym (here refl)))
replaced_here false true o k row e es fs js is same here not_both later = rw is (ap (λ (l : List Job). job_in e ∷ l) (later refl))
replaced_here false false o k row e es fs js is same here not_both later = absurd (not_both refl refl)

pub replaced : (k : Seat) (row : Row) (es : List (Seat × Row)) → IsStrictlySortedBy seats.ghosts.cmp (keys_of es) → is_some (job_of k (jobs_in es)) ≡ true → jobs_in (insert_entry seats.ghosts.cmp es k row) ≡ set_job k (job_at k row) (jobs_in es)
replaced k row [] sorted some = absurd (cc)
replaced k row (e ∷ es) sorted some =
    let head = sorted_head seats.ghosts.cmp e.0 (keys_of es) sorted in
    let tail = sorted_tail seats.ghosts.cmp e.0 (keys_of es) sorted in
    let rest : is_seat k e.0 ≡ false → is_some (job_of k (jobs_in es)) ≡ true = some_if (is_seat k e.0) (job_in e) (job_of k (jobs_in es)) some in
    replaced_here (is_seat k e.0) (is_earlier e.0 k) (seats.ghosts.cmp k e.0) k row e es (insert_entry seats.ghosts.cmp es k row) (set_job k (job_at k row) (jobs_in es)) (seat_order k e.0) (seat_is k e.0)
    (λ same. none_set k (job_at k row) (jobs_in es) (none_behind k e.0 same es head))
    (λ other off. above k e.0 (among k e.0 es head (rest other)) off)
    (λ other. replaced k row es tail (rest other))

-- ---- answers of the map

pub on_err : {T E P : Type 0} (r : Result T E) → P → OnErr r P
on_err (Ok x) p = tt
on_err (Err e) p = p

pub ok_where : {T E P : Type 0} (r : Result T E) → OnErr r P → (P → ⊥) → is_ok r ≡ true
ok_where (Ok x) told none = refl
ok_where (Err e) told none = absurd (none told)

some_there : (o : Option Job) → is_some o ≡ true → o ≡ None → ⊥
some_there None some none = absurd (cc)
some_there (Some job) some none = absurd (cc)

pub not_absent : (k : Seat) (es : List (Seat × Row)) → is_some (job_of k (jobs_in es)) ≡ true → lookup (is_at (seats.ghosts.cmp k)) es ≡ None → ⊥
not_absent k es some none = some_there (job_of k (jobs_in es)) some (sym (looked_up k es) ∙ ap (option_map (job_at k)) none)
