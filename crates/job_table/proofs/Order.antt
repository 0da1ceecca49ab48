-- A cluster's jobs by seat: what is done to them is done to them by seat.
use Rattle.std.proofs.Common.{◌≡◌, refl, sym, ap, ap₂, ◌∙◌, Ordering, Less, Equal, Greater, Bool, true, false, not, List, [], ◌∷◌, ◌++◌, Option, Some, None, cond, arith}
use Rattle.std.specs.BTreeMap.Comparable.{le_lt_trans}
use Rattle.std.specs.Cmp.{IsTotalOrder, nat_cmp_total, on_total, then_total}
use Rattle.std.specs.List.{AllByRecursion}
use Rattle.std.specs.Ordering.{is_le, is_lt, ordering_reverse}
use Rattle.std.specs.Prelude.{if◌then◌else◌, filter, map}
use Rattle.std.proofs.lemmas.Cmp.{nat_list_cmp_total}
use Rattle.base_names.specs.contracts.seat.RoleOrd.TheImpl as roles
use Rattle.base_names.specs.contracts.seat.SeatOrd.TheImpl as seats
use Rattle.base_names.specs.declared.seat.Role.{Role}
use Rattle.base_names.specs.declared.seat.Role.TheVariants.{Standard, Admin}
use Rattle.base_names.specs.declared.seat.Seat.{Seat}
use Rattle.table_defs.specs.Lists.{changed}
use Rattle.table_defs.proofs.Names.{bool_off}
use Rattle.cluster_defs.specs.Cluster.{Job, job_of}
use Rattle.cluster_defs.specs.Listing.{IsInOrder, by_seat, is_earlier, job_line, listed_jobs, seated_in}
use Rattle.cluster_defs.specs.Waiters.{is_seat}
use Rattle.cluster_laws.proofs.Listings.{by_seat_order}
use Rattle.cluster_laws.proofs.Seated.{seat_is}
use Rattle.cluster_laws.proofs.Waiters.{seat_refl}
use Rattle.job_table.specs.Jobs.{lines}
use Rattle.job_table.proofs.Rows.{earlier_is, none_if, seat_order}

-- ---- which seat is earlier

role_flips : (a b : Role) → roles.ghosts.cmp a b ≡ ordering_reverse (roles.ghosts.cmp b a)
role_flips Standard Standard = refl
role_flips Standard Admin = refl
role_flips Admin Standard = refl
role_flips Admin Admin = refl

role_chain : (a b c : Role) → roles.ghosts.cmp a b ≡ Less → roles.ghosts.cmp b c ≡ Less → roles.ghosts.cmp a c ≡ Less
role_chain Standard Standard c h k = absurd (let e : Equal ≡ Less = h in cc)
role_chain Standard Admin Standard h k = absurd (let e : Greater ≡ Less = k in cc)
role_chain Standard Admin Admin h k = refl
role_chain Admin Standard c h k = absurd (let e : Greater ≡ Less = h in cc)
role_chain Admin Admin c h k = absurd (let e : Equal ≡ Less = h in cc)

role_level : (a b c : Role) → roles.ghosts.cmp a b ≡ Equal → roles.ghosts.cmp a c ≡ roles.ghosts.cmp b c
role_level Standard Standard c h = refl
role_level Standard Admin c h = absurd (let e : Less ≡ Equal = h in cc)
role_level Admin Standard c h = absurd (let e : Greater ≡ Equal = h in cc)
role_level Admin Admin c h = refl

role_total : IsTotalOrder roles.ghosts.cmp
role_total = record { antisymm = role_flips; trans = role_chain; congr = role_level }

seat_total : IsTotalOrder seats.ghosts.cmp
seat_total = then_total (on_total (λ (s : Seat). s.number) nat_cmp_total) (then_total (on_total (λ (s : Seat). s.owner) nat_list_cmp_total) (on_total (λ (s : Seat). s.role) role_total))

le_by : (o : Ordering) → is_lt o ≡ false → is_le (ordering_reverse o) ≡ true
le_by Less h = absurd (cc)
le_by Equal h = refl
le_by Greater h = refl

less_by : (o : Ordering) → is_lt o ≡ true → o ≡ Less
less_by Less h = refl
less_by Equal h = absurd (cc)
less_by Greater h = absurd (cc)

not_earlier : (x y : Seat) → is_earlier y x ≡ false → is_le (seats.ghosts.cmp x y) ≡ true
not_earlier x y h = ap is_le (seat_total.antisymm x y) ∙ le_by (seats.ghosts.cmp y x) (sym (earlier_is y x) ∙ h)

-- what is not behind an earlier one is earlier
earlier_than : (x y z : Seat) → is_earlier y x ≡ false → is_earlier y z ≡ true → is_earlier x z ≡ true
earlier_than x y z le lt = earlier_is x z ∙ ap is_lt (le_lt_trans seat_total x y z (not_earlier x y le) (less_by (seats.ghosts.cmp y z) (sym (earlier_is y z) ∙ lt)))

not_true : (b : Bool) → b ≡ true → b ≡ false → ⊥
not_true b p q = grind (arith, p, q)

-- what is behind one that is not earlier is not earlier
behind : (x n m : Seat) → is_earlier n x ≡ false → is_earlier m n ≡ false → is_earlier m x ≡ false
behind x n m first order = bool_off (is_earlier m x) (λ h. not_true (is_earlier n x) (earlier_than n m x order h) first)

-- two seats: one of them is earlier
one_way : (o : Ordering) → (o ≡ Equal → ⊥) → is_lt (ordering_reverse o) ≡ not (is_lt o)
one_way Less other = refl
one_way Equal other = absurd (other refl)
one_way Greater other = refl

same_or_not : (s t : Bool) (o : Ordering) → o ≡ (if s then Equal else (if t then Greater else Less)) → s ≡ false → o ≡ Equal → ⊥
same_or_not true t o is other same = absurd (cc)
same_or_not false true o is other same = let e : Greater ≡ Equal = sym is ∙ same in absurd (cc)
same_or_not false false o is other same = let e : Less ≡ Equal = sym is ∙ same in absurd (cc)

flipped : (x j : Seat) → is_seat j x ≡ false → is_earlier x j ≡ not (is_earlier j x)
flipped x j other =
    earlier_is x j
    ∙ ap is_lt (seat_total.antisymm x j)
    ∙ one_way (seats.ghosts.cmp j x) (same_or_not (is_seat j x) (is_earlier x j) (seats.ghosts.cmp j x) (seat_order j x) other)
    ∙ ap not (sym (earlier_is j x))

-- ---- a job is found

found_here : (s t e : Bool) (x n : Job) (rest later : Option Job) → (e ≡ true → t ≡ true → s ≡ false) → later ≡ (if s then Some x else rest)
    → (if e then (if t then Some n else later) else (if s then Some x else (if t then Some n else rest))) ≡ (if s then Some x else (if t then Some n else rest))
found_here s t false x n rest later apart is = refl
found_here true true true x n rest later apart is = absurd (let h = apart refl refl in cc)
found_here false true true x n rest later apart is = refl
found_here s false true x n rest later apart is = is

find_if : (s : Seat) (e : Bool) (n x : Job) (xs ys : List Job) → job_of s (if e then n ∷ xs else x ∷ ys) ≡ (if e then (if is_seat s n.seat then Some n else job_of s xs) else (if is_seat s x.seat then Some x else job_of s ys))
find_if s true n x xs ys = refl
find_if s false n x xs ys = refl

apart_seats : (s n x : Seat) → is_earlier n x ≡ true → is_seat s n ≡ true → is_seat s x ≡ false
apart_seats s n x lt same = bool_off (is_seat s x) (λ h.
    let e : n ≡ x = sym (seat_is s n same) ∙ seat_is s x h in
    not_true (is_earlier n x) lt (ap (is_earlier n) (sym e) ∙ earlier_is n n ∙ ap is_lt (seat_order n n) ∙ ap (λ (b : Bool). is_lt (if b then Equal else (if is_earlier n n then Greater else Less))) (seat_refl n)))

pub found_seated : (s : Seat) (x : Job) (js : List Job) → job_of s (seated_in x js) ≡ job_of s (x ∷ js)
found_seated s x [] = refl
found_seated s x (n ∷ js) =
    find_if s (is_earlier n.seat x.seat) n x (seated_in x js) (n ∷ js)
    ∙ found_here (is_seat s x.seat) (is_seat s n.seat) (is_earlier n.seat x.seat) x n (job_of s js) (job_of s (seated_in x js)) (λ lt same. apart_seats s n.seat x.seat lt same) (found_seated s x js)

pub found_by_seat : (s : Seat) (js : List Job) → job_of s (by_seat js) ≡ job_of s js
found_by_seat s [] = refl
found_by_seat s (x ∷ js) = found_seated s x (by_seat js) ∙ ap (λ (o : Option Job). if is_seat s x.seat then Some x else o) (found_by_seat s js)

-- ---- a job comes

swap_here : (a b c d : Bool) (x j n : Job) (r xs js both : List Job) → d ≡ not c → (b ≡ false → a ≡ true → d ≡ true) → (a ≡ false → b ≡ true → c ≡ true) → both ≡ both
    → (if a then (if b then n ∷ both else x ∷ n ∷ js) else (if c then j ∷ (if b then n ∷ xs else x ∷ n ∷ r) else x ∷ j ∷ n ∷ r))
    ≡ (if b then (if a then n ∷ both else j ∷ n ∷ xs) else (if d then x ∷ (if a then n ∷ js else j ∷ n ∷ r) else j ∷ x ∷ n ∷ r))
swap_here true true c d x j n r xs js both flip first second same = refl
swap_here true false c true x j n r xs js both flip first second same = refl
swap_here true false c false x j n r xs js both flip first second same = absurd (let e = first refl refl in cc)
swap_here false true true d x j n r xs js both flip first second same = refl
swap_here false true false d x j n r xs js both flip first second same = absurd (let e = second refl refl in cc)
swap_here false false true true x j n r xs js both flip first second same = absurd (cc)
swap_here false false true false x j n r xs js both flip first second same = refl
swap_here false false false true x j n r xs js both flip first second same = refl
swap_here false false false false x j n r xs js both flip first second same = absurd (cc)

swap_last : (c d : Bool) (x j : Job) → d ≡ not c → (if c then j ∷ x ∷ [] else x ∷ j ∷ []) ≡ (if d then x ∷ j ∷ [] else j ∷ x ∷ [])
swap_last true true x j flip = absurd (cc)
swap_last true false x j flip = refl
swap_last false true x j flip = refl
swap_last false false x j flip = absurd (cc)

seated_if : (x : Job) (e : Bool) (n j : Job) (xs ys : List Job) → seated_in x (if e then n ∷ xs else j ∷ ys) ≡ (if e then (if is_earlier n.seat x.seat then n ∷ seated_in x xs else x ∷ n ∷ xs) else (if is_earlier j.seat x.seat then j ∷ seated_in x ys else x ∷ j ∷ ys))
seated_if x true n j xs ys = refl
seated_if x false n j xs ys = refl

pub swapped : (x j : Job) (js : List Job) → is_seat j.seat x.seat ≡ false → seated_in x (seated_in j js) ≡ seated_in j (seated_in x js)
swapped x j [] other = swap_last (is_earlier j.seat x.seat) (is_earlier x.seat j.seat) x j (flipped x.seat j.seat other)
swapped x j (n ∷ r) other =
    seated_if x (is_earlier n.seat j.seat) n j (seated_in j r) (n ∷ r)
    ∙ ap (λ (l : List Job). if is_earlier n.seat j.seat then (if is_earlier n.seat x.seat then n ∷ l else x ∷ n ∷ seated_in j r) else (if is_earlier j.seat x.seat then j ∷ seated_in x (n ∷ r) else x ∷ j ∷ n ∷ r)) (swapped x j r other)
    ∙ swap_here (is_earlier n.seat j.seat) (is_earlier n.seat x.seat) (is_earlier j.seat x.seat) (is_earlier x.seat j.seat) x j n r (seated_in x r) (seated_in j r) (seated_in j (seated_in x r)) (flipped x.seat j.seat other)
    (λ le lt. earlier_than x.seat n.seat j.seat le lt) (λ le lt. earlier_than j.seat n.seat x.seat le lt) refl
    ∙ sym (seated_if j (is_earlier n.seat x.seat) n x (seated_in x r) (n ∷ r))

pub last_by_seat : (j : Job) (js : List Job) → job_of j.seat js ≡ None → by_seat (js ++ j ∷ []) ≡ seated_in j (by_seat js)
last_by_seat j [] none = refl
last_by_seat j (x ∷ js) none =
    let n = none_if (is_seat j.seat x.seat) x (job_of j.seat js) none in
    ap (seated_in x) (last_by_seat j js n.1) ∙ swapped x j (by_seat js) n.0

-- ---- jobs go

all_behind : (x n : Job) (js : List Job) → is_earlier n.seat x.seat ≡ false → IsInOrder (n ∷ js) → AllByRecursion (λ m. is_earlier m.seat x.seat ≡ false) js
all_behind x n [] first order = tt
all_behind x n (m ∷ js) first order = let here = behind x.seat n.seat m.seat first order.0 in (here, all_behind x m js here order.1)

not_if : (e : Bool) (n x : Job) (xs ys : List Job) → e ≡ false → (if e then n ∷ xs else x ∷ ys) ≡ x ∷ ys
not_if true n x xs ys off = absurd (cc)
not_if false n x xs ys off = refl

first_if : (b : Bool) (x m : Job) (l : List Job) → is_earlier m.seat x.seat ≡ false → seated_in x l ≡ x ∷ l → seated_in x (cond b (m ∷ l) l) ≡ x ∷ cond b (m ∷ l) l
first_if true x m l off later = not_if (is_earlier m.seat x.seat) m x (seated_in x l) (m ∷ l) off
first_if false x m l off later = later

goes_first : (p : Job → Bool) (x : Job) (js : List Job) → AllByRecursion (λ m. is_earlier m.seat x.seat ≡ false) js → seated_in x (filter p js) ≡ x ∷ filter p js
goes_first p x [] all = refl
goes_first p x (m ∷ js) all = first_if (p m) x m (filter p js) all.0 (goes_first p x js all.1)

filter_if : (p : Job → Bool) (e : Bool) (xs ys : List Job) → filter p (if e then xs else ys) ≡ (if e then filter p xs else filter p ys)
filter_if p true xs ys = refl
filter_if p false xs ys = refl

kept_here : (px pn e : Bool) (x n : Job) (fs later : List Job) → is_earlier n.seat x.seat ≡ e → (e ≡ false → seated_in x (cond pn (n ∷ fs) fs) ≡ x ∷ cond pn (n ∷ fs) fs) → later ≡ (if px then seated_in x fs else fs)
    → (if e then cond pn (n ∷ later) later else cond px (x ∷ cond pn (n ∷ fs) fs) (cond pn (n ∷ fs) fs)) ≡ (if px then seated_in x (cond pn (n ∷ fs) fs) else cond pn (n ∷ fs) fs)
kept_here true pn false x n fs later es first is = sym (first refl)
kept_here false pn false x n fs later es first is = refl
kept_here true true true x n fs later es first is = ap (λ (l : List Job). n ∷ l) is ∙ sym (ap (λ (b : Bool). if b then n ∷ seated_in x fs else x ∷ n ∷ fs) es)
kept_here true false true x n fs later es first is = is
kept_here false true true x n fs later es first is = ap (λ (l : List Job). n ∷ l) is
kept_here false false true x n fs later es first is = is

one_if : (b : Bool) (x : Job) → cond b (x ∷ []) [] ≡ (if b then x ∷ [] else [])
one_if true x = refl
one_if false x = refl

filter_seated : (p : Job → Bool) (x : Job) (js : List Job) → IsInOrder js → filter p (seated_in x js) ≡ (if p x then seated_in x (filter p js) else filter p js)
filter_seated p x [] order = one_if (p x) x
filter_seated p x (n ∷ js) order =
    filter_if p (is_earlier n.seat x.seat) (n ∷ seated_in x js) (x ∷ n ∷ js)
    ∙ kept_here (p x) (p n) (is_earlier n.seat x.seat) x n (filter p js) (filter p (seated_in x js)) refl (λ off. goes_first p x (n ∷ js) (off, all_behind x n js off order)) (filter_seated p x js order.1)

by_seat_if : (b : Bool) (x : Job) (js : List Job) → (if b then seated_in x (by_seat js) else by_seat js) ≡ by_seat (cond b (x ∷ js) js)
by_seat_if true x js = refl
by_seat_if false x js = refl

pub filter_by_seat : (p : Job → Bool) (js : List Job) → filter p (by_seat js) ≡ by_seat (filter p js)
filter_by_seat p [] = refl
filter_by_seat p (x ∷ js) = filter_seated p x (by_seat js) (by_seat_order js) ∙ ap (λ (l : List Job). if p x then seated_in x l else l) (filter_by_seat p js) ∙ by_seat_if (p x) x (filter p js)

-- ---- jobs are changed, and keep their seats

map_if : (g : Job → Job) (e : Bool) (xs ys : List Job) → map g (if e then xs else ys) ≡ (if e then map g xs else map g ys)
map_if g true xs ys = refl
map_if g false xs ys = refl

map_seated : (g : Job → Job) → ((j : Job) → (g j).seat ≡ j.seat) → (x : Job) (js : List Job) → map g (seated_in x js) ≡ seated_in (g x) (map g js)
map_seated g keeps x [] = refl
map_seated g keeps x (n ∷ js) =
    map_if g (is_earlier n.seat x.seat) (n ∷ seated_in x js) (x ∷ n ∷ js)
    ∙ ap₂ (λ (b : Bool) (l : List Job). if b then g n ∷ l else g x ∷ g n ∷ map g js) (ap₂ (λ (a b : Seat). is_earlier a b) (sym (keeps n)) (sym (keeps x))) (map_seated g keeps x js)

map_by_seat : (g : Job → Job) → ((j : Job) → (g j).seat ≡ j.seat) → (js : List Job) → map g (by_seat js) ≡ by_seat (map g js)
map_by_seat g keeps [] = refl
map_by_seat g keeps (x ∷ js) = map_seated g keeps x (by_seat js) ∙ ap (seated_in (g x)) (map_by_seat g keeps js)

keeps_if : (t : Job → Bool) (f : Job → Job) → ((j : Job) → (f j).seat ≡ j.seat) → (j : Job) (b : Bool) → (if b then f j else j).seat ≡ j.seat
keeps_if t f keeps j true = keeps j
keeps_if t f keeps j false = refl

pub changed_by_seat : (t : Job → Bool) (f : Job → Job) → ((j : Job) → (f j).seat ≡ j.seat) → (js : List Job) → changed t f (by_seat js) ≡ by_seat (changed t f js)
changed_by_seat t f keeps js = map_by_seat (λ j. if t j then f j else j) (λ j. keeps_if t f keeps j (t j)) js

pub lines_by_seat : (js : List Job) → lines (by_seat js) ≡ map job_line (listed_jobs js)
lines_by_seat js = ap (map job_line) (filter_by_seat (λ job. not job.lost) js)
