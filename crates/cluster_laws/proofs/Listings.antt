-- What is listed is there once, and in its order.
use Rattle.std.proofs.Common.{◌≡◌, refl, sym, ap, ◌∙◌, ℕ, ◌==◌, ◌&&◌, Ordering, Less, Equal, Greater, Bool, true, false, not, List, [], ◌∷◌, cond, arith}
use Rattle.std.specs.Prelude.{filter}
use Rattle.std.specs.Ordering.{is_lt, nat_cmp, ordering_reverse}
use Rattle.std.specs.Cmp.Lexicographic.{slice_cmp}
use Rattle.std.proofs.lemmas.Bool.Decides.{Decides-eqb, nat_tests}
use Rattle.std.proofs.lemmas.Cmp.{nat_list_cmp_total}
use Rattle.base_names.specs.declared.seat.Role.{Role}
use Rattle.base_names.specs.declared.seat.Role.TheVariants.{Standard, Admin}
use Rattle.base_names.specs.declared.seat.Seat.{Seat}
use Rattle.table_defs.specs.Names.{is_owner}
use Rattle.cluster_defs.specs.Cluster.{Job}
use Rattle.cluster_defs.specs.Listing.{IsInOrder, IsNotBehind, by_seat, is_earlier, is_lower, listed_jobs, seated_in}
use Rattle.cluster_defs.specs.Waiters.{is_role, is_seat}
use Rattle.table_defs.proofs.Names.{and_left, and_right, owner_is, owner_refl}

-- the kind that p tells has one place in the order
abbrev IsKind : (Job → Bool) → Type 0
IsKind p = (a b : Job) → p a ≡ true → p b ≡ true → is_earlier a.seat b.seat ≡ false

seated_by : (p : Job → Bool) (job next : Job) (jobs : List Job) (a b e : Bool) → p job ≡ a → p next ≡ b → is_earlier next.seat job.seat ≡ e → IsKind p → filter p (seated_in job jobs) ≡ cond a (job ∷ filter p jobs) (filter p jobs)
    → filter p (cond e (next ∷ seated_in job jobs) (job ∷ next ∷ jobs)) ≡ cond a (job ∷ filter p (next ∷ jobs)) (filter p (next ∷ jobs))
seated_by p job next jobs a b false is js es kind later = ap (λ (x : Bool). cond x (job ∷ filter p (next ∷ jobs)) (filter p (next ∷ jobs))) is
seated_by p job next jobs a false true is js es kind later = rw js later
seated_by p job next jobs false true true is js es kind later = rw js (ap (λ (x : List Job). next ∷ x) later)
seated_by p job next jobs true true true is js es kind later = let k = kind next job js is in absurd (grind (arith, k, es))

seated : (p : Job → Bool) (job : Job) (jobs : List Job) → IsKind p → filter p (seated_in job jobs) ≡ filter p (job ∷ jobs)
seated p job [] kind = refl
seated p job (next ∷ jobs) kind = seated_by p job next jobs (p job) (p next) (is_earlier next.seat job.seat) refl refl refl kind (seated p job jobs kind)

seated_same : (p : Job → Bool) (job : Job) (xs ys : List Job) → filter p xs ≡ filter p ys → filter p (job ∷ xs) ≡ filter p (job ∷ ys)
seated_same p job xs ys h = ap (λ (zs : List Job). cond (p job) (job ∷ zs) zs) h

same_kind : (p : Job → Bool) (jobs : List Job) → IsKind p → filter p (by_seat jobs) ≡ filter p jobs
same_kind p [] kind = refl
same_kind p (job ∷ jobs) kind = seated p job (by_seat jobs) kind ∙ seated_same p job (by_seat jobs) jobs (same_kind p jobs kind)

-- ---- the order

flipped : (o : Ordering) → is_lt o ≡ true → is_lt (ordering_reverse o) ≡ false
flipped Less h = refl
flipped Equal h = refl
flipped Greater h = absurd (grind (arith, h))

pub owners_apart : (a b : List ℕ) → is_lt (slice_cmp nat_cmp a b) ≡ true → is_lt (slice_cmp nat_cmp b a) ≡ false
owners_apart a b h = ap is_lt (nat_list_cmp_total.antisymm b a) ∙ flipped (slice_cmp nat_cmp a b) h

roles_apart : (a b : Role) → is_lower a b ≡ true → is_lower b a ≡ false
roles_apart Standard Standard h = refl
roles_apart Standard Admin h = refl
roles_apart Admin Standard h = absurd (grind (arith, h))
roles_apart Admin Admin h = refl

owners_differ : (x : Bool) → x ≡ true → x ≡ false → ⊥
owners_differ x h k = grind (arith, h, k)

flip_by : (a b : List ℕ) (x y : Bool) → is_owner a b ≡ x → is_owner b a ≡ y → x ≡ y
flip_by a b true true is js = refl
flip_by a b false false is js = refl
flip_by a b true false is js = absurd (owners_differ (is_owner b a) (ap (is_owner b) (owner_is a b is) ∙ owner_refl b) js)
flip_by a b false true is js = absurd (owners_differ (is_owner a b) (ap (is_owner a) (owner_is b a js) ∙ owner_refl a) is)

pub flip_owner : (a b : List ℕ) → is_owner a b ≡ is_owner b a
flip_owner a b = flip_by a b (is_owner a b) (is_owner b a) refl refl

numbers_flip : (a b : ℕ) → (a == b) ≡ (b == a)
numbers_flip a b = grind (arith, nat_tests)

seats_apart : (a b : Seat) (n o : Bool) → (a.number == b.number) ≡ n → is_owner a.owner b.owner ≡ o → is_earlier a b ≡ true → is_earlier b a ≡ false
seats_apart a b true true ns os h = let i = sym (numbers_flip a.number b.number) ∙ ns in let j = sym (flip_owner a.owner b.owner) ∙ os in rw (i, j) (roles_apart a.role b.role (sym (rw (ns, os) refl) ∙ h))
seats_apart a b true false ns os h = let i = sym (numbers_flip a.number b.number) ∙ ns in let j = sym (flip_owner a.owner b.owner) ∙ os in rw (i, j) (owners_apart a.owner b.owner (sym (rw (ns, os) refl) ∙ h))
seats_apart a b false o ns os h = let i = sym (numbers_flip a.number b.number) ∙ ns in rw i (grind (arith, nat_tests, h, ns))

third_by : (job next third : Job) (jobs : List Job) (e : Bool) → is_earlier next.seat job.seat ≡ true → is_earlier third.seat next.seat ≡ false → IsNotBehind next (cond e (third ∷ seated_in job jobs) (job ∷ third ∷ jobs))
third_by job next third jobs true is behind = behind
third_by job next third jobs false is behind = seats_apart next.seat job.seat _ _ refl refl is

head_seated : (job next : Job) (jobs : List Job) → is_earlier next.seat job.seat ≡ true → IsNotBehind next jobs → IsNotBehind next (seated_in job jobs)
head_seated job next [] is behind = seats_apart next.seat job.seat _ _ refl refl is
head_seated job next (third ∷ jobs) is behind = third_by job next third jobs (is_earlier third.seat job.seat) is behind

ordered_by : (job next : Job) (jobs : List Job) (e : Bool) → is_earlier next.seat job.seat ≡ e → IsInOrder (next ∷ jobs) → IsInOrder (seated_in job jobs) → IsInOrder (cond e (next ∷ seated_in job jobs) (job ∷ next ∷ jobs))
ordered_by job next jobs true is order later = (head_seated job next jobs is order.0, later)
ordered_by job next jobs false is order later = (is, order)

seated_order : (job : Job) (jobs : List Job) → IsInOrder jobs → IsInOrder (seated_in job jobs)
seated_order job [] order = (tt, tt)
seated_order job (next ∷ jobs) order = ordered_by job next jobs (is_earlier next.seat job.seat) refl order (seated_order job jobs order.1)

pub by_seat_order : (jobs : List Job) → IsInOrder (by_seat jobs)
by_seat_order [] = tt
by_seat_order (job ∷ jobs) = seated_order job (by_seat jobs) (by_seat_order jobs)

pub listed_order : (jobs : List Job) → IsInOrder (listed_jobs jobs)
listed_order jobs = by_seat_order (filter (λ job. not job.lost) jobs)

-- ---- each seat's job is there

role_same : (r a b : Role) → is_role r a ≡ true → is_role r b ≡ true → is_lower a b ≡ false
role_same Standard Standard Standard h k = refl
role_same Admin Admin Admin h k = refl
role_same Standard Standard Admin h k = absurd (grind (arith, k))
role_same Standard Admin b h k = absurd (grind (arith, h))
role_same Admin Standard b h k = absurd (grind (arith, h))
role_same Admin Admin Standard h k = refl

pub seat_parts : (s a : Seat) → is_seat s a ≡ true → (s.number ≡ a.number) × (s.owner ≡ a.owner) × (is_role s.role a.role ≡ true)
unfolding is_seat
seat_parts s a h =
    let two = and_left ((s.number == a.number) && is_owner s.owner a.owner) (is_role s.role a.role) h in
    ((Decides-eqb s.number a.number).0 (and_left (s.number == a.number) (is_owner s.owner a.owner) two), owner_is s.owner a.owner (and_right (s.number == a.number) (is_owner s.owner a.owner) two), and_right ((s.number == a.number) && is_owner s.owner a.owner) (is_role s.role a.role) h)

one_place : (s a b : Seat) → is_seat s a ≡ true → is_seat s b ≡ true → is_earlier a b ≡ false
one_place s a b h k =
    let x = seat_parts s a h in
    let y = seat_parts s b k in
    let n : (a.number == b.number) ≡ true = (Decides-eqb a.number b.number).1 (sym x.0 ∙ y.0) in
    let o : is_owner a.owner b.owner ≡ true = ap (is_owner a.owner) (sym y.1 ∙ x.1) ∙ owner_refl a.owner in
    rw (n, o) (role_same s.role a.role b.role x.2 y.2)

pub listed_once : (s : Seat) (jobs : List Job) → filter (λ job. is_seat s job.seat) (listed_jobs jobs) ≡ filter (λ job. is_seat s job.seat) (filter (λ job. not job.lost) jobs)
listed_once s jobs = same_kind (λ job. is_seat s job.seat) (filter (λ job. not job.lost) jobs) (λ a b. one_place s a.seat b.seat)
