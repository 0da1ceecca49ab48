-- How many jobs a seat was given.
use Rattle.std.proofs.Common.{◌≡◌, refl, sym, ap, ap₂, ◌∙◌, ℕ, ◌+◌, ◌==◌, ◌&&◌, Bool, true, false, not, List, [], ◌∷◌, ◌++◌, Option, Some, None, cond}
use Rattle.std.specs.Map.{lookup}
use Rattle.std.specs.Prelude.{if◌then◌else◌, filter, find, unwrap_or}
use Rattle.base_names.specs.contracts.seat.RolePartialEq.TheImpl as roles
use Rattle.base_names.specs.contracts.seat.SeatPartialEq.TheImpl as derived
use Rattle.base_names.specs.declared.seat.Role.{Role}
use Rattle.base_names.specs.declared.seat.Role.TheVariants.{Standard, Admin}
use Rattle.base_names.specs.declared.seat.Seat.{Seat}
use Rattle.table_defs.specs.Lists.{put}
use Rattle.table_defs.specs.Names.{is_owner}
use Rattle.table_defs.proofs.Names.{not_both}
use Rattle.cluster_defs.specs.Cluster.{Given, given_of, jobs_given}
use Rattle.cluster_defs.specs.Waiters.{is_role, is_seat}
use Rattle.cluster_laws.proofs.Seated.{seat_is}
use Rattle.cluster_laws.proofs.Waiters.{seat_refl}
use Rattle.job_table.specs.Jobs.{all_given}

and_assoc : (a b c : Bool) → (a && (b && c)) ≡ ((a && b) && c)
and_assoc true b c = refl
and_assoc false b c = refl

same_role : (a b : Role) → roles.ghosts.eq a b ≡ is_role a b
same_role Standard Standard = refl
same_role Standard Admin = refl
same_role Admin Standard = refl
same_role Admin Admin = refl

pub same_seat : (a b : Seat) → derived.ghosts.eq a b ≡ is_seat a b
unfolding is_seat is_owner
same_seat a b = and_assoc (a.number == b.number) (is_owner a.owner b.owner) (roles.ghosts.eq a.role b.role) ∙ ap (λ (x : Bool). ((a.number == b.number) && is_owner a.owner b.owner) && x) (same_role a.role b.role)

flip_by : (a b : Seat) (x y : Bool) → is_seat a b ≡ x → is_seat b a ≡ y → x ≡ y
flip_by a b true true is js = refl
flip_by a b false false is js = refl
flip_by a b true false is js = absurd (let e : is_seat b a ≡ true = ap (is_seat b) (seat_is a b is) ∙ seat_refl b in not_both e js)
flip_by a b false true is js = absurd (let e : is_seat a b ≡ true = ap (is_seat a) (seat_is b a js) ∙ seat_refl a in not_both e is)

flip_seat : (a b : Seat) → is_seat a b ≡ is_seat b a
flip_seat a b = flip_by a b (is_seat a b) (is_seat b a) refl refl

counted_if : (b c : Bool) (n : ℕ) (s : Seat) (rest : Option ℕ) (others : Option Given) → b ≡ c → unwrap_or rest 0 ≡ given_of others → unwrap_or (cond b (Some n) rest) 0 ≡ given_of (if c then Some record { seat = s; jobs = n } else others)
counted_if true true n s rest others same later = refl
counted_if false false n s rest others same later = later
counted_if true false n s rest others same later = absurd (cc)
counted_if false true n s rest others same later = absurd (cc)

pub counted : (s : Seat) (es : List (Seat × ℕ)) → unwrap_or (lookup (derived.ghosts.eq s) es) 0 ≡ jobs_given s (all_given es)
counted s [] = refl
counted s (e ∷ es) = counted_if (derived.ghosts.eq s e.0) (is_seat s e.0) e.1 e.0 (lookup (derived.ghosts.eq s) es) (find (λ g. is_seat s g.seat) (all_given es)) (same_seat s e.0) (counted s es)

-- where each finds as many
pub counted_alike : (es fs : List (Seat × ℕ)) → ((s : Seat) → lookup (derived.ghosts.eq s) fs ≡ lookup (derived.ghosts.eq s) es) → (s : Seat) → jobs_given s (all_given fs) ≡ jobs_given s (all_given es)
counted_alike es fs same s = sym (counted s fs) ∙ ap (λ (o : Option ℕ). unwrap_or o 0) (same s) ∙ counted s es

-- ---- one more is given

-- b: the seat is that of the first; a: the seat of the first is the one that is given; c: the seat is the one that is given
put_here : (a b c : Bool) (g : Given) (n : ℕ) (rest rest' : Option Given) → (a ≡ true → b ≡ c) → (b ≡ true → c ≡ a) → given_of rest' ≡ (if c then n else given_of rest)
    → given_of (if not a then (if b then Some g else rest') else rest') ≡ (if c then n else given_of (if b then Some g else rest))
put_here true true true g n rest rest' same back later = later
put_here true false false g n rest rest' same back later = later
put_here true true false g n rest rest' same back later = absurd (let e = same refl in cc)
put_here true false true g n rest rest' same back later = absurd (let e = same refl in cc)
put_here false true true g n rest rest' same back later = absurd (let e = back refl in cc)
put_here false true false g n rest rest' same back later = refl
put_here false false true g n rest rest' same back later = later
put_here false false false g n rest rest' same back later = later

find_if : {A : Type 0} (test : A → Bool) (b : Bool) (x : A) (xs ys : List A) → find test (cond b (x ∷ xs) xs ++ ys) ≡ (if b then (if test x then Some x else find test (xs ++ ys)) else find test (xs ++ ys))
find_if test true x xs ys = refl
find_if test false x xs ys = refl

last_if : (b : Bool) (g : Given) (n : ℕ) → g.jobs ≡ n → given_of (if b then Some g else None) ≡ (if b then n else 0)
last_if true g n is = is
last_if false g n is = refl

follows : (s seat x : Seat) → is_seat seat x ≡ true → is_seat s x ≡ is_seat s seat
follows s seat x same = ap (is_seat s) (sym (seat_is seat x same))

leads : (s seat x : Seat) → is_seat s x ≡ true → is_seat s seat ≡ is_seat seat x
leads s seat x same = flip_seat s seat ∙ ap (is_seat seat) (seat_is s x same)

pub put_given : (s seat : Seat) (n : ℕ) (gs : List Given) → jobs_given s (put (λ g. is_seat seat g.seat) (record { seat = seat; jobs = n }) gs) ≡ (if is_seat s seat then n else jobs_given s gs)
put_given s seat n [] = last_if (is_seat s seat) (record { seat = seat; jobs = n }) n refl
put_given s seat n (g ∷ gs) =
    let others = filter (λ (x : Given). not (is_seat seat x.seat)) gs in
    let new : Given = record { seat = seat; jobs = n } in
    ap given_of (find_if (λ (x : Given). is_seat s x.seat) (not (is_seat seat g.seat)) g others (new ∷ []))
    ∙ put_here (is_seat seat g.seat) (is_seat s g.seat) (is_seat s seat) g n (find (λ (x : Given). is_seat s x.seat) gs) (find (λ (x : Given). is_seat s x.seat) (others ++ new ∷ []))
    (follows s seat g.seat) (leads s seat g.seat) (put_given s seat n gs)

more_if : (b : Bool) (n : ℕ) (o : Option ℕ) → unwrap_or (if b then Some n else o) 0 ≡ (if b then n else unwrap_or o 0)
more_if true n o = refl
more_if false n o = refl

-- the seat is given one more
pub given_more : (seat : Seat) (n : ℕ) (es fs : List (Seat × ℕ)) (gs : List Given) → all_given es ≡ gs → n ≡ jobs_given seat gs
    → ((s : Seat) → lookup (derived.ghosts.eq s) fs ≡ (if derived.ghosts.eq seat s then Some (n + 1) else lookup (derived.ghosts.eq s) es))
    → (s : Seat) → jobs_given s (all_given fs) ≡ jobs_given s (put (λ g. is_seat seat g.seat) (record { seat = seat; jobs = jobs_given seat gs + 1 }) gs)
given_more seat n es fs gs is many updates s =
    sym (counted s fs)
    ∙ ap (λ (o : Option ℕ). unwrap_or o 0) (updates s)
    ∙ more_if (derived.ghosts.eq seat s) (n + 1) (lookup (derived.ghosts.eq s) es)
    ∙ ap (λ (b : Bool). if b then n + 1 else unwrap_or (lookup (derived.ghosts.eq s) es) 0) (same_seat seat s ∙ flip_seat seat s)
    ∙ ap₂ (λ (m k : ℕ). if is_seat s seat then m + 1 else k) many (counted s es ∙ ap (jobs_given s) is)
    ∙ sym (put_given s seat (jobs_given seat gs + 1) gs)
