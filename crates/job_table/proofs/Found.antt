-- The job of a name is changed where it is found, and no other is.
use Rattle.std.proofs.Common.{◌≡◌, refl, sym, ap, ap₂, ◌∙◌, ℕ, ◌==◌, ◌&&◌, Bool, true, false, not, List, [], ◌∷◌, ◌++◌, Option, Some, None, append_assoc, arith}
use Rattle.std.specs.Prelude.{if◌then◌else◌, filter, is_some, map}
use Rattle.std.proofs.lemmas.Bool.Decides.{nat_tests}
use Rattle.std.proofs.lemmas.List.{map-append}
use Rattle.std.proofs.lemmas.List.Elements.{filter-append}
use Rattle.base_names.specs.declared.node.JobLine.{JobLine}
use Rattle.base_names.specs.declared.seat.JobId.{JobId}
use Rattle.table_defs.specs.Lists.{changed}
use Rattle.cluster_defs.specs.Cluster.{Job, id_of, job_of}
use Rattle.cluster_defs.specs.Effects.{without_job}
use Rattle.cluster_defs.specs.Listing.{job_line}
use Rattle.cluster_defs.specs.Waiters.{is_job, is_seat}
use Rattle.job_table.specs.Jobs.{IsOnce, Jobs, found, lines, of_number, set_job, with_job}
use Rattle.job_table.proofs.Rows.{none_if, none_set}

kept_if : (b n : Bool) (f : Job → Job) (job : Job) → b ≡ false → (if b && n then f job else job) ≡ job
kept_if true n f job off = absurd (cc)
kept_if false n f job off = refl

-- where the seat has none, none is changed
none_named : (id : JobId) (f : Job → Job) (jobs : List Job) → job_of id.seat jobs ≡ None → changed (λ job. is_job id (id_of job)) f jobs ≡ jobs
none_named id f [] none = refl
none_named id f (job ∷ jobs) none =
    let n = none_if (is_seat id.seat job.seat) job (job_of id.seat jobs) none in
    ap₂ (λ (x : Job) (xs : List Job). x ∷ xs) (kept_if (is_seat id.seat job.seat) (id.number == job.number) f job n.0) (none_named id f jobs n.1)

numbers_flip : (a b : ℕ) → (a == b) ≡ (b == a)
numbers_flip a b = grind (arith, nat_tests)

of_some : (b : Bool) (job old : Job) → (if b then Some job else None) ≡ Some old → (b ≡ true) × (job ≡ old)
of_some true job old is = (refl, let e : Some job ≡ Some old = is in cc)
of_some false job old is = absurd (cc)

of_none : (b : Bool) (job : Job) → (if b then Some job else None) ≡ None → b ≡ false
of_none true job is = absurd (cc)
of_none false job is = refl

changed_here : (b : Bool) (id : JobId) (f : Job → Job) (old job : Job) (jobs : List Job) → is_seat id.seat job.seat ≡ b → (b ≡ true → job_of id.seat jobs ≡ None) → of_number id.number (if b then Some job else job_of id.seat jobs) ≡ Some old
    → (found id jobs ≡ Some old → set_job id.seat (f old) jobs ≡ changed (λ j. is_job id (id_of j)) f jobs)
    → (if b then f old else job) ∷ set_job id.seat (f old) jobs ≡ (if b && (id.number == job.number) then f job else job) ∷ changed (λ j. is_job id (id_of j)) f jobs
changed_here true id f old job jobs same none is later =
    let p = of_some (job.number == id.number) job old is in
    let n : (id.number == job.number) ≡ true = numbers_flip id.number job.number ∙ p.0 in
    ap₂ (λ (x : Job) (xs : List Job). x ∷ xs) (ap f (sym p.1) ∙ sym (ap (λ (b : Bool). if b then f job else job) n)) (none_set id.seat (f old) jobs (none refl) ∙ sym (none_named id f jobs (none refl)))
changed_here false id f old job jobs same none is later = ap (λ (l : List Job). job ∷ l) (later is)

pub set_is_changed : (id : JobId) (f : Job → Job) (old : Job) (jobs : List Job) → IsOnce id.seat jobs → found id jobs ≡ Some old → set_job id.seat (f old) jobs ≡ changed (λ job. is_job id (id_of job)) f jobs
set_is_changed id f old [] one is = refl
set_is_changed id f old (job ∷ jobs) one is = changed_here (is_seat id.seat job.seat) id f old job jobs refl one.0 is (set_is_changed id f old jobs one.1)

unchanged_here : (b : Bool) (id : JobId) (f : Job → Job) (job : Job) (jobs : List Job) → (b ≡ true → job_of id.seat jobs ≡ None) → of_number id.number (if b then Some job else job_of id.seat jobs) ≡ None
    → (found id jobs ≡ None → changed (λ j. is_job id (id_of j)) f jobs ≡ jobs)
    → (if b && (id.number == job.number) then f job else job) ∷ changed (λ j. is_job id (id_of j)) f jobs ≡ job ∷ jobs
unchanged_here true id f job jobs none is later =
    let n : (id.number == job.number) ≡ false = numbers_flip id.number job.number ∙ of_none (job.number == id.number) job is in
    ap₂ (λ (x : Job) (xs : List Job). x ∷ xs) (ap (λ (b : Bool). if b then f job else job) n) (none_named id f jobs (none refl))
unchanged_here false id f job jobs none is later = ap (λ (l : List Job). job ∷ l) (later is)

pub none_is_changed : (id : JobId) (f : Job → Job) (jobs : List Job) → IsOnce id.seat jobs → found id jobs ≡ None → changed (λ job. is_job id (id_of job)) f jobs ≡ jobs
none_is_changed id f [] one is = refl
none_is_changed id f (job ∷ jobs) one is = unchanged_here (is_seat id.seat job.seat) id f job jobs one.0 is (none_is_changed id f jobs one.1)

-- ---- what is listed

pub lines_more : (xs ys : List Job) → lines (xs ++ ys) ≡ lines xs ++ lines ys
lines_more xs ys = ap (map job_line) (filter-append (λ (job : Job). not job.lost) xs ys) ∙ map-append job_line (filter (λ (job : Job). not job.lost) xs) (filter (λ (job : Job). not job.lost) ys)

-- one line more is listed
pub list_step : (done done' : List JobLine) (job : Job) (rest : List Job) (all : List JobLine) → done ++ lines (job ∷ rest) ≡ all → done' ≡ done ++ lines (job ∷ []) → done' ++ lines rest ≡ all
list_step done done' job rest all before is =
    ap (λ (l : List JobLine). l ++ lines rest) is
    ∙ append_assoc done (lines (job ∷ [])) (lines rest)
    ∙ ap (λ (l : List JobLine). done ++ l) (sym (lines_more (job ∷ []) rest))
    ∙ before

-- ---- whether it is there

if_on : {A : Type 0} (b : Bool) (x y : A) → b ≡ true → (if b then x else y) ≡ x
if_on true x y h = refl
if_on false x y h = absurd (cc)

if_off : {A : Type 0} (b : Bool) (x y : A) → b ≡ false → (if b then x else y) ≡ y
if_off true x y h = absurd (cc)
if_off false x y h = refl

same_is : (a b : ℕ) → a ≡ b → (a == b) ≡ true
same_is a b h = grind (arith, nat_tests, h)

other_is : (a b : ℕ) → (a ≡ b → ⊥) → (a == b) ≡ false
other_is a b h = grind (arith, nat_tests, h)

pub is_found : (id : JobId) (job : Job) (jobs : List Job) → Some job ≡ job_of id.seat jobs → job.number ≡ id.number → Some job ≡ found id jobs
is_found id job jobs is same = sym (if_on (job.number == id.number) (Some job) None (same_is job.number id.number same)) ∙ ap (of_number id.number) is

pub is_other : (id : JobId) (job : Job) (jobs : List Job) → Some job ≡ job_of id.seat jobs → (job.number ≡ id.number → ⊥) → None ≡ found id jobs
is_other id job jobs is other = sym (if_off (job.number == id.number) (Some job) None (other_is job.number id.number other)) ∙ ap (of_number id.number) is

pub is_none : (id : JobId) (jobs : List Job) → None ≡ job_of id.seat jobs → None ≡ found id jobs
is_none id jobs is = ap (of_number id.number) is

there_by : (n : ℕ) (o : Option Job) (job : Job) → Some job ≡ of_number n o → is_some o ≡ true
there_by n None job is = absurd (cc)
there_by n (Some x) job is = refl

pub is_there : (id : JobId) (job : Job) (jobs : List Job) → Some job ≡ found id jobs → is_some (job_of id.seat jobs) ≡ true
is_there id job jobs is = there_by id.number (job_of id.seat jobs) job is

-- ---- the table behind a change

pub is_with_job : (id : JobId) (f : Job → Job) (old : Job) (t u : Jobs) → IsOnce id.seat t.jobs → Some old ≡ found id t.jobs → u.jobs ≡ set_job id.seat (f old) t.jobs → u.given ≡ t.given → u ≡ with_job id f t
is_with_job id f old t u one is set given = let jobs = set ∙ set_is_changed id f old t.jobs one (sym is) in λ i. record { jobs = jobs i; given = given i }

pub is_as_before : (id : JobId) (f : Job → Job) (t : Jobs) → IsOnce id.seat t.jobs → None ≡ found id t.jobs → t ≡ with_job id f t
is_as_before id f t one is = let jobs = sym (none_is_changed id f t.jobs one (sym is)) in λ i. record { jobs = jobs i; given = t.given }

pub is_without : (id : JobId) (old : Job) (t u : Jobs) → Some old ≡ found id t.jobs → u.jobs ≡ without_job id.seat t.jobs → u.given ≡ t.given → u ≡ (if is_some (found id t.jobs) then record t { jobs = without_job id.seat t.jobs } else t)
is_without id old t u is jobs given =
    (λ i. record { jobs = jobs i; given = given i })
    ∙ sym (if_on (is_some (found id t.jobs)) (record t { jobs = without_job id.seat t.jobs }) t (ap is_some (sym is)))

pub is_kept : (id : JobId) (t : Jobs) → None ≡ found id t.jobs → t ≡ (if is_some (found id t.jobs) then record t { jobs = without_job id.seat t.jobs } else t)
is_kept id t is = sym (if_off (is_some (found id t.jobs)) (record t { jobs = without_job id.seat t.jobs }) t (ap is_some (sym is)))
