-- What the tests of seats, jobs and waiters tell.
use Rattle.std.proofs.Common.{◌≡◌, refl, sym, ap, ◌∙◌, ℕ, true, false, arith, ◌==◌}
use Rattle.std.proofs.lemmas.Bool.Decides.{Decides-eqb}
use Rattle.base_names.specs.declared.node.Waiter.{Waiter}
use Rattle.base_names.specs.declared.node.Waiter.TheVariants as waits
use Rattle.base_names.specs.declared.seat.JobId.{JobId}
use Rattle.base_names.specs.declared.seat.Role.{Role}
use Rattle.base_names.specs.declared.seat.Role.TheVariants.{Standard, Admin}
use Rattle.base_names.specs.declared.seat.Seat.{Seat}
use Rattle.table_defs.specs.Names.{Owner, is_id, is_owner}
use Rattle.table_defs.proofs.Names.{and_both, and_left, and_off, id_refl, id_within, owner_is, owner_refl}
use Rattle.cluster_defs.specs.Waiters.{is_job, is_role, is_seat, is_waiter, owner_of}

-- ---- each is itself

pub same_number : (n : ℕ) → (n == n) ≡ true
same_number n = (Decides-eqb n n).1 refl

role_refl : (r : Role) → is_role r r ≡ true
role_refl Standard = refl
role_refl Admin = refl

pub seat_refl : (s : Seat) → is_seat s s ≡ true
unfolding is_seat
seat_refl s = and_both _ (is_role s.role s.role) (and_both (s.number == s.number) (is_owner s.owner s.owner) (same_number s.number) (owner_refl s.owner)) (role_refl s.role)

pub waiter_refl : (w : Waiter) → is_waiter w w ≡ true
waiter_refl (waits.Seat job) = and_both (is_seat job.seat job.seat) (job.number == job.number) (seat_refl job.seat) (same_number job.number)
waiter_refl (waits.Batch id n) = and_both _ (n == n) (id_refl id) (same_number n)

-- ---- an owner's are found among the owner's

pub seat_owner : (a b : Seat) → is_seat a b ≡ true → a.owner ≡ b.owner
unfolding is_seat
seat_owner a b h = owner_is a.owner b.owner (grind (arith, h))

pub seat_within : (u : Owner) (a b : Seat) → is_owner u a.owner ≡ true → is_seat a b ≡ true → is_owner u b.owner ≡ true
seat_within u a b own same = sym (ap (λ (o : Owner). is_owner u o) (seat_owner a b same)) ∙ own

pub seat_without : (u : Owner) (a b : Seat) → is_owner u a.owner ≡ false → is_owner u b.owner ≡ true → is_seat a b ≡ false
seat_without u a b other own = grind (arith, ap (λ (o : Owner). is_owner u o), seat_owner a b)

pub job_without : (u : Owner) (a b : JobId) → is_owner u a.seat.owner ≡ false → is_owner u b.seat.owner ≡ true → is_job a b ≡ false
job_without u a b other own = and_off (is_seat a.seat b.seat) (a.number == b.number) (seat_without u a.seat b.seat other own)

pub waiter_within : (u : Owner) (v w : Waiter) → is_owner u (owner_of v) ≡ true → is_waiter v w ≡ true → is_owner u (owner_of w) ≡ true
waiter_within u (waits.Seat a) (waits.Seat b) own same = seat_within u a.seat b.seat own (and_left (is_seat a.seat b.seat) (a.number == b.number) same)
waiter_within u (waits.Seat a) (waits.Batch b n) own same = absurd (grind (arith, same))
waiter_within u (waits.Batch a m) (waits.Seat b) own same = absurd (grind (arith, same))
waiter_within u (waits.Batch a m) (waits.Batch b n) own same = id_within u a b own (and_left (is_id a b) (m == n) same)
