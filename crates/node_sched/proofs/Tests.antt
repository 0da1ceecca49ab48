-- The derived test of waiters is that of the definitions, and decides equality.
use Rattle.std.proofs.Common.{◌≡◌, refl, ap, ap₂, ◌∙◌, ℕ, Bool, true, false, arith, ◌==◌, ◌&&◌}
use Rattle.std.proofs.lemmas.Bool.Decides.{Decides-eqb}
use Rattle.base_names.specs.contracts.node.WaiterPartialEq.TheImpl as derived
use Rattle.base_names.specs.contracts.seat.RolePartialEq.TheImpl as roles
use Rattle.base_names.specs.declared.id.BatchId.{BatchId}
use Rattle.base_names.specs.declared.node.Waiter.{Waiter}
use Rattle.base_names.specs.declared.node.Waiter.TheVariants as waits
use Rattle.base_names.specs.declared.seat.Role.{Role}
use Rattle.base_names.specs.declared.seat.Role.TheVariants.{Standard, Admin}
use Rattle.table_defs.specs.Names.{is_id, is_owner}
use Rattle.table_defs.proofs.Names.{and_left, and_right, id_is}
use Rattle.cluster_defs.specs.Waiters.{is_role, is_seat, is_waiter}
use Rattle.cluster_laws.proofs.Seated.{seat_is}

and_assoc : (a b c : Bool) → (a && (b && c)) ≡ ((a && b) && c)
and_assoc true b c = refl
and_assoc false b c = refl

same_role : (a b : Role) → roles.ghosts.eq a b ≡ is_role a b
same_role Standard Standard = refl
same_role Standard Admin = refl
same_role Admin Standard = refl
same_role Admin Admin = refl

pub same_waiter : (a b : Waiter) → derived.ghosts.eq a b ≡ is_waiter a b
unfolding is_seat is_id is_owner
same_waiter (waits.Seat a) (waits.Seat b) = ap (λ (x : Bool). x && (a.number == b.number)) (and_assoc (a.seat.number == b.seat.number) (is_owner a.seat.owner b.seat.owner) (roles.ghosts.eq a.seat.role b.seat.role) ∙ ap (λ (x : Bool). ((a.seat.number == b.seat.number) && is_owner a.seat.owner b.seat.owner) && x) (same_role a.seat.role b.seat.role))
same_waiter (waits.Seat a) (waits.Batch b n) = refl
same_waiter (waits.Batch a m) (waits.Seat b) = refl
same_waiter (waits.Batch a m) (waits.Batch b n) = refl

number_is : (a b : ℕ) → (a == b) ≡ true → a ≡ b
number_is a b h = (Decides-eqb a b).0 h

pub waiter_is : (a b : Waiter) → is_waiter a b ≡ true → a ≡ b
waiter_is (waits.Seat a) (waits.Seat b) h =
    let s = seat_is a.seat b.seat (and_left (is_seat a.seat b.seat) (a.number == b.number) h) in
    let n = number_is a.number b.number (and_right (is_seat a.seat b.seat) (a.number == b.number) h) in
    λ i. waits.Seat record { seat = s i; number = n i }
waiter_is (waits.Seat a) (waits.Batch b n) h = absurd (grind (arith, h))
waiter_is (waits.Batch a m) (waits.Seat b) h = absurd (grind (arith, h))
waiter_is (waits.Batch a m) (waits.Batch b n) h = ap₂ (λ (id : BatchId) (k : ℕ). waits.Batch id k) (id_is a b (and_left (is_id a b) (m == n) h)) (number_is m n (and_right (is_id a b) (m == n) h))
