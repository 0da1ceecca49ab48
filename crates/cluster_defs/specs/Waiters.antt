-- Which seats, nodes, jobs and waiters are the same. As those of owners and batches, these tests are opened only where names
-- at hand are compared.
use Rattle.std.specs.Prelude.{Bool, true, false, ◌==◌, ◌&&◌}
use Rattle.base_names.specs.declared.node.NodeNo.{NodeNo}
use Rattle.base_names.specs.declared.node.Waiter.{Waiter}
use Rattle.base_names.specs.declared.node.Waiter.TheVariants.{Seat, Batch}
use Rattle.base_names.specs.declared.seat.JobId.{JobId}
use Rattle.base_names.specs.declared.seat.Role.{Role}
use Rattle.base_names.specs.declared.seat.Role.TheVariants.{Standard, Admin}
use Rattle.base_names.specs.declared.seat.Seat as seat
use Rattle.table_defs.specs.Names.{Owner, is_attempt, is_owner}

abbrev pub is_role : Role → Role → Bool
is_role Standard Standard = true
is_role Standard Admin = false
is_role Admin Standard = false
is_role Admin Admin = true

-- A seat is its number, its owner and its role together.
unfoldable pub is_seat : seat.Seat → seat.Seat → Bool
unfolding is_owner
is_seat a b = (a.number == b.number) && is_owner a.owner b.owner && is_role a.role b.role

unfoldable pub is_node : NodeNo → NodeNo → Bool
is_node a b = a.0 == b.0

abbrev pub is_job : JobId → JobId → Bool
is_job a b = is_seat a.seat b.seat && (a.number == b.number)

abbrev pub is_waiter : Waiter → Waiter → Bool
is_waiter (Seat a) (Seat b) = is_job a b
is_waiter (Seat a) (Batch b n) = false
is_waiter (Batch a m) (Seat b) = false
is_waiter (Batch a m) (Batch b n) = is_attempt a m b n

-- whose it is
abbrev pub owner_of : Waiter → Owner
owner_of (Seat job) = job.seat.owner
owner_of (Batch id attempt) = id.owner
