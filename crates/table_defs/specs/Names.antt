-- Which owners, batches and attempts are the same. These tests are opened only where names at hand are compared, so that
-- what is to be proved of tables speaks of them, and not of bytes.
use Rattle.std.specs.Prelude.{ℕ, List, Bool, ◌==◌, ◌&&◌, bytes_eq}
use Rattle.base_names.specs.declared.id.BatchId.{BatchId}

-- an owner's name, as its bytes
abbrev pub Owner : Type 0
Owner = List ℕ

unfoldable pub is_owner : Owner → Owner → Bool
is_owner a b = bytes_eq a b

unfoldable pub is_id : BatchId → BatchId → Bool
unfolding is_owner
is_id a b = is_owner a.owner b.owner && (a.number == b.number)

-- the attempt m at the batch a is the attempt n at b
abbrev pub is_attempt : BatchId → ℕ → BatchId → ℕ → Bool
is_attempt a m b n = is_id a b && (m == n)
