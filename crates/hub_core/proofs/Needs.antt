-- Whether a batch is refused, by what it needs.
use Rattle.std.proofs.Common.{◌≡◌, refl, sym, ap, ◌∙◌, subst, arith, ℕ, ◌+◌, ◌*◌, ◌<◌, ◌≤◌, Bool, true, false, List, length, Option, Some, None}
use Rattle.std.specs.Prelude.{filter, nat_le, nat_lt, ◌==◌}
use Rattle.std.proofs.lemmas.Bool.Decides.{nat_tests}
use Rattle.base_names.specs.declared.id.BatchId.{BatchId}
use Rattle.base_names.specs.declared.refusal.OwnerLimit.TheVariants.{Bytes, Numbers}
use Rattle.base_names.specs.declared.refusal.Refusal.{Refusal}
use Rattle.base_names.specs.declared.refusal.Refusal.TheVariants.{JOURNALFULL, OWNERFULL}
use Rattle.base_names.specs.declared.seat.Seat.{Seat}
use Rattle.cluster_defs.specs.Appended.{next_id}
use Rattle.cluster_defs.specs.Asks as asks
use Rattle.cluster_defs.specs.Refusals.{bytes_refusal, journal_refusal, kept_bytes, need, numbers_refusal}
use Rattle.cluster_defs.specs.Site.{Site}
use Rattle.cluster_defs.specs.Store.{Store}
use Rattle.hub_core.proofs.Steps.{reserve_more}
use Rattle.hub_core.specs.Answering.{creating_refusal}
use Rattle.model_data.specs.declared.batch.BatchBody.{BatchBody}
use Rattle.model_data.specs.declared.batch.BatchRecord.TheVariants as batch
use Rattle.model_data.specs.declared.batch.BatchRow.{BatchRow}
use Rattle.table_defs.specs.Table.{Table, greatest, submitted}
use Rattle.table_defs.specs.Taken.{or_else, unless}

third : (a b c : Option Refusal) (o : Option Refusal) → a ≡ None → b ≡ None → c ≡ o → or_else a (or_else b (or_else c None)) ≡ o
third a b c o p q r = subst (λ (x : Option Refusal). or_else x (or_else b (or_else c None)) ≡ o) (sym p) (subst (λ (x : Option Refusal). or_else x (or_else c None) ≡ o) (sym q) (last c ∙ r)) where
  last : (x : Option Refusal) → or_else x None ≡ x
  last None = refl
  last (Some r) = refl

is_lt : (a b : ℕ) → a < b → nat_lt a b ≡ true
is_lt a b h = grind (arith, nat_tests, h)

is_le : (a b : ℕ) → a ≤ b → nat_le a b ≡ true
is_le a b h = grind (arith, nat_tests, h)

not_le : (a b : ℕ) → b < a → nat_le a b ≡ false
not_le a b h = grind (arith, nat_tests, h)

module _ (k : Site) (s : Store) (seat : Seat) (body : BatchBody) (number : greatest seat.owner s.table < 4294967295) (bytes : kept_bytes k seat.owner s.table + k.model_bytes body.model ≤ k.setup.limits.bytes)
    (n : ℕ) (is : need k s.journal s.table (batch.Create (next_id seat.owner s.table) 1 body) ≡ n) where
  numbers_none : numbers_refusal s.table seat (asks.Create body) ≡ None
  numbers_none = ap (λ (b : Bool). unless b (OWNERFULL Numbers)) (is_lt (greatest seat.owner s.table) 4294967295 number)

  bytes_none : bytes_refusal k s.table seat (asks.Create body) ≡ None
  bytes_none = ap (λ (b : Bool). unless b (OWNERFULL Bytes)) (is_le (kept_bytes k seat.owner s.table + k.model_bytes body.model) k.setup.limits.bytes bytes)

  pub too_full : k.setup.limits.journal < n → creating_refusal k s seat body ≡ Some (JOURNALFULL n k.setup.limits.journal)
  too_full passes = third (numbers_refusal s.table seat (asks.Create body)) (bytes_refusal k s.table seat (asks.Create body)) _ (Some (JOURNALFULL n k.setup.limits.journal)) numbers_none bytes_none
      (ap (λ (x : ℕ). unless (nat_le x k.setup.limits.journal) (JOURNALFULL x k.setup.limits.journal)) is ∙ ap (λ (b : Bool). unless b (JOURNALFULL n k.setup.limits.journal)) (not_le n k.setup.limits.journal passes))

  pub roomy : n ≤ k.setup.limits.journal → creating_refusal k s seat body ≡ None
  roomy fits = third (numbers_refusal s.table seat (asks.Create body)) (bytes_refusal k s.table seat (asks.Create body)) _ None numbers_none bytes_none
      (ap (λ (x : ℕ). unless (nat_le x k.setup.limits.journal) (JOURNALFULL x k.setup.limits.journal)) is ∙ ap (λ (b : Bool). unless b (JOURNALFULL n k.setup.limits.journal)) (is_le n k.setup.limits.journal fits))

pub need_sum : (k : Site) (end count bytes : ℕ) (t : Table) (id : BatchId) (body : BatchBody) → bytes ≡ k.record_bytes (batch.Create id 1 body) → count ≡ length (filter (λ (row : BatchRow). row.status == submitted) t.rows) → need k end t (batch.Create id 1 body) ≡ end + 5 + bytes + 1200000 * (count + 1)
need_sum k end count bytes t id body is counted = let more = reserve_more id 1 body t in omega (arith, more, is, counted)
