-- Creating a batch and asking for its status are steps of the store.
use Rattle.std.proofs.Common.{◌≡◌, refl, Option, Some, None}
use Rattle.base_names.specs.declared.id.BatchId.{BatchId}
use Rattle.base_names.specs.declared.refusal.Refusal.{Refusal}
use Rattle.base_names.specs.declared.seat.Seat.{Seat}
use Rattle.model_data.specs.declared.batch.BatchBody.{BatchBody}
use Rattle.cluster_defs.specs.Asks as asks
use Rattle.cluster_defs.specs.Asks.{asked_today}
use Rattle.cluster_defs.specs.Cluster.{Cluster}
use Rattle.cluster_defs.specs.Deeds.{Asked, Faults}
use Rattle.cluster_defs.specs.Entries as answers
use Rattle.cluster_defs.specs.Refusals.{ask_refusal, commands_refusal}
use Rattle.cluster_defs.specs.Site.{Site}
use Rattle.cluster_defs.specs.Step.{Stepped, asked_with, step, within_limit}
use Rattle.cluster_defs.specs.Store.{Stored, store_of, store_step, stored_with, stored_within}
use Rattle.cluster_defs.specs.declared.ask.Ask as now
use Rattle.cluster_defs.specs.declared.ask.Ask.TheVariants as cases

-- the same is kept of both, and told
abbrev AreAlike : Stepped → Stored → Type 0
AreAlike s o = (store_of s.next ≡ o.next) × (s.reply ≡ answers.Reply o.reply)

create_alike : (k : Site) (c : Cluster) (seat : Seat) (body : BatchBody) (x0 x : Option Refusal) → AreAlike (within_limit c x0 (asked_with k c seat (asks.Create body) x)) (stored_within (store_of c) x0 (stored_with k (store_of c) seat (asks.Create body) x))
create_alike k c seat body (Some r) x = (refl, refl)
create_alike k c seat body None (Some r) = (refl, refl)
create_alike k c seat body None None = (refl, refl)

status_alike : (k : Site) (c : Cluster) (seat : Seat) (id : BatchId) (x0 x : Option Refusal) → AreAlike (within_limit c x0 (asked_with k c seat (asks.Status id) x)) (stored_within (store_of c) x0 (stored_with k (store_of c) seat (asks.Status id) x))
status_alike k c seat id (Some r) x = (refl, refl)
status_alike k c seat id None (Some r) = (refl, refl)
status_alike k c seat id None None = (refl, refl)

pub stored : (k : Site) (c : Cluster) (seat : Seat) (ask : now.Ask) (f : Faults) → AreAlike (step k c (Asked seat (asked_today ask)) f) (store_step k (store_of c) seat ask f)
stored k c seat (cases.Create body) f = create_alike k c seat body (commands_refusal k c.usage c.jobs seat (asks.Create body)) (ask_refusal k c seat (asks.Create body) f)
stored k c seat (cases.Status id) f = status_alike k c seat id (commands_refusal k c.usage c.jobs seat (asks.Status id)) (ask_refusal k c seat (asks.Status id) f)
