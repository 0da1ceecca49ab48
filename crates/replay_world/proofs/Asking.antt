-- A hub's answer to an ask is the one that the definition gives.
use Rattle.std.proofs.Common.{◌≡◌, ℕ, Bool, true, false, List, [], ◌∷◌, Option, None, Some, refl, sym, ap, subst, ◌∙◌, if◌then◌else◌}
use Rattle.std.specs.Prelude.{⊤, nat_le, nat_lt, ◌+◌, is_none, not, ◌&&◌, ◌||◌}
use Rattle.base_names.specs.declared.id.BatchId.{BatchId}
use Rattle.base_names.specs.declared.refusal.OwnerLimit.TheVariants.{Commands, Numbers, Bytes}
use Rattle.base_names.specs.declared.refusal.Refusal.{Refusal}
use Rattle.base_names.specs.declared.refusal.Refusal.TheVariants.{DISK, JOURNALFULL, OWNERFULL}
use Rattle.base_names.specs.declared.seat.Seat.{Seat}
use Rattle.model_data.specs.declared.batch.BatchBody.{BatchBody}
use Rattle.model_data.specs.declared.batch.BatchRecord.{BatchRecord}
use Rattle.model_data.specs.declared.batch.BatchRecord.TheVariants as is
use Rattle.model_data.specs.declared.batch.BatchResult.{BatchResult}
use Rattle.disk_model.specs.Memory.{CallMade, DiskState, calls_of}
use Rattle.table_defs.specs.Table.{greatest}
use Rattle.table_defs.specs.Taken.{unless}
use Rattle.cluster_defs.specs.Appended.{next_id}
use Rattle.cluster_defs.specs.Asking.{Answers}
use Rattle.cluster_defs.specs.Asks as asks
use Rattle.cluster_defs.specs.Cluster.{usage_of}
use Rattle.cluster_defs.specs.Refusals.{first_of, is_at_limit, is_free, kept_bytes, most_number, need}
use Rattle.cluster_defs.specs.Replies as tells
use Rattle.cluster_defs.specs.Replies.{told_today}
use Rattle.cluster_defs.specs.Site.{Site}
use Rattle.cluster_defs.specs.Store.{Store, Stored, store_step, stored_with, stored_within}
use Rattle.cluster_defs.specs.declared.ask.Ask.{Ask}
use Rattle.cluster_defs.specs.declared.ask.Ask.TheVariants as cases
use Rattle.cluster_defs.specs.declared.reply.Reply.{Reply}
use Rattle.cluster_defs.specs.declared.reply.Reply.TheVariants.{Made, Status, Refused}
use Rattle.hub_core.specs.Answering.{DoubtFor, IsStoreStep, RanFor, asked_record}
use Rattle.hub_core.specs.Sites.{site_of}
use Rattle.hub_core.specs.State.{State}
use Rattle.journal_in_memory.specs.Adding.{Added}
use Rattle.journal_in_memory.proofs.Runs.{added_is, failed_is}
use Rattle.rec_format.specs.Records.{record_write}
use Rattle.replay_world.specs.Hubs.{added_for, asked, heard_today, hub_of_state, record_for, told}

-- ---- replies

heard_told : (reply : Reply) → heard_today (told_today reply) ≡ reply
heard_told (Made id) = refl
heard_told (Status id status) = refl
heard_told (Refused refusal) = refl

from_told : (reply : Reply) (said : tells.Reply) → told_today reply ≡ said → reply ≡ heard_today said
from_told reply said is = sym (heard_told reply) ∙ ap heard_today is

-- every refusal but DISK
abbrev NotDisk : Refusal → Type 0
NotDisk (DISK before after) = ⊥
NotDisk _ = ⊤

early : (old new : State DiskState) (r : Option BatchRecord) (x : Refusal) → NotDisk x → RanFor calls_of CallMade old new r (Refused x) → DoubtFor old.doubt new.doubt (Refused x)
    → (new.disk ≡ old.disk) × (new.doubt ≡ old.doubt)
early old new r (DISK before after) plain ran doubt = absurd plain
early old new r _ plain ran doubt = (ran, doubt)

-- ---- the tests of a batch that is to be created

abbrev step_by : Site → Store → Seat → asks.Ask → (c n y j d : Bool) → (oc on oy oj od : Refusal) → Stored
step_by k s seat ask c n y j d oc on oy oj od =
    stored_within s (unless c oc) (stored_with k s seat ask (first_of (None ∷ unless n on ∷ unless y oy ∷ unless j oj ∷ unless d od ∷ [])))

abbrev record_by : (c n y j : Bool) → (oc on oy oj : Refusal) → BatchRecord → Option BatchRecord
record_by c n y j oc on oy oj r =
    if is_none (unless c oc) && is_none (first_of (None ∷ unless n on ∷ unless y oy ∷ unless j oj ∷ None ∷ [])) then Some r else None

-- Refused before the disk, kept, or failed.
data Outcome (k : Site) (s : Store) (seat : Seat) (ask : asks.Ask) (c n y j d : Bool) (oc on oy oj od : Refusal) (r : BatchRecord) : Type 0 where
  before_disk : (x : Refusal) → NotDisk x → record_by c n y j oc on oy oj r ≡ None → (step_by k s seat ask c n y j d oc on oy oj od).reply ≡ tells.Refused x → Outcome k s seat ask c n y j d oc on oy oj od r
  kept : record_by c n y j oc on oy oj r ≡ Some r → (step_by k s seat ask c n y j d oc on oy oj od).reply ≡ (stored_with k s seat ask None).reply → Outcome k s seat ask c n y j d oc on oy oj od r
  failed : record_by c n y j oc on oy oj r ≡ Some r → (step_by k s seat ask c n y j d oc on oy oj od).reply ≡ tells.Refused od → Outcome k s seat ask c n y j d oc on oy oj od r

outcome : (k : Site) (s : Store) (seat : Seat) (ask : asks.Ask) (c n y j d : Bool) (oc on oy oj od : Refusal) (r : BatchRecord) → NotDisk oc → NotDisk on → NotDisk oy → NotDisk oj
    → Outcome k s seat ask c n y j d oc on oy oj od r
outcome k s seat ask false n y j d oc on oy oj od r pc pn py pj = before_disk oc pc refl refl
outcome k s seat ask true false y j d oc on oy oj od r pc pn py pj = before_disk on pn refl refl
outcome k s seat ask true true false j d oc on oy oj od r pc pn py pj = before_disk oy py refl refl
outcome k s seat ask true true true false d oc on oy oj od r pc pn py pj = before_disk oj pj refl refl
outcome k s seat ask true true true true true oc on oy oj od r pc pn py pj = kept refl refl
outcome k s seat ask true true true true false oc on oy oj od r pc pn py pj = failed refl refl

abbrev adds : Option BatchRecord → (old new : State DiskState) → Type 0
adds r old new = added_for r (hub_of_state old) old.disk ≡ record { disk = new.disk; doubt = new.doubt }

untouched : (r : Option BatchRecord) (old new : State DiskState) → r ≡ None → (new.disk ≡ old.disk) × (new.doubt ≡ old.doubt) → adds r old new
untouched r old new none (disk, doubt) =
    ap (λ (x : Option BatchRecord). added_for x (hub_of_state old) old.disk) none
    ∙ (ap (λ (d : DiskState). record { disk = d; doubt = old.doubt }) (sym disk) ∙ ap (λ (x : Option (List ℕ)). record { disk = new.disk; doubt = x }) (sym doubt))

-- by what came of the tests
added_by : (k : Site) (old new : State DiskState) (seat : Seat) (body : BatchBody) (reply : Reply) (c n y j d : Bool) (oc on oy oj : Refusal) (before after : ℕ)
    → Outcome k old.store seat (asks.Create body) c n y j d oc on oy oj (DISK before after) (is.Create (next_id seat.owner old.store.table) 1 body)
    → (step_by k old.store seat (asks.Create body) c n y j d oc on oy oj (DISK before after)).reply ≡ told_today reply
    → RanFor calls_of CallMade old new (Some (is.Create (next_id seat.owner old.store.table) 1 body)) reply → DoubtFor old.doubt new.doubt reply → new.disk.refused ≡ 0
    → adds (record_by c n y j oc on oy oj (is.Create (next_id seat.owner old.store.table) 1 body)) old new
added_by k old new seat body reply c n y j d oc on oy oj before after (before_disk x plain none says) step ran doubt whole =
    let r = is.Create (next_id seat.owner old.store.table) 1 body in
    let said : reply ≡ Refused x = from_told reply (tells.Refused x) (sym step ∙ says) in
    untouched (record_by c n y j oc on oy oj r) old new none
    (early old new (Some r) x plain (subst (λ (p : Reply). RanFor calls_of CallMade old new (Some r) p) said ran) (subst (λ (p : Reply). DoubtFor old.doubt new.doubt p) said doubt))
added_by k old new seat body reply c n y j d oc on oy oj before after (kept some says) step ran doubt whole =
    let r = is.Create (next_id seat.owner old.store.table) 1 body in
    let said : reply ≡ Made (next_id seat.owner old.store.table) = from_told reply (tells.Made (next_id seat.owner old.store.table)) (sym step ∙ says) in
    ap (λ (x : Option BatchRecord). added_for x (hub_of_state old) old.disk) some
    ∙ (added_is old.doubt old.store.journal (record_write r) old.disk new.disk (subst (λ (p : Reply). RanFor calls_of CallMade old new (Some r) p) said ran) whole
    ∙ ap (λ (x : Option (List ℕ)). record { disk = new.disk; doubt = x }) (sym (subst (λ (p : Reply). DoubtFor old.doubt new.doubt p) said doubt)))
added_by k old new seat body reply c n y j d oc on oy oj before after (failed some says) step ran doubt whole =
    let r = is.Create (next_id seat.owner old.store.table) 1 body in
    let said : reply ≡ Refused (DISK before after) = from_told reply (tells.Refused (DISK before after)) (sym step ∙ says) in
    ap (λ (x : Option BatchRecord). added_for x (hub_of_state old) old.disk) some
    ∙ failed_is old.doubt old.store.journal (record_write r) new.doubt old.disk new.disk (subst (λ (p : Reply). RanFor calls_of CallMade old new (Some r) p) said ran) whole

-- ---- an ask for a status

if_same : {A : Type 0} (b : Bool) (x : A) → (if b then x else x) ≡ x
if_same true x = refl
if_same false x = refl

status_untouched : (old new : State DiskState) (reply : Reply) (ask : Ask) → Answers reply ask → (id : BatchId) → ask ≡ cases.Status id → RanFor calls_of CallMade old new None reply → DoubtFor old.doubt new.doubt reply
    → (new.disk ≡ old.disk) × (new.doubt ≡ old.doubt)
status_untouched old new (Made made) ask kind id is ran doubt = absurd (subst (λ (a : Ask). Answers (Made made) a) is kind)
status_untouched old new (Status told status) ask kind id is ran doubt = (ran, doubt)
status_untouched old new (Refused (DISK before after)) ask kind id is ran doubt = absurd ran
status_untouched old new (Refused _) ask kind id is ran doubt = (ran, doubt)

-- ---- any ask

added_is_new : (plain : BatchBody → BatchResult) (old new : State DiskState) (seat : Seat) (ask : Ask) (reply : Reply) → Answers reply ask → IsStoreStep (λ (s : DiskState). s.faults) old new seat ask reply
    → RanFor calls_of CallMade old new (asked_record old seat ask) reply → DoubtFor old.doubt new.doubt reply → new.disk.refused ≡ 0 → adds (record_for (site_of plain old.setup) old.store seat ask) old new
added_is_new plain old new seat (cases.Status id) reply kind step ran doubt whole =
    untouched (record_for (site_of plain old.setup) old.store seat (cases.Status id)) old new (if_same _ None) (status_untouched old new reply (cases.Status id) kind id refl ran doubt)
added_is_new plain old new seat (cases.Create body) reply kind step ran doubt whole =
    let k = site_of plain old.setup in
    let ask = asks.Create body in
    let r = is.Create (next_id seat.owner old.store.table) 1 body in
    let c = is_free [] seat ask || not (is_at_limit k (usage_of seat.owner old.store.usage)) in
    let n = nat_lt (greatest seat.owner old.store.table) most_number in
    let y = nat_le (kept_bytes k seat.owner old.store.table + k.model_bytes body.model) k.setup.limits.bytes in
    let needed = need k old.store.journal old.store.table r in
    let j = nat_le needed k.setup.limits.journal in
    let d = nat_le new.disk.faults old.disk.faults in
    added_by k old new seat body reply c n y j d (OWNERFULL Commands) (OWNERFULL Numbers) (OWNERFULL Bytes) (JOURNALFULL needed k.setup.limits.journal) old.disk.faults new.disk.faults
    (outcome k old.store seat ask c n y j d (OWNERFULL Commands) (OWNERFULL Numbers) (OWNERFULL Bytes) (JOURNALFULL needed k.setup.limits.journal) (DISK old.disk.faults new.disk.faults) r tt tt tt tt)
    (ap (λ (o : Stored). o.reply) (step plain)) ran doubt whole

-- Where memory was there and no growth was refused, the answer, the hub and its disk are those of the definition.
pub asked_is : (plain : BatchBody → BatchResult) (old new : State DiskState) (seat : Seat) (ask : Ask) (reply : Reply) → Answers reply ask → IsStoreStep (λ (s : DiskState). s.faults) old new seat ask reply
    → RanFor calls_of CallMade old new (asked_record old seat ask) reply → DoubtFor old.doubt new.doubt reply → new.disk.refused ≡ 0
    → asked plain old.setup (hub_of_state old) seat ask old.disk ≡ record { reply = reply; hub = hub_of_state new; disk = new.disk }
asked_is plain old new seat ask reply kind step ran doubt whole =
    let k = site_of plain old.setup in
    let a : Added = record { disk = new.disk; doubt = new.doubt } in
    ap (λ (x : Added). told (store_step k old.store seat ask record { before = old.disk.faults; after = x.disk.faults }) x) (added_is_new plain old new seat ask reply kind step ran doubt whole)
    ∙ (ap (λ (o : Stored). told o a) (step plain) ∙ ap (λ (p : Reply). record { reply = p; hub = hub_of_state new; disk = new.disk }) (heard_told reply))
