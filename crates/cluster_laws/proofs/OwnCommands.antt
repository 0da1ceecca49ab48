-- One step of the cluster is one own step of each owner's part, and the own reply is the reply.
use Rattle.std.proofs.Common.{◌≡◌, refl, sym, ap, ap₂, ◌∙◌, Bool, true, false, not, List, [], Option, Some, None, arith}
use Rattle.std.specs.Prelude.{if◌then◌else◌, ◌&&◌, ◌||◌}
use Rattle.base_names.specs.declared.id.BatchId.{BatchId}
use Rattle.base_names.specs.declared.node.NodeNo.{NodeNo}
use Rattle.base_names.specs.declared.node.Placed.{Placed}
use Rattle.base_names.specs.declared.refusal.Refusal.{Refusal}
use Rattle.base_names.specs.declared.refusal.Refusal.TheVariants.{NOJOB, NODELOST, ROLE}
use Rattle.base_names.specs.declared.seat.Role.TheVariants.{Admin}
use Rattle.base_names.specs.declared.seat.Seat.{Seat}
use Rattle.model_data.specs.declared.batch.BatchRow.{BatchRow}
use Rattle.table_defs.specs.Names.{Owner, is_owner}
use Rattle.table_defs.specs.Table.{Table, row_of}
use Rattle.table_defs.specs.Taken.{or_else, unless}
use Rattle.cluster_defs.specs.Answers.{poll_reply, reply_to, row_reply, status_reply, whole_reply}
use Rattle.cluster_defs.specs.Charges.{charge, counted}
use Rattle.cluster_defs.specs.Cluster.{Cluster, Given, Job, Running, Usage, job_of}
use Rattle.cluster_defs.specs.Deeds.{Faults}
use Rattle.cluster_defs.specs.Effects.{done}
use Rattle.cluster_defs.specs.Own.{Owned, own_ask, own_done, own_failed, own_marked, own_refusal, own_refused, own_settled, own_shared, own_step, own_told, own_with, own_within}
use Rattle.cluster_defs.specs.Part.{Part, jobs_of, part_of, placements_of, usages_of}
use Rattle.cluster_defs.specs.Placement.{place, settled}
use Rattle.cluster_defs.specs.Reading.{Shared, failed_by, is_admins, marked_by, reading, reply_for, shared_in, shared_of, shared_refusal}
use Rattle.cluster_defs.specs.Refusals.{alive_refusal, ask_refusal, batch_refusal, commands_refusal, is_for_admins, is_free, job_refusal, marked_job, marked_refusal, node_refusal, range_refusal, role_refusal, state_refusal}
use Rattle.cluster_defs.specs.Site.{Site}
use Rattle.cluster_defs.specs.Step.{Stepped, asked, asked_with, count_reply, done_ask, refused_ask, within_limit}
use Rattle.cluster_defs.specs.Waiters.{is_role}
use Rattle.table_defs.proofs.Names.{and_off}
use Rattle.table_defs.proofs.Records.{or_first, or_then}
use Rattle.cluster_laws.proofs.OwnEffects.{count_other, count_own, given_other, given_own, jobs_failed, jobs_marked, jobs_other, jobs_own, names_own, names_own_from, placed_failed, placed_other, placed_own, reply_own, table_failed, table_other, table_own}
use Rattle.cluster_laws.proofs.OwnLooks.{back, commands_own, free_own, own_refusal_is}
use Rattle.cluster_laws.proofs.OwnPlaces.{own_placements}
use Rattle.cluster_laws.proofs.Rule.{if_off}
use Rattle.cluster_defs.specs.Reading.{free, refused, whole}
use Rattle.cluster_defs.specs.Asks.{Ask}
use Rattle.cluster_defs.specs.Asks as asks
use Rattle.cluster_defs.specs.Deeds.{Deed}
use Rattle.cluster_defs.specs.Deeds.{Asked}
use Rattle.cluster_defs.specs.Entries.{EntryReply}
use Rattle.cluster_defs.specs.Entries as answers
use Rattle.cluster_defs.specs.Replies.{Reply}
use Rattle.cluster_defs.specs.Replies as tells

abbrev pub parts : Table → List Job → List Running → List Given → List Usage → Part
parts t j p g us = record { table = t; jobs = j; placed = p; given = g; usage = us }

pub part_same : {t t' : Table} {j j' : List Job} {p p' : List Running} {g g' : List Given} (us : List Usage) → t ≡ t' → j ≡ j' → p ≡ p' → g ≡ g'
    → parts t j p g us ≡ parts t' j' p' g' us
part_same us a b c d = λ i. record { table = a i; jobs = b i; placed = c i; given = d i; usage = us }

-- ---- an own command that is done

own_effect : (u : Owner) (k : Site) (c : Cluster) (seat : Seat) (ask : Ask) → is_owner u seat.owner ≡ true → is_for_admins ask ≡ false → names_own seat ask ≡ true
    → part_of u (done k c seat ask) ≡ own_done (part_of u c) seat ask
own_effect u k c seat ask own h n =
    let t = table_own u seat ask c.table c.placed (part_of u c).placed own h n in
    let j = jobs_own u seat ask c.given c.jobs own h in
    let p = placed_own u seat ask c.table c.placed own h n in
    let g = given_own u seat ask c.given own in
    part_same _ t j p g

other_effect : (u : Owner) (k : Site) (c : Cluster) (seat : Seat) (ask : Ask) → is_owner u seat.owner ≡ false → is_for_admins ask ≡ false → names_own seat ask ≡ true
    → part_of u (done k c seat ask) ≡ part_of u c
other_effect u k c seat ask other h n =
    part_same _ (table_other u seat ask c.table c.placed other h n) (jobs_other u seat ask c.given c.jobs other h) (placed_other u seat ask c.table c.placed other h n) (given_other u seat ask c.given other)

-- ---- an administrators' command that is done

admin_effect : (u : Owner) (k : Site) (c : Cluster) (seat : Seat) (ask : Ask) (ps : List Placed) → is_for_admins ask ≡ true
    → part_of u (done k c seat ask) ≡ own_failed (failed_by ask (answers.Reply (whole_reply c ps seat ask))) (own_marked (marked_by u c.jobs ask (answers.Reply (whole_reply c ps seat ask))) (part_of u c))
admin_effect u k c seat asks.Nodes ps h = refl
admin_effect u k c seat asks.Jobs ps h = refl
admin_effect u k c seat (asks.Limits node limit hard) ps h = refl
admin_effect u k c seat (asks.Drain node) ps h = refl
admin_effect u k c seat (asks.Resume node) ps h = refl
admin_effect u k c seat (asks.Fail node) ps h = part_same _ (table_failed u node c.placed c.table) (jobs_failed u node c.jobs) (placed_failed u node c.placed) refl
admin_effect u k c seat (asks.AbortJob number job) ps h = part_same _ refl (jobs_marked u (marked_job c.jobs number job) c.jobs) refl refl
admin_effect u k c seat ask ps h = absurd (grind (arith, h))

-- ---- what is read of a command

failed_refused : (ask : Ask) (r : Refusal) → failed_by ask (answers.Reply (tells.Refused r)) ≡ None
failed_refused (asks.Fail node) r = refl
failed_refused ask r = refl

marked_refused : (u : Owner) (jobs : List Job) (ask : Ask) (r : Refusal) → marked_by u jobs ask (answers.Reply (tells.Refused r)) ≡ None
marked_refused u jobs (asks.AbortJob number job) r = refl
marked_refused u jobs ask r = refl

failed_client : (ask : Ask) (reply : EntryReply) → is_for_admins ask ≡ false → failed_by ask reply ≡ None
failed_client (asks.Fail node) reply h = absurd (grind (arith, h))
failed_client ask reply h = refl

marked_client : (u : Owner) (jobs : List Job) (ask : Ask) (reply : EntryReply) → is_for_admins ask ≡ false → marked_by u jobs ask reply ≡ None
marked_client u jobs (asks.AbortJob number job) reply h = absurd (grind (arith, h))
marked_client u jobs ask reply h = refl

lost_free : (gone : Bool) (at : Option NodeNo) (reply : Reply) → shared_in reply ≡ free
    → shared_in (if gone then elim at as (λ _. Reply) [ None ↦ tells.Refused NOJOB | Some n ↦ tells.Refused (NODELOST n) ] else reply) ≡ free
lost_free true None reply h = refl
lost_free true (Some node) reply h = refl
lost_free false at reply h = h

poll_free : (job : Option Job) → shared_in (poll_reply job) ≡ free
poll_free None = refl
poll_free (Some job) = lost_free job.lost job.node (tells.Job job.number job.node) refl

status_free : (id : BatchId) (row : Option BatchRow) → shared_in (status_reply id row) ≡ free
status_free id None = refl
status_free id (Some row) = refl

row_free : (row : Option BatchRow) → shared_in (row_reply row) ≡ free
row_free None = refl
row_free (Some row) = refl

reply_free : (t : Table) (jobs : List Job) (given : List Given) (ps : List Placed) (seat : Seat) (ask : Ask) → shared_in (reply_to t jobs given ps seat ask) ≡ free
reply_free t jobs given ps seat asks.Poll = poll_free (job_of seat jobs)
reply_free t jobs given ps seat (asks.Status id) = status_free id (row_of id t)
reply_free t jobs given ps seat (asks.Row id) = row_free (row_of id t)
reply_free t jobs given ps seat ask = refl

client_reply : (c : Cluster) (ps : List Placed) (seat : Seat) (ask : Ask) → is_for_admins ask ≡ false → whole_reply c ps seat ask ≡ reply_to c.table c.jobs c.given ps seat ask
client_reply c ps seat asks.Nodes h = absurd (grind (arith, h))
client_reply c ps seat asks.Jobs h = absurd (grind (arith, h))
client_reply c ps seat ask h = refl

-- ---- the end of a step

-- what an own step makes of what an own command made
abbrev closed : Option NodeNo → Option Job → List Placed → Owned → Owned
closed failed marked ps o = record { next = own_settled ps (own_failed failed (own_marked marked o.next)); reply = o.reply }

closed_same : (failed : Option NodeNo) (marked : Option Job) (ps : List Placed) (o o' : Owned) → failed ≡ None → marked ≡ None → o ≡ o' → closed failed marked ps o ≡ record { next = own_settled ps o'.next; reply = o'.reply }
closed_same failed marked ps o o' f m e = λ i. closed (f i) (m i) ps (e i)

abbrev with_usage : List Usage → Part → Part
with_usage usage p = record p { usage = usage }

own_counted : (u : Owner) (k : Site) (c : Cluster) (seat : Seat) (ask : Ask) (reply : Reply) → is_owner u seat.owner ≡ true
    → usages_of u (count_reply k c seat ask reply) ≡ counted seat.owner (is_free (jobs_of u c.jobs) seat ask) (charge k seat ask reply) (usages_of u c.usage)
own_counted u k c seat ask reply own =
    count_own u seat.owner (is_free c.jobs seat ask) (charge k seat ask reply) c.usage own
    ∙ ap (λ (free : Bool). counted seat.owner free (charge k seat ask reply) (usages_of u c.usage)) (sym (free_own u seat ask c.jobs own))

-- the next part, where what it is made of is so
next_is : (u : Owner) (d : Cluster) (usage : List Usage) (ps : List Placed) (p : Part) (us : List Usage) → part_of u d ≡ p → usages_of u usage ≡ us
    → part_of u (settled ps (record d { usage = usage })) ≡ own_settled (placements_of u ps) (with_usage us p)
next_is u d usage ps p us e v = own_placements u ps (record d { usage = usage }) ∙ ap₂ (λ (q : Part) (x : List Usage). own_settled (placements_of u ps) (with_usage x q)) e v

-- ---- the law for one deed

-- The own step by what is read is the step, and its reply the reply.
abbrev pub IsOwnStep : Owner → Site → Cluster → Deed → Stepped → Type 0
IsOwnStep u k c d s = own_step k (part_of u c) (reading u c d s) ≡ record { next = part_of u s.next; reply = reply_for u d s.reply }

-- past the limit on commands
stopped_own : (u : Owner) (k : Site) (c : Cluster) (seat : Seat) (ask : Ask) (r : Refusal) (s : Stepped) → is_owner u seat.owner ≡ true → commands_refusal k c.usage c.jobs seat ask ≡ Some r → IsOwnStep u k c (Asked seat ask) (within_limit c (Some r) s)
stopped_own u k c seat ask r s own e = rw own (
    closed_same (failed_by ask (answers.Reply (tells.Refused r))) (marked_by u c.jobs ask (answers.Reply (tells.Refused r))) [] _ (record { next = part_of u c; reply = Some (tells.Refused r) }) (failed_refused ask r) (marked_refused u c.jobs ask r)
    (ap (λ (x : Option Refusal). own_within (part_of u c) x (own_shared k (part_of u c) seat ask [] (shared_of seat ask (answers.Reply (tells.Refused r))))) (commands_own u k seat ask c.jobs c.usage own ∙ e)))

stopped_other : (u : Owner) (k : Site) (c : Cluster) (seat : Seat) (ask : Ask) (r : Refusal) (s : Stepped) → is_owner u seat.owner ≡ false → IsOwnStep u k c (Asked seat ask) (within_limit c (Some r) s)
stopped_other u k c seat ask r s other = rw other (
    closed_same (failed_by ask (answers.Reply (tells.Refused r))) (marked_by u c.jobs ask (answers.Reply (tells.Refused r))) [] _ (record { next = part_of u c; reply = None }) (failed_refused ask r) (marked_refused u c.jobs ask r) refl)

-- a command of another seat
refused_other : (u : Owner) (k : Site) (c : Cluster) (seat : Seat) (ask : Ask) (r : Refusal) → is_owner u seat.owner ≡ false → IsOwnStep u k c (Asked seat ask) (refused_ask k c seat ask r)
refused_other u k c seat ask r other =
    let d = record c { usage = count_reply k c seat ask (tells.Refused r) } in
    rw other (
    closed_same (failed_by ask (answers.Reply (tells.Refused r))) (marked_by u c.jobs ask (answers.Reply (tells.Refused r))) (placements_of u (place d)) _ (record { next = part_of u c; reply = None }) (failed_refused ask r) (marked_refused u c.jobs ask r) refl
    ∙ ap (λ (q : Part). record { next = q; reply = None }) (sym (next_is u c (count_reply k c seat ask (tells.Refused r)) (place d) (part_of u c) (usages_of u c.usage) refl (count_other u seat.owner _ _ c.usage other))))

client_other : (u : Owner) (k : Site) (c : Cluster) (seat : Seat) (ask : Ask) → is_owner u seat.owner ≡ false → is_for_admins ask ≡ false → names_own seat ask ≡ true → IsOwnStep u k c (Asked seat ask) (done_ask k c seat ask)
client_other u k c seat ask other h n =
    let d = done k c seat ask in
    let ps = place d in
    let reply = whole_reply c ps seat ask in
    rw other (
    closed_same (failed_by ask (answers.Reply reply)) (marked_by u c.jobs ask (answers.Reply reply)) (placements_of u ps) _ (record { next = part_of u c; reply = None }) (failed_client ask (answers.Reply reply) h) (marked_client u c.jobs ask (answers.Reply reply) h) refl
    ∙ ap (λ (q : Part). record { next = q; reply = None }) (sym (next_is u d (count_reply k c seat ask reply) ps (part_of u c) (usages_of u c.usage) (other_effect u k c seat ask other h n) (count_other u seat.owner _ _ c.usage other))))

-- an administrators' command: what it does to the part is read, whose seat it is
admin_next : (u : Owner) (failed : Option NodeNo) (marked : Option Job) (usage : List Usage) (p : Part) → own_failed failed (own_marked marked (with_usage usage p)) ≡ with_usage usage (own_failed failed (own_marked marked p))
admin_next u None marked usage p = refl
admin_next u (Some node) marked usage p = refl

admin_other : (u : Owner) (k : Site) (c : Cluster) (seat : Seat) (ask : Ask) → is_owner u seat.owner ≡ false → is_for_admins ask ≡ true → IsOwnStep u k c (Asked seat ask) (done_ask k c seat ask)
admin_other u k c seat ask other h =
    let d = done k c seat ask in
    let ps = place d in
    let reply = whole_reply c ps seat ask in
    let f = failed_by ask (answers.Reply reply) in
    let m = marked_by u c.jobs ask (answers.Reply reply) in
    rw other (ap (λ (q : Part). record { next = q; reply = None })
    (ap (own_settled (placements_of u ps)) (admin_next u f m (usages_of u c.usage) (part_of u c))
    ∙ sym (next_is u d (count_reply k c seat ask reply) ps (own_failed f (own_marked m (part_of u c))) (usages_of u c.usage) (admin_effect u k c seat ask ps h) (count_other u seat.owner _ _ c.usage other))))

-- ---- a command of an own seat

-- within the limit, by what is read
within_own : (u : Owner) (k : Site) (c : Cluster) (seat : Seat) (ask : Ask) (ps : List Placed) (shared : Shared) → is_owner u seat.owner ≡ true → commands_refusal k c.usage c.jobs seat ask ≡ None
    → own_ask k (part_of u c) ps (Some record { seat = seat; ask = ask; shared = shared }) ≡ own_shared k (part_of u c) seat ask ps shared
within_own u k c seat ask ps shared own e = ap (λ (x : Option Refusal). own_within (part_of u c) x (own_shared k (part_of u c) seat ask ps shared)) (commands_own u k seat ask c.jobs c.usage own ∙ e)

shared_as : (k : Site) (p : Part) (seat : Seat) (ask : Ask) (ps : List Placed) (x : Option Refusal) → own_shared k p seat ask ps (elim x as (λ _. Shared) [ None ↦ free | Some r ↦ refused r ]) ≡ own_with k p seat ask ps (own_refusal k p seat ask x)
shared_as k p seat ask ps None = refl
shared_as k p seat ask ps (Some r) = refl

pub if_on : {A : Type 0} (b : Bool) (x y : A) → b ≡ true → (if b then x else y) ≡ x
if_on true x y h = refl
if_on false x y h = absurd (grind (arith, h))

refused_own : (u : Owner) (k : Site) (c : Cluster) (seat : Seat) (ask : Ask) (r : Refusal) → is_owner u seat.owner ≡ true → is_admins seat ask ≡ false → commands_refusal k c.usage c.jobs seat ask ≡ None
    → own_refusal k (part_of u c) seat ask (back (Some r)) ≡ Some r → IsOwnStep u k c (Asked seat ask) (refused_ask k c seat ask r)
unfolding back
refused_own u k c seat ask r own h e is =
    let reply = tells.Refused r in
    let usage = count_reply k c seat ask reply in
    let d = record c { usage = usage } in
    let p = part_of u c in
    let ps = placements_of u (place d) in
    rw own (
    closed_same (failed_by ask (answers.Reply reply)) (marked_by u c.jobs ask (answers.Reply reply)) ps _ (own_refused k p seat ask r) (failed_refused ask r) (marked_refused u c.jobs ask r)
    (within_own u k c seat ask ps (shared_of seat ask (answers.Reply reply)) own e
    ∙ (ap (own_shared k p seat ask ps) (if_off (is_admins seat ask) (whole reply) (shared_in reply) h)
    ∙ (shared_as k p seat ask ps (shared_refusal r) ∙ ap (own_with k p seat ask ps) is)))
    ∙ ap (λ (q : Part). record { next = q; reply = Some reply }) (sym (next_is u c usage (place d) p _ refl (own_counted u k c seat ask reply own))))

client_own : (u : Owner) (k : Site) (c : Cluster) (seat : Seat) (ask : Ask) → is_owner u seat.owner ≡ true → is_for_admins ask ≡ false → names_own seat ask ≡ true → commands_refusal k c.usage c.jobs seat ask ≡ None
    → own_refusal k (part_of u c) seat ask None ≡ None → IsOwnStep u k c (Asked seat ask) (done_ask k c seat ask)
client_own u k c seat ask own h n e is =
    let d = done k c seat ask in
    let reply = whole_reply c (place d) seat ask in
    let p = part_of u c in
    let ps = placements_of u (place d) in
    let said = client_reply c (place d) seat ask h in
    rw own (
    closed_same (failed_by ask (answers.Reply reply)) (marked_by u c.jobs ask (answers.Reply reply)) ps _ (own_told k p seat ask reply (own_done p seat ask)) (failed_client ask (answers.Reply reply) h) (marked_client u c.jobs ask (answers.Reply reply) h)
    (within_own u k c seat ask ps (shared_of seat ask (answers.Reply reply)) own e
    ∙ (ap (own_shared k p seat ask ps) (if_off (is_admins seat ask) (whole reply) (shared_in reply) (and_off (is_for_admins ask) (is_role seat.role Admin) h) ∙ (ap shared_in said ∙ reply_free c.table c.jobs c.given (place d) seat ask))
    ∙ (ap (own_with k p seat ask ps) is
    ∙ ap (λ (x : Reply). own_told k p seat ask x (own_done p seat ask)) (reply_own u seat ask c.table c.jobs c.given (place d) own n ∙ sym said))))
    ∙ ap (λ (q : Part). record { next = q; reply = Some reply }) (sym (next_is u d (count_reply k c seat ask reply) (place d) (own_done p seat ask) _ (own_effect u k c seat ask own h n) (own_counted u k c seat ask reply own))))

-- The whole reply is read.
told_own : (u : Owner) (k : Site) (c : Cluster) (seat : Seat) (ask : Ask) (ps : List Placed) (reply : Reply) → is_owner u seat.owner ≡ true → is_admins seat ask ≡ true → commands_refusal k c.usage c.jobs seat ask ≡ None
    → own_ask k (part_of u c) ps (Some record { seat = seat; ask = ask; shared = shared_of seat ask (answers.Reply reply) }) ≡ own_told k (part_of u c) seat ask reply (part_of u c)
told_own u k c seat ask ps reply own h e = within_own u k c seat ask ps (shared_of seat ask (answers.Reply reply)) own e ∙ ap (own_shared k (part_of u c) seat ask ps) (if_on (is_admins seat ask) (whole reply) (shared_in reply) h)

admin_refused : (u : Owner) (k : Site) (c : Cluster) (seat : Seat) (ask : Ask) (r : Refusal) → is_owner u seat.owner ≡ true → is_admins seat ask ≡ true → commands_refusal k c.usage c.jobs seat ask ≡ None → IsOwnStep u k c (Asked seat ask) (refused_ask k c seat ask r)
admin_refused u k c seat ask r own h e =
    let reply = tells.Refused r in
    let usage = count_reply k c seat ask reply in
    let d = record c { usage = usage } in
    let p = part_of u c in
    let ps = placements_of u (place d) in
    rw own (
    closed_same (failed_by ask (answers.Reply reply)) (marked_by u c.jobs ask (answers.Reply reply)) ps _ (own_told k p seat ask reply p) (failed_refused ask r) (marked_refused u c.jobs ask r) (told_own u k c seat ask ps reply own h e)
    ∙ ap (λ (q : Part). record { next = q; reply = Some reply }) (sym (next_is u c usage (place d) p _ refl (own_counted u k c seat ask reply own))))

admin_own : (u : Owner) (k : Site) (c : Cluster) (seat : Seat) (ask : Ask) → is_owner u seat.owner ≡ true → is_for_admins ask ≡ true → is_admins seat ask ≡ true → commands_refusal k c.usage c.jobs seat ask ≡ None → IsOwnStep u k c (Asked seat ask) (done_ask k c seat ask)
admin_own u k c seat ask own h a e =
    let d = done k c seat ask in
    let reply = whole_reply c (place d) seat ask in
    let f = failed_by ask (answers.Reply reply) in
    let m = marked_by u c.jobs ask (answers.Reply reply) in
    let p = part_of u c in
    let ps = placements_of u (place d) in
    let us = counted seat.owner (is_free p.jobs seat ask) (charge k seat ask reply) p.usage in
    rw own (
    ap (closed f m ps) (told_own u k c seat ask ps reply own a e)
    ∙ ap (λ (q : Part). record { next = q; reply = Some reply })
    (ap (own_settled ps) (admin_next u f m us p)
    ∙ sym (next_is u d (count_reply k c seat ask reply) (place d) (own_failed f (own_marked m p)) us (admin_effect u k c seat ask (place d) h) (own_counted u k c seat ask reply own))))

-- ---- any command

batch_among : (a b d e g h i j rest : Option Refusal) → or_else a (or_else b (or_else d (or_else e (or_else g (or_else h (or_else i (or_else j rest))))))) ≡ None → j ≡ None
batch_among a b d e g h i j rest p = or_first j rest (or_then i _ (or_then h _ (or_then g _ (or_then e _ (or_then d _ (or_then b _ (or_then a _ p)))))))

pub batch_from : (k : Site) (c : Cluster) (seat : Seat) (ask : Ask) (f : Faults) → ask_refusal k c seat ask f ≡ None → batch_refusal c.table seat ask ≡ None
batch_from k c seat ask f h = batch_among (role_refusal seat ask) (node_refusal c.nodes ask) (range_refusal ask) (state_refusal c.jobs seat ask) (job_refusal c.jobs seat ask) (marked_refusal c.jobs ask) (alive_refusal c.nodes ask) (batch_refusal c.table seat ask) _ h

names_from : (k : Site) (c : Cluster) (seat : Seat) (ask : Ask) (f : Faults) → ask_refusal k c seat ask f ≡ None → names_own seat ask ≡ true
names_from k c seat ask f h = names_own_from c.table seat ask (batch_among (role_refusal seat ask) (node_refusal c.nodes ask) (range_refusal ask) (state_refusal c.jobs seat ask) (job_refusal c.jobs seat ask) (marked_refusal c.jobs ask) (alive_refusal c.nodes ask) (batch_refusal c.table seat ask) _ h)

role_held : (a b : Bool) (rest : Option Refusal) → or_else (unless (not a || b) ROLE) rest ≡ None → (a && b) ≡ a
role_held true true rest h = refl
role_held true false rest h = absurd (grind (arith, h))
role_held false b rest h = refl

role_from : (k : Site) (c : Cluster) (seat : Seat) (ask : Ask) (f : Faults) → ask_refusal k c seat ask f ≡ None → is_admins seat ask ≡ is_for_admins ask
role_from k c seat ask f h = role_held (is_for_admins ask) (is_role seat.role Admin) _ h

done_own : (u : Owner) (k : Site) (c : Cluster) (seat : Seat) (ask : Ask) (f : Faults) (b : Bool) → is_for_admins ask ≡ b → is_owner u seat.owner ≡ true → commands_refusal k c.usage c.jobs seat ask ≡ None → ask_refusal k c seat ask f ≡ None → IsOwnStep u k c (Asked seat ask) (done_ask k c seat ask)
unfolding back
done_own u k c seat ask f true h own e x = admin_own u k c seat ask own h (role_from k c seat ask f x ∙ h) e
done_own u k c seat ask f false h own e x = client_own u k c seat ask own h (names_from k c seat ask f x) e (ap (λ (y : Option Refusal). own_refusal k (part_of u c) seat ask (back y)) (sym x) ∙ (own_refusal_is u k c seat ask f own (role_from k c seat ask f x ∙ h) ∙ x))

refused_by_own : (u : Owner) (k : Site) (c : Cluster) (seat : Seat) (ask : Ask) (f : Faults) (r : Refusal) (b : Bool) → is_admins seat ask ≡ b → is_owner u seat.owner ≡ true → commands_refusal k c.usage c.jobs seat ask ≡ None → ask_refusal k c seat ask f ≡ Some r → IsOwnStep u k c (Asked seat ask) (refused_ask k c seat ask r)
refused_by_own u k c seat ask f r true h own e x = admin_refused u k c seat ask r own h e
refused_by_own u k c seat ask f r false h own e x = refused_own u k c seat ask r own h e (ap (λ (y : Option Refusal). own_refusal k (part_of u c) seat ask (back y)) (sym x) ∙ (own_refusal_is u k c seat ask f own h ∙ x))

asked_own : (u : Owner) (k : Site) (c : Cluster) (seat : Seat) (ask : Ask) (f : Faults) (x0 x : Option Refusal) → commands_refusal k c.usage c.jobs seat ask ≡ x0 → ask_refusal k c seat ask f ≡ x → is_owner u seat.owner ≡ true → IsOwnStep u k c (Asked seat ask) (within_limit c x0 (asked_with k c seat ask x))
asked_own u k c seat ask f (Some r) x e h own = stopped_own u k c seat ask r (asked_with k c seat ask x) own e
asked_own u k c seat ask f None (Some r) e h own = refused_by_own u k c seat ask f r (is_admins seat ask) refl own e h
asked_own u k c seat ask f None None e h own = done_own u k c seat ask f (is_for_admins ask) refl own e h

done_other : (u : Owner) (k : Site) (c : Cluster) (seat : Seat) (ask : Ask) (f : Faults) (b : Bool) → is_for_admins ask ≡ b → is_owner u seat.owner ≡ false → ask_refusal k c seat ask f ≡ None → IsOwnStep u k c (Asked seat ask) (done_ask k c seat ask)
done_other u k c seat ask f true h other x = admin_other u k c seat ask other h
done_other u k c seat ask f false h other x = client_other u k c seat ask other h (names_from k c seat ask f x)

asked_other : (u : Owner) (k : Site) (c : Cluster) (seat : Seat) (ask : Ask) (f : Faults) (x0 x : Option Refusal) → ask_refusal k c seat ask f ≡ x → is_owner u seat.owner ≡ false → IsOwnStep u k c (Asked seat ask) (within_limit c x0 (asked_with k c seat ask x))
asked_other u k c seat ask f (Some r) x h other = stopped_other u k c seat ask r (asked_with k c seat ask x) other
asked_other u k c seat ask f None (Some r) h other = refused_other u k c seat ask r other
asked_other u k c seat ask f None None h other = done_other u k c seat ask f (is_for_admins ask) refl other h

asked_by : (u : Owner) (k : Site) (c : Cluster) (seat : Seat) (ask : Ask) (f : Faults) (b : Bool) → is_owner u seat.owner ≡ b → IsOwnStep u k c (Asked seat ask) (asked k c seat ask f)
asked_by u k c seat ask f true own = asked_own u k c seat ask f (commands_refusal k c.usage c.jobs seat ask) (ask_refusal k c seat ask f) refl refl own
asked_by u k c seat ask f false other = asked_other u k c seat ask f (commands_refusal k c.usage c.jobs seat ask) (ask_refusal k c seat ask f) refl other

pub own_ask_step : (u : Owner) (k : Site) (c : Cluster) (seat : Seat) (ask : Ask) (f : Faults) → IsOwnStep u k c (Asked seat ask) (asked k c seat ask f)
own_ask_step u k c seat ask f = asked_by u k c seat ask f (is_owner u seat.owner) refl
