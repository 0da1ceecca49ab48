-- Over a legal history no sum passes its bound.
use Rattle.std.proofs.Common.{◌≡◌, refl, sym, ap, ◌∙◌, subst, ℕ, zero, suc, ◌+◌, ◌≤◌, ◌<◌, ◌^◌, Bool, true, false, List, [], ◌∷◌, ◌++◌, length, Option, Some, None, arith}
use Rattle.std.specs.Prelude.{cond, filter, option_to_list, sum_by}
use Rattle.std.proofs.lemmas.List.{length-map}
use Rattle.std.proofs.lemmas.List.Sums.{sum_by-cons}
use Rattle.base_names.specs.declared.node.NodeNo.{NodeNo}
use Rattle.model_data.specs.declared.batch.BatchRecord.{BatchRecord}
use Rattle.table_defs.specs.Keyed.{IsKeyed}
use Rattle.table_defs.specs.Table.{Table, after, applied, no_rows}
use Rattle.table_defs.specs.Taken.{AreTaken, first_refusal, refusal}
use Rattle.table_defs.proofs.Keyed.{keyed_after, keyed_kept, none_keyed}
use Rattle.table_defs.proofs.Lists.{fewer}
use Rattle.table_defs.proofs.Records.{or_first, or_then}
use Rattle.cluster_defs.specs.Cluster.{Cluster, Node, Running, numbers_of, running, runs_at}
use Rattle.cluster_defs.specs.Ends.{bytes_of, end_of}
use Rattle.cluster_defs.specs.Entries.{Entry, EntryReply, faults_of}
use Rattle.cluster_defs.specs.Journal.{Event, was_failed, was_kept, was_not_opened, was_opened}
use Rattle.cluster_defs.specs.Legal.{GivenBack, IsLegal, IsLegalFrom, IsStep, back_at, cluster_behind, cluster_from, given_back}
use Rattle.cluster_defs.specs.Life.{Tells, event_in, events_from}
use Rattle.cluster_defs.specs.Opened.{mounted, nodes_from, opened}
use Rattle.cluster_defs.specs.Placement.{place}
use Rattle.cluster_defs.specs.Room.{AreShort, Fits}
use Rattle.cluster_defs.specs.Site.{Site}
use Rattle.cluster_defs.specs.Step.{step, with_returned}
use Rattle.cluster_defs.specs.Waiters.{is_node}
use Rattle.cluster_laws.specs.Bounds.{AreBounded, AreSmall, AreWritable, IsLawful, IsSmall, IsWritten, all_bounds, asks_for_job, jobs_asked, most_jobs}
use Rattle.cluster_laws.specs.Places.{Every}
use Rattle.cluster_laws.specs.Sound.{IsSound}
use Rattle.cluster_laws.proofs.Charged.{IsLight, answer_charged}
use Rattle.cluster_laws.proofs.Numbered.{step_kept}
use Rattle.cluster_laws.proofs.Pigeons.{placed_fewer}
use Rattle.cluster_laws.proofs.Records.{step_tells}
use Rattle.cluster_laws.proofs.Room.{event_stays}
use Rattle.cluster_laws.proofs.Small.{IsSmallEvent, after_small, event_small, greatest_small, no_rows_small, record_keeps_small}
use Rattle.cluster_laws.proofs.SoundOpenings.{opened_is_good}
use Rattle.cluster_laws.proofs.SoundSteps.{step_is_good}
use Rattle.cluster_laws.proofs.Uses.{AreCounts, all_long, asked_in, step_counts, step_jobs}
use Rattle.cluster_laws.proofs.Weights.{kept_weighs, needs, record_weighs, rows_weigh, weight}

-- ---- what holds behind every entry

abbrev Weighs : Site → Table → ℕ → Type 0
Weighs k t end = 8 + weight k t ≤ end

pub record Holds (k : Site) (n : ℕ) (c : Cluster) : Type 0 where
  pub good : IsSound c
  pub keyed : IsKeyed c.table
  pub fits : Fits k c
  pub weighs : Weighs k c.table c.journal
  pub small : AreSmall c.table
  pub nodes : length c.nodes ≤ k.setup.nodes
  pub jobs : length c.jobs ≤ n
  pub counts : AreCounts k c

longer : (k : Site) (m n : ℕ) (c : Cluster) → m ≤ n → Holds k m c → Holds k n c
longer k m n c le h = record { good = h.good; keyed = h.keyed; fits = h.fits; weighs = h.weighs; small = h.small; nodes = h.nodes; jobs = omega (arith, le, h.jobs); counts = h.counts }

returned_holds : (k : Site) (n : ℕ) (c : Cluster) (g : GivenBack) → Holds k n c → Holds k n (with_returned c g.id g.attempt)
returned_holds k n c g h = record {
  good = record { sound = h.good.sound; numbered = h.good.numbered };
  keyed = h.keyed;
  fits = h.fits;
  weighs = h.weighs;
  small = h.small;
  nodes = h.nodes;
  jobs = h.jobs;
  counts = record { entries = h.counts.entries; charges = h.counts.charges; given = h.counts.given };
}

back_holds : (k : Site) (n : ℕ) (gs : List GivenBack) (c : Cluster) → Holds k n c → Holds k n (given_back gs c)
back_holds k n [] c h = h
back_holds k n (g ∷ gs) c h = back_holds k n gs (with_returned c g.id g.attempt) (returned_holds k n c g h)

event_weighs : (k : Site) (event : Option Event) (c d : Cluster) → IsWritten k → Tells k event c d → IsKeyed c.table → Weighs k c.table c.journal → Weighs k d.table d.journal
event_weighs k None c d written tells o h = let e = ap (weight k) tells.0 in omega (arith, e, tells.1, h)
event_weighs k (Some (was_kept r)) c d written tells o h = let e = ap (weight k) tells.2 in let w = record_weighs k r c.table written tells.0 o in omega (arith, e, w, tells.3, h)
event_weighs k (Some (was_failed r)) c d written tells o h = let e = ap (weight k) tells.1 in omega (arith, e, tells.2, h)
event_weighs k (Some was_not_opened) c d written tells o h = absurd tells
event_weighs k (Some was_opened) c d written tells o h = absurd tells

event_keeps_small : (k : Site) (event : Option Event) (c d : Cluster) → Tells k event c d → IsSmallEvent event → AreSmall c.table → AreSmall d.table
event_keeps_small k None c d tells small h = subst AreSmall (sym tells.0) h
event_keeps_small k (Some (was_kept r)) c d tells small h = subst AreSmall (sym tells.2) (record_keeps_small r c.table small h)
event_keeps_small k (Some (was_failed r)) c d tells small h = subst AreSmall (sym tells.1) h
event_keeps_small k (Some was_not_opened) c d tells small h = absurd tells
event_keeps_small k (Some was_opened) c d tells small h = absurd tells

as_many : (ms ns : List Node) → numbers_of ms ≡ numbers_of ns → length ms ≡ length ns
as_many ms ns e = sym (length-map ms (λ n. n.node.0)) ∙ (ap length e ∙ length-map ns (λ n. n.node.0))

light_of : (k : Site) (n : ℕ) (c : Cluster) → IsLawful k.setup → n ≤ most_jobs → Holds k n c → IsLight k c
light_of k n c lawful le h = record { weighs = omega (arith, h.weighs, h.fits, lawful.journal); jobs = omega (arith, h.jobs, le); nodes = omega (arith, h.nodes, lawful.nodes) }

step_holds : (k : Site) (n faults : ℕ) (c : Cluster) (e : Entry) (more : List Event) → IsLawful k.setup → IsWritten k → n ≤ most_jobs → IsStep k c faults e → AreWritable k (e ∷ []) → AreShort k (option_to_list (event_in c e.deed e.reply) ++ more) → Holds k n c
    → Holds k (n + asked_in e.deed) (step k c e.deed (faults_of e)).next × AreShort k more
step_holds k n faults c e more lawful written le legal can short h =
    let next = (step k c e.deed (faults_of e)).next in
    let event = event_in c e.deed e.reply in
    let tells : Tells k event c next = subst (λ (reply : EntryReply). Tells k (event_in c e.deed reply) c next) (sym legal.reply) (step_tells k c e.deed (faults_of e) h.good) in
    let small : IsSmallEvent event = subst (λ (reply : EntryReply). IsSmallEvent (event_in c e.deed reply)) (sym legal.reply) (event_small k c e.deed (faults_of e)) in
    let s = event_stays k event c next tells more short h.keyed h.fits in
    let numbers = as_many next.nodes c.nodes (step_kept k c e.deed (faults_of e)) in
    let jobs = step_jobs k c e.deed (faults_of e) in (
      record {
        good = step_is_good k c e.deed (faults_of e) h.good;
        keyed = s.0.ordered;
        fits = s.0.fits;
        weighs = event_weighs k event c next written tells h.keyed h.weighs;
        small = event_keeps_small k event c next tells small h.small;
        nodes = omega (arith, numbers, h.nodes);
        jobs = omega (arith, jobs, h.jobs);
        counts = step_counts k c e.deed (faults_of e) legal.may written (light_of k n c lawful le h) can.0 h.counts;
      },
      s.1,
    )

one_asked : (e : Entry) (es : List Entry) (b : Bool) → length (cond b (e ∷ filter (λ x. asks_for_job x.deed) es) (filter (λ x. asks_for_job x.deed) es)) ≡ cond b 1 0 + jobs_asked es
one_asked e es true = omega arith
one_asked e es false = omega arith

pub asked_first : (e : Entry) (es : List Entry) → jobs_asked (e ∷ es) ≡ asked_in e.deed + jobs_asked es
asked_first e es = one_asked e es (asks_for_job e.deed)

-- behind so many entries, of which so many asked for a job
history_holds : (k : Site) (H : List Entry) (N : List GivenBack) (n faults jobs m : ℕ) (c : Cluster) → IsLawful k.setup → IsWritten k → IsLegalFrom k n faults c N H → AreShort k (events_from k n c N H) → AreWritable k H → jobs + jobs_asked H ≤ m → m ≤ most_jobs → Holds k jobs c → Holds k m (cluster_from k n c N H)
history_holds k [] N n faults jobs m c lawful written legal short can le most h = longer k jobs m _ (omega (arith, le)) (back_holds k jobs (back_at n N) c h)
history_holds k (e ∷ es) N n faults jobs m c lawful written legal short can le most h =
    let d = given_back (back_at n N) c in
    let next = (step k d e.deed (faults_of e)).next in
    let a = asked_first e es in
    let s = step_holds k jobs faults d e (events_from k (suc n) next N es) lawful written (omega (arith, le, most)) legal.1 (can.0, tt) short (back_holds k jobs (back_at n N) c h) in
    history_holds k es N (suc n) e.after (jobs + asked_in e.deed) m next lawful written legal.2 s.1 can.1 (omega (arith, le, a)) most s.0

-- ---- an opening

weight_after : (k : Site) (rs : List BatchRecord) (t : Table) → IsWritten k → first_refusal rs t ≡ None → IsKeyed t → weight k (after rs t) ≤ weight k t + sum_by (bytes_of k) rs
weight_after k [] t written taken o = omega arith
weight_after k (r ∷ rs) t written taken o =
    let first : refusal r t ≡ None = or_first (refusal r t) (first_refusal rs (applied r t)) taken in
    let later = weight_after k rs (applied r t) written (or_then (refusal r t) (first_refusal rs (applied r t)) taken) (keyed_kept r t first o) in
    let w = record_weighs k r t written first o in
    let e = sum_by-cons (bytes_of k) r rs in
    omega (arith, later, w, e)

as_set_up : (k : Site) (first n : ℕ) → length (nodes_from k first n) ≡ n
as_set_up k first zero = refl
as_set_up k first (suc n) = let h = as_set_up k (suc first) n in omega (arith, h)

opened_holds : (k : Site) (rs : List BatchRecord) → IsWritten k → first_refusal rs no_rows ≡ None → Every IsSmall rs → Fits k (opened k (after rs no_rows) (end_of k rs)) → Holds k 0 (opened k (after rs no_rows) (end_of k rs))
opened_holds k rs written taken small fits =
    let t = after rs no_rows in
    let o = keyed_after rs taken in
    let w = weight_after k rs no_rows written taken none_keyed in
    let n = as_set_up k 1 k.setup.nodes in
    let j = all_long (place (mounted k t (end_of k rs))) [] in
    record {
      good = opened_is_good k t (end_of k rs) o;
      keyed = o;
      fits = fits;
      weighs = omega (arith, w);
      small = after_small rs no_rows small no_rows_small;
      nodes = omega (arith, n);
      jobs = omega (arith, j);
      counts = record { entries = λ u. omega arith; charges = λ u. omega arith; given = λ s. omega arith };
    }

-- ---- the bounds

runs_few : (node : NodeNo) (c : Cluster) → running node c ≤ length c.jobs + length c.placed
runs_few node c = let a = fewer (runs_at node) c.jobs in let b = fewer (λ (r : Running). is_node node r.node) c.placed in omega (arith, a, b)

bounded_by : (k : Site) (c : Cluster) → IsLawful k.setup → IsWritten k → Holds k most_jobs c → AreBounded k c
bounded_by k c lawful written h =
    let light = light_of k most_jobs c lawful (omega arith) h in
    let rows = rows_weigh k c.table in
    let placed = placed_fewer c h.good.sound in
    record {
      entries = λ u. let a = h.counts.entries u in omega (arith, a, lawful.commands);
      charges = h.counts.charges;
      charge = λ ps seat ask can. answer_charged k c ps seat ask written light can;
      jobs = λ seat. let a = h.counts.given seat in let b = h.counts.entries seat.owner in omega (arith, a, b, lawful.commands);
      numbers = λ u. greatest_small u c.table h.small;
      attempts = h.small.rows;
      kept = λ u. let a = kept_weighs k u c.table written in omega (arith, a, light.weighs);
      journal = omega (arith, h.fits, lawful.journal);
      needed = λ r le. let a = needs k c.journal c.table r h.keyed in omega (arith, a, le, h.fits, lawful.journal);
      running = λ node. let a = runs_few node c in omega (arith, a, rows, placed, light.weighs, h.jobs);
      lines = omega (arith, rows, light.weighs, h.jobs);
    }

pub behind_bounded : (k : Site) (rs : List BatchRecord) (faults : ℕ) (H : List Entry) (N : List GivenBack) → IsLawful k.setup → IsWritten k → AreTaken rs no_rows → Every IsSmall rs → IsLegal k (after rs no_rows) (end_of k rs) faults H N
    → Fits k (opened k (after rs no_rows) (end_of k rs)) → AreShort k (events_from k 0 (opened k (after rs no_rows) (end_of k rs)) N H) → AreWritable k H → jobs_asked H ≤ most_jobs → AreBounded k (cluster_behind k (after rs no_rows) (end_of k rs) H N)
behind_bounded k rs faults H N lawful written taken small legal fits short can le =
    bounded_by k (cluster_behind k (after rs no_rows) (end_of k rs) H N) lawful written (history_holds k H N 0 faults 0 most_jobs (opened k (after rs no_rows) (end_of k rs)) lawful written legal short can (omega (arith, le)) (omega arith) (opened_holds k rs written taken small fits))

pub bounds_fit : Every (λ (bound : ℕ). bound < 2 ^ 64) all_bounds
bounds_fit = (omega arith, (omega arith, (omega arith, (omega arith, (omega arith, (omega arith, (omega arith, tt)))))))
