-- Nodes keep their numbers.
use Rattle.std.proofs.Common.{◌≡◌, refl, ap, ap₂, ◌∙◌, ℕ, suc, zero, Bool, true, false, List, [], ◌∷◌, Option, Some, None, arith}
use Rattle.std.specs.Prelude.{if◌then◌else◌, nat_le}
use Rattle.base_names.specs.declared.id.BatchId.{BatchId}
use Rattle.base_names.specs.declared.node.NodeNo.{NodeNo}
use Rattle.base_names.specs.declared.node.NodeState.TheVariants as state
use Rattle.base_names.specs.declared.refusal.Refusal.{Refusal}
use Rattle.base_names.specs.declared.seat.Seat.{Seat}
use Rattle.model_data.specs.declared.batch.BatchResult.{BatchResult}
use Rattle.table_defs.specs.Lists.{changed}
use Rattle.table_defs.specs.Outcomes.{IsRisingFrom}
use Rattle.table_defs.specs.Table.{Table, row_of}
use Rattle.cluster_defs.specs.Asks as asks
use Rattle.cluster_defs.specs.Asks.{Ask}
use Rattle.cluster_defs.specs.Cluster.{Cluster, Node, numbers_of}
use Rattle.cluster_defs.specs.Deeds.{Asked, Deed, Faults, Finished, Left, Took}
use Rattle.cluster_defs.specs.Effects.{nodes_after}
use Rattle.cluster_defs.specs.Entries.{Entry, faults_of}
use Rattle.cluster_defs.specs.Legal.{GivenBack, back_at, cluster_behind, cluster_from, given_back}
use Rattle.cluster_defs.specs.Opened.{nodes_from, opened}
use Rattle.cluster_defs.specs.Refusals.{ask_refusal, commands_refusal}
use Rattle.cluster_defs.specs.Site.{Site}
use Rattle.cluster_defs.specs.Step.{asked_with, step, still_open, with_returned, within_limit}
use Rattle.cluster_defs.specs.Waiters.{is_node}

one_number : (f : Node → Node) (n : Node) (b : Bool) → (f n).node ≡ n.node → (if b then f n else n).node.0 ≡ n.node.0
one_number f n true stays = ap (λ (no : NodeNo). no.0) stays
one_number f n false stays = refl

changed_numbers : (test : Node → Bool) (f : Node → Node) → ((n : Node) → (f n).node ≡ n.node) → (ns : List Node) → numbers_of (changed test f ns) ≡ numbers_of ns
changed_numbers test f stays [] = refl
changed_numbers test f stays (n ∷ ns) = ap₂ (λ (m : ℕ) (ms : List ℕ). m ∷ ms) (one_number f n (test n) (stays n)) (changed_numbers test f stays ns)

nodes_kept : (ask : Ask) (ns : List Node) → numbers_of (nodes_after ask ns) ≡ numbers_of ns
nodes_kept (asks.Limits node limit hard) ns = changed_numbers (λ n. is_node node n.node) (λ n. record n { limit = limit; hard = hard }) (λ n. refl) ns
nodes_kept (asks.Drain node) ns = changed_numbers (λ n. is_node node n.node) (λ n. record n { state = state.Draining }) (λ n. refl) ns
nodes_kept (asks.Resume node) ns = changed_numbers (λ n. is_node node n.node) (λ n. record n { state = state.Alive }) (λ n. refl) ns
nodes_kept (asks.Fail node) ns = changed_numbers (λ n. is_node node n.node) (λ n. record n { state = state.Failed }) (λ n. refl) ns
nodes_kept ask ns = refl

asked_kept : (k : Site) (c : Cluster) (seat : Seat) (ask : Ask) (x0 x : Option Refusal) → numbers_of (within_limit c x0 (asked_with k c seat ask x)).next.nodes ≡ numbers_of c.nodes
asked_kept k c seat ask (Some r) x = refl
asked_kept k c seat ask None (Some r) = refl
asked_kept k c seat ask None None = nodes_kept ask c.nodes

finish_kept : (k : Site) (c : Cluster) (id : BatchId) (n : ℕ) (result : BatchResult) (f : Faults) (o w : Bool) → still_open n (row_of id c.table) ≡ o → nat_le f.after f.before ≡ w → numbers_of (step k c (Finished id n result) f).next.nodes ≡ numbers_of c.nodes
finish_kept k c id n result f false w h g = rw h refl
finish_kept k c id n result f true true h g = rw (h, g) refl
finish_kept k c id n result f true false h g = rw (h, g) refl

left_kept : (k : Site) (c : Cluster) (id : BatchId) (n : ℕ) (f : Faults) (o : Bool) → still_open n (row_of id c.table) ≡ o → numbers_of (step k c (Left id n) f).next.nodes ≡ numbers_of c.nodes
left_kept k c id n f false h = rw h refl
left_kept k c id n f true h = rw h refl

pub step_kept : (k : Site) (c : Cluster) (d : Deed) (f : Faults) → numbers_of (step k c d f).next.nodes ≡ numbers_of c.nodes
step_kept k c (Asked seat ask) f = asked_kept k c seat ask (commands_refusal k c.usage c.jobs seat ask) (ask_refusal k c seat ask f)
step_kept k c (Took worker id n) f = refl
step_kept k c (Finished id n result) f = finish_kept k c id n result f (still_open n (row_of id c.table)) (nat_le f.after f.before) refl refl
step_kept k c (Left id n) f = left_kept k c id n f (still_open n (row_of id c.table)) refl

back_kept : (gs : List GivenBack) (c : Cluster) → numbers_of (given_back gs c).nodes ≡ numbers_of c.nodes
back_kept [] c = refl
back_kept (g ∷ gs) c = back_kept gs (with_returned c g.id g.attempt)

kept_from : (k : Site) (H : List Entry) (N : List GivenBack) (n : ℕ) (c : Cluster) → numbers_of (cluster_from k n c N H).nodes ≡ numbers_of c.nodes
kept_from k [] N n c = back_kept (back_at n N) c
kept_from k (e ∷ es) N n c =
    let d = given_back (back_at n N) c in
    kept_from k es N (suc n) (step k d e.deed (faults_of e)).next ∙ (step_kept k d e.deed (faults_of e) ∙ back_kept (back_at n N) c)

pub behind_kept : (k : Site) (t : Table) (end : ℕ) (H : List Entry) (N : List GivenBack) → numbers_of (cluster_behind k t end H N).nodes ≡ numbers_of (opened k t end).nodes
behind_kept k t end H N = kept_from k H N 0 (opened k t end)

counted_up : (k : Site) (m n : ℕ) → IsRisingFrom m (numbers_of (nodes_from k (suc m) n))
counted_up k m zero = tt
counted_up k m (suc n) = (omega arith, counted_up k (suc m) n)

pub first_rise : (k : Site) (t : Table) (end : ℕ) → IsRisingFrom 0 (numbers_of (opened k t end).nodes)
first_rise k t end = counted_up k 0 k.setup.nodes
