-- How often jobs are asked for, where few owners ask: each such command is counted.
use Rattle.std.proofs.Common.{◌≡◌, inl, inr, refl, sym, ap, ◌∙◌, subst, ℕ, suc, ◌+◌, ◌*◌, ◌≤◌, Bool, false, List, [], ◌∷◌, length, Option, Some, None, arith}
use Rattle.std.specs.Prelude.{nat_le, sum_by}
use Rattle.std.proofs.lemmas.List.Sums.{sum_by-cons}
use Rattle.base_names.specs.declared.refusal.Refusal.{Refusal}
use Rattle.base_names.specs.declared.seat.Seat.{Seat}
use Rattle.table_defs.specs.Names.{Owner}
use Rattle.table_defs.specs.Table.{Table, row_of}
use Rattle.table_defs.proofs.Lists.{fewer}
use Rattle.cluster_defs.specs.Asks as asks
use Rattle.cluster_defs.specs.Asks.{Ask}
use Rattle.cluster_defs.specs.Charges.{counted}
use Rattle.cluster_defs.specs.Cluster.{Cluster, Job, Usage, usage_of}
use Rattle.cluster_defs.specs.Deeds.{Asked, Deed, Faults, Finished, Left, Took}
use Rattle.cluster_defs.specs.Entries.{Entry, faults_of}
use Rattle.cluster_defs.specs.Legal.{GivenBack, IsLegal, IsLegalFrom, MayHappen, back_at, cluster_behind, cluster_from, given_back}
use Rattle.cluster_defs.specs.Opened.{opened}
use Rattle.cluster_defs.specs.Refusals.{ask_refusal, is_free}
use Rattle.cluster_defs.specs.Site.{Site}
use Rattle.cluster_defs.specs.Step.{asked_with, step, still_open, with_returned, within_limit}
use Rattle.cluster_laws.specs.Bounds.{AreAmong, IsAmong, IsLawful, asks_for_job, jobs_asked, most_commands, most_jobs, most_owners}
use Rattle.cluster_laws.specs.Places.{IsIn}
use Rattle.cluster_laws.proofs.Bounded.{asked_first}
use Rattle.cluster_laws.proofs.Counts.{behind_within, finish_within, left_within, put_same}
use Rattle.cluster_laws.proofs.Sums.{sum_each}
use Rattle.cluster_laws.proofs.Uses.{asked_in, entries_rise}

-- the counted entries of these owners
abbrev entries_of : List Owner → List Usage → ℕ
entries_of owners usage = sum_by (λ u. (usage_of u usage).entries) owners

-- ---- one command

rises : (u o : Owner) (free : Bool) (bytes : ℕ) (all : List Usage) → (usage_of u all).entries ≤ (usage_of u (counted o free bytes all)).entries
rises u o free bytes all = entries_rise u o free bytes all (usage_of u all).entries (λ v is same. subst (λ (x : Owner). (usage_of u all).entries ≤ (usage_of x all).entries) (same ∙ is) (omega arith)) (omega arith)

own_rises : (o : Owner) (bytes : ℕ) (all : List Usage) → (usage_of o (counted o false bytes all)).entries ≡ (usage_of o all).entries + 1
own_rises o bytes all = ap (λ (x : Usage). x.entries) (put_same o (record { owner = o; entries = (usage_of o all).entries + 1; charges = (usage_of o all).charges + bytes }) all refl)

all_rise : (owners : List Owner) (o : Owner) (free : Bool) (bytes : ℕ) (all : List Usage) → entries_of owners all ≤ entries_of owners (counted o free bytes all)
all_rise owners o free bytes all = sum_each (λ u. (usage_of u all).entries) (λ u. (usage_of u (counted o free bytes all)).entries) (λ u. rises u o free bytes all) owners

one_rises : (owners : List Owner) (o : Owner) (bytes : ℕ) (all : List Usage) → IsIn o owners → 1 + entries_of owners all ≤ entries_of owners (counted o false bytes all)
one_rises [] o bytes all among = absurd among
one_rises (u ∷ owners) o bytes all among =
    let a = sum_by-cons (λ v. (usage_of v all).entries) u owners in
    let b = sum_by-cons (λ v. (usage_of v (counted o false bytes all)).entries) u owners in
    let first = rises u o false bytes all in
    elim among [
      | inl here ↦ (let d = own_rises o bytes all in let e = ap (λ (v : Owner). (usage_of v all).entries) here in let f = ap (λ (v : Owner). (usage_of v (counted o false bytes all)).entries) here in let later = all_rise owners o false bytes all in omega (arith, a, b, d, e, f, later))
      | inr there ↦ (let later = one_rises owners o bytes all there in omega (arith, a, b, first, later))
    ]

none_asked : (a b : ℕ) → a ≤ b → 0 + a ≤ b
none_asked a b h = omega (arith, h)

asked_rises : (owners : List Owner) (jobs : List Job) (seat : Seat) (ask : Ask) (bytes : ℕ) (all : List Usage) → IsIn seat.owner owners → asked_in (Asked seat ask) + entries_of owners all ≤ entries_of owners (counted seat.owner (is_free jobs seat ask) bytes all)
asked_rises owners jobs seat (asks.Job priority) bytes all among = one_rises owners seat.owner bytes all among
asked_rises owners jobs seat ask bytes all among = none_asked _ _ (all_rise owners seat.owner (is_free jobs seat ask) bytes all)

-- ---- a step, and a history

abbrev Rises : List Owner → Deed → Cluster → Cluster → Type 0
Rises owners d c next = asked_in d + entries_of owners c.usage ≤ entries_of owners next.usage

ask_rises : (owners : List Owner) (k : Site) (c : Cluster) (seat : Seat) (ask : Ask) (x : Option Refusal) → IsIn seat.owner owners → Rises owners (Asked seat ask) c (within_limit c None (asked_with k c seat ask x)).next
ask_rises owners k c seat ask (Some r) among = asked_rises owners c.jobs seat ask _ c.usage among
ask_rises owners k c seat ask None among = asked_rises owners c.jobs seat ask _ c.usage among

as_before : (owners : List Owner) (c next : Cluster) → next.usage ≡ c.usage → 0 + entries_of owners c.usage ≤ entries_of owners next.usage
as_before owners c next same = let e = ap (entries_of owners) same in omega (arith, e)

step_rises : (owners : List Owner) (k : Site) (c : Cluster) (d : Deed) (f : Faults) → MayHappen k c d → IsAmong owners d → Rises owners d c (step k c d f).next
step_rises owners k c (Asked seat ask) f may among = subst (λ (x : Option Refusal). Rises owners (Asked seat ask) c (within_limit c x (asked_with k c seat ask (ask_refusal k c seat ask f))).next) (sym may) (ask_rises owners k c seat ask (ask_refusal k c seat ask f) among)
step_rises owners k c (Took worker id n) f may among = as_before owners c (step k c (Took worker id n) f).next refl
step_rises owners k c (Finished id n result) f may among = as_before owners c (step k c (Finished id n result) f).next (finish_within k c id n result f (still_open n (row_of id c.table)) (nat_le f.after f.before) refl refl)
step_rises owners k c (Left id n) f may among = as_before owners c (step k c (Left id n) f).next (left_within k c id n f (still_open n (row_of id c.table)) refl)

back_usage : (gs : List GivenBack) (c : Cluster) → (given_back gs c).usage ≡ c.usage
back_usage [] c = refl
back_usage (g ∷ gs) c = back_usage gs (with_returned c g.id g.attempt)

history_rises : (owners : List Owner) (k : Site) (H : List Entry) (N : List GivenBack) (n faults : ℕ) (c : Cluster) → IsLegalFrom k n faults c N H → AreAmong owners H → jobs_asked H + entries_of owners c.usage ≤ entries_of owners (cluster_from k n c N H).usage
history_rises owners k [] N n faults c legal among = as_before owners c (given_back (back_at n N) c) (back_usage (back_at n N) c)
history_rises owners k (e ∷ es) N n faults c legal among =
    let d = given_back (back_at n N) c in
    let next = (step k d e.deed (faults_of e)).next in
    let a = asked_first e es in
    let b = ap (entries_of owners) (back_usage (back_at n N) c) in
    let first = step_rises owners k d e.deed (faults_of e) legal.1.may among.0 in
    let later = history_rises owners k es N (suc n) e.after next legal.2 among.1 in
    omega (arith, a, b, first, later)

-- ---- all of it

sum_most : (w : Owner → ℕ) → ((u : Owner) → w u ≤ most_commands) → (owners : List Owner) → sum_by w owners ≤ most_commands * length owners
sum_most w le [] = omega arith
sum_most w le (u ∷ owners) = let a = sum_by-cons w u owners in let h = sum_most w le owners in let b = le u in omega (arith, a, b, h)

pub few_owners : (k : Site) (t : Table) (end faults : ℕ) (H : List Entry) (N : List GivenBack) (owners : List Owner) → IsLawful k.setup → IsLegal k t end faults H N → AreAmong owners H → length owners ≤ most_owners → jobs_asked H ≤ most_jobs
few_owners k t end faults H N owners lawful legal among few =
    let usage = (cluster_behind k t end H N).usage in
    let rise = history_rises owners k H N 0 faults (opened k t end) legal among in
    let most = sum_most (λ u. (usage_of u usage).entries) (λ u. let a = behind_within k t end faults H N legal u in omega (arith, a, lawful.commands)) owners in
    omega (arith, rise, most, few)

pub few_entries : (H : List Entry) → jobs_asked H ≤ length H
few_entries H = fewer (λ (e : Entry). asks_for_job e.deed) H
