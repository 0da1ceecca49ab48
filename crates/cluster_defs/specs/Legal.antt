-- Which entries may follow on an opening.
use Rattle.std.specs.Prelude.{◌≡◌, ℕ, suc, ◌==◌, ◌<◌, ◌≤◌, Bool, true, false, not, List, [], ◌∷◌, filter, find, Option, Some, None, is_some, IfSome, IsTrue, ⊤}
use Rattle.base_names.specs.declared.id.BatchId.{BatchId}
use Rattle.base_names.specs.declared.refusal.Refusal.TheVariants.{DISK}
use Rattle.model_data.specs.declared.batch.AttemptOf.{AttemptOf}
use Rattle.table_defs.specs.Lists.{each}
use Rattle.table_defs.specs.Names.{is_attempt}
use Rattle.table_defs.specs.Table.{Table, row_of}
use Rattle.cluster_defs.specs.Cluster.{Cluster, Running}
use Rattle.cluster_defs.specs.Deeds.{Asked, Deed, Disk, Finished, Left, Took}
use Rattle.cluster_defs.specs.Entries as answers
use Rattle.cluster_defs.specs.Entries.{Entry, EntryReply, faults_of}
use Rattle.cluster_defs.specs.Opened.{opened}
use Rattle.cluster_defs.specs.Refusals.{commands_refusal}
use Rattle.cluster_defs.specs.Replies as tells
use Rattle.cluster_defs.specs.Site.{Site}
use Rattle.cluster_defs.specs.Step.{step, with_returned}

-- ---- works that are given back

-- An attempt that a worker gave back without an entry, for want of memory, and how many entries were there before.
pub record GivenBack : Type 0 where
  pub id : BatchId
  pub attempt : ℕ
  pub entries : ℕ

abbrev pub is_taken : BatchId → ℕ → List AttemptOf → Bool
is_taken id attempt taken = is_some (find (λ a. is_attempt id attempt a.id a.attempt) taken)

-- those that are given back behind so many entries
abbrev pub back_at : ℕ → List GivenBack → List GivenBack
back_at n N = filter (λ g. g.entries == n) N

abbrev pub given_back : List GivenBack → Cluster → Cluster
given_back gs c = each (λ (g : GivenBack) (d : Cluster). with_returned d g.id g.attempt) gs c

abbrev pub WereTaken : List GivenBack → List AttemptOf → Type 0
WereTaken [] taken = ⊤
WereTaken (g ∷ gs) taken = IsTrue (is_taken g.id g.attempt taken) × WereTaken gs taken

-- the attempt that a worker gets: the first one placed among those that none has
abbrev pub next_work : Cluster → Option Running
next_work c = find (λ r. not (is_taken r.id r.attempt c.taken)) c.placed

abbrev pub is_work : BatchId → ℕ → Option Running → Bool
is_work id attempt None = false
is_work id attempt (Some r) = is_attempt id attempt r.id r.attempt

-- what has to hold of a deed beside its step
abbrev pub MayHappen : Site → Cluster → Deed → Type 0
MayHappen k c (Asked seat ask) = commands_refusal k c.usage c.jobs seat ask ≡ None
MayHappen k c (Took worker id attempt) = IsTrue (is_work id attempt (next_work c))
MayHappen k c (Finished id attempt result) = IfSome (row_of id c.table) (λ row. result ≡ k.plain row.body)
MayHappen k c (Left id attempt) = ⊤

-- The disk failed in a deed exactly where its answer says so.
abbrev pub says_disk : EntryReply → Bool
says_disk (answers.Reply (tells.Refused (DISK before after))) = true
says_disk (answers.Finish (Disk before after)) = true
says_disk reply = false

-- the counts of faults before and behind an entry
abbrev pub IsTold : Bool → ℕ → ℕ → Type 0
IsTold true before after = before < after
IsTold false before after = before ≡ after

-- an entry in a cluster, behind a count of faults
pub record IsStep (k : Site) (c : Cluster) (faults : ℕ) (e : Entry) : Type 0 where
  pub may : MayHappen k c e.deed
  pub placed : e.placed ≡ (step k c e.deed (faults_of e)).placed
  pub reply : e.reply ≡ (step k c e.deed (faults_of e)).reply
  pub later : faults ≤ e.before
  pub told : IsTold (says_disk e.reply) e.before e.after

-- from a cluster behind so many entries, with the disk's count of faults
abbrev pub IsLegalFrom : Site → ℕ → ℕ → Cluster → List GivenBack → List Entry → Type 0
IsLegalFrom k n faults c N [] = WereTaken (back_at n N) c.taken
IsLegalFrom k n faults c N (e ∷ es) =
    let d = given_back (back_at n N) c in WereTaken (back_at n N) c.taken × IsStep k d faults e × IsLegalFrom k (suc n) e.after (step k d e.deed (faults_of e)).next N es

abbrev pub IsLegal : Site → Table → ℕ → ℕ → List Entry → List GivenBack → Type 0
IsLegal k t end faults H N = IsLegalFrom k 0 faults (opened k t end) N H

-- ---- the cluster behind a history

abbrev pub cluster_from : Site → ℕ → Cluster → List GivenBack → List Entry → Cluster
cluster_from k n c N [] = given_back (back_at n N) c
cluster_from k n c N (e ∷ es) = cluster_from k (suc n) (step k (given_back (back_at n N) c) e.deed (faults_of e)).next N es

abbrev pub cluster_behind : Site → Table → ℕ → List Entry → List GivenBack → Cluster
cluster_behind k t end H N = cluster_from k 0 (opened k t end) N H
