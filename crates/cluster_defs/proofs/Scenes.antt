-- Words for histories at hand: sites, seats, deeds with what is placed and answered.
use Rattle.std.proofs.Common.{◌≡◌, ℕ, ℤ, Bool, true, ◌&&◌, [], ◌∷◌, map, List, None, codes}
use Rattle.base_names.specs.declared.id.BatchId.{BatchId}
use Rattle.base_names.specs.declared.node.NodeNo.{NodeNo}
use Rattle.base_names.specs.declared.node.Placed.{Placed}
use Rattle.base_names.specs.declared.node.Waiter.TheVariants as waits
use Rattle.base_names.specs.declared.refusal.Refusal.{Refusal}
use Rattle.base_names.specs.declared.seat.Role.TheVariants.{Standard, Admin}
use Rattle.base_names.specs.declared.seat.Seat.{Seat}
use Rattle.frac128.specs.Fraction.{zero_value}
use Rattle.model_data.specs.Params.{usual_params}
use Rattle.model_data.specs.declared.batch.BatchBody.{BatchBody}
use Rattle.model_data.specs.declared.batch.BatchRecord.{BatchRecord}
use Rattle.model_data.specs.declared.batch.BatchResult.{BatchResult}
use Rattle.model_data.specs.declared.model.Direction.TheVariants.{Minimize}
use Rattle.table_defs.specs.Names.{Owner}
use Rattle.table_defs.specs.Table.{after, no_rows}
use Rattle.cluster_defs.specs.Asks.{Ask}
use Rattle.cluster_defs.specs.Cluster.{Cluster}
use Rattle.cluster_defs.specs.Deeds.{Asked, Deed, Finished, FinishReply, Left, Took}
use Rattle.cluster_defs.specs.Ends.{end_of}
use Rattle.cluster_defs.specs.Entries as answers
use Rattle.cluster_defs.specs.Entries.{Entry, EntryReply}
use Rattle.cluster_defs.specs.Legal.{is_work, next_work}
use Rattle.cluster_defs.specs.Opened.{opened}
use Rattle.cluster_defs.specs.Replies as tells
use Rattle.cluster_defs.specs.Replies.{Reply}
use Rattle.cluster_defs.specs.Site.{Limits, Site}
use Rattle.cluster_defs.specs.Step.{step}
use Rattle.cluster_defs.specs.Told.{told, well}

-- ---- what there is

abbrev pub found : BatchResult
found = record { outcome = record { status = 2; pivots = 0; nodes = 1; work = 0; point = None; wide = None }; cert = None }

abbrev pub body : BatchBody
body = record { model = record { direction = Minimize; constant = zero_value; vars = []; rows = [] }; params = usual_params }

-- of this priority
abbrev pub body_at : ℤ → BatchBody
body_at priority = record body { params = record usual_params { priority = priority } }

-- where each record takes 100 bytes, and each model 50
abbrev pub limited : ℕ → ℕ → ℕ → Limits → Site
limited nodes limit hard limits = record { setup = record { nodes = nodes; limit = limit; hard = hard; limits = limits }; record_bytes = λ r. 100; model_bytes = λ m. 50; plain = λ b. found }

-- one node, where each record takes so many bytes, and each model so many
abbrev pub sized : ℕ → ℕ → Limits → Site
sized record_size model_size limits = record (limited 1 2 0 limits) { record_bytes = λ r. record_size; model_bytes = λ m. model_size }

abbrev pub site : ℕ → ℕ → ℕ → Site
site nodes limit hard = limited nodes limit hard record { commands = 65536; bytes = 8388608; journal = 1000000000 }

abbrev pub ada : Owner
ada = codes "ada"

abbrev pub bob : Owner
bob = codes "bob"

abbrev pub seat : ℕ → Owner → Seat
seat number owner = record { number = number; owner = owner; role = Standard }

abbrev pub admin : Seat
admin = record { number = 9; owner = ada; role = Admin }

abbrev pub node : ℕ → NodeNo
node n = record { 0 = n }

abbrev pub batch : Owner → ℕ → BatchId
batch owner n = record { owner = owner; number = n }

-- ---- what is placed: a seat's job, or an attempt

abbrev pub job : Seat → ℕ → ℕ → Placed
job s n at = record { waiter = waits.Seat record { seat = s; number = n }; node = node at }

abbrev pub work : BatchId → ℕ → ℕ → Placed
work id attempt at = record { waiter = waits.Batch id attempt; node = node at }

-- ---- what is done, with what is placed and answered

pub record Line : Type 0 where
  pub deed : Deed
  pub placed : List Placed
  pub reply : EntryReply

abbrev pub ask : Seat → Ask → List Placed → Reply → Line
ask s a ps r = record { deed = Asked s a; placed = ps; reply = answers.Reply r }

abbrev pub refused : Seat → Ask → Refusal → Line
refused s a r = ask s a [] (tells.Refused r)

abbrev pub took_by : ℕ → BatchId → ℕ → Line
took_by worker id attempt = record { deed = Took worker id attempt; placed = []; reply = answers.Took }

abbrev pub took : BatchId → ℕ → Line
took id attempt = took_by 1 id attempt

abbrev pub finished : BatchId → ℕ → List Placed → FinishReply → Line
finished id attempt ps r = record { deed = Finished id attempt found; placed = ps; reply = answers.Finish r }

abbrev pub left : BatchId → ℕ → List Placed → FinishReply → Line
left id attempt ps r = record { deed = Left id attempt; placed = ps; reply = answers.Finish r }

abbrev pub entry : Line → Entry
entry l = record { deed = l.deed; placed = l.placed; reply = l.reply; before = 0; after = 0 }

-- A worker takes the attempt that it gets.
abbrev pub is_in_turn : Cluster → Deed → Bool
is_in_turn c (Took worker id attempt) = is_work id attempt (next_work c)
is_in_turn c deed = true

abbrev pub are_in_turn : Site → Cluster → List Deed → Bool
are_in_turn k c [] = true
are_in_turn k c (deed ∷ deeds) = is_in_turn c deed && are_in_turn k (step k c deed well).next deeds

-- these lines, from a cluster on
abbrev pub AreToldFrom : Site → Cluster → List Line → Type 0
AreToldFrom k c lines = (told k c (map (λ l. l.deed) lines) ≡ map (λ l. record { placed = l.placed; reply = l.reply }) lines) × (are_in_turn k c (map (λ l. l.deed) lines) ≡ true)

-- from an empty table
abbrev pub AreTold : Site → List Line → Type 0
AreTold k lines = AreToldFrom k (opened k no_rows 8) lines

-- from these records
abbrev pub AreToldBehind : Site → List BatchRecord → List Line → Type 0
AreToldBehind k rs lines = AreToldFrom k (opened k (after rs no_rows) (end_of k rs)) lines

abbrev pub by_deeds : Site → Cluster → List Deed → Cluster
by_deeds k c [] = c
by_deeds k c (deed ∷ deeds) = by_deeds k (step k c deed well).next deeds

-- the cluster behind some deeds
abbrev pub cluster_by : Site → List Deed → Cluster
cluster_by k deeds = by_deeds k (opened k no_rows 8) deeds
