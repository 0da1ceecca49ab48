-- What one command is charged with at most.
use Rattle.std.proofs.Common.{◌≡◌, refl, ap, ℕ, ◌+◌, ◌≤◌, Bool, true, false, List, [], ◌∷◌, length, map, Option, Some, None, cond, arith}
use Rattle.std.specs.Prelude.{filter, find, not, sum_by}
use Rattle.std.proofs.lemmas.List.{length-append, length-map}
use Rattle.std.proofs.lemmas.List.Sums.{sum_by-cons}
use Rattle.base_names.specs.declared.id.BatchId.{BatchId}
use Rattle.base_names.specs.declared.node.NodeNo.{NodeNo}
use Rattle.base_names.specs.declared.node.Placed.{Placed}
use Rattle.base_names.specs.declared.refusal.Refusal.{Refusal}
use Rattle.base_names.specs.declared.refusal.Refusal.TheVariants.{NODELOST, NOJOB}
use Rattle.base_names.specs.declared.seat.Seat.{Seat}
use Rattle.model_data.specs.declared.batch.BatchResult.{BatchResult}
use Rattle.model_data.specs.declared.batch.BatchRow.{BatchRow}
use Rattle.table_defs.specs.Names.{Owner, is_id, is_owner}
use Rattle.table_defs.specs.Owned.{rows_of}
use Rattle.table_defs.specs.Table.{Table, row_of}
use Rattle.table_defs.proofs.Lists.{fewer}
use Rattle.cluster_defs.specs.Answers.{batch_line, poll_reply, row_reply, status_reply, whole_reply}
use Rattle.cluster_defs.specs.Asks as asks
use Rattle.cluster_defs.specs.Asks.{Ask}
use Rattle.cluster_defs.specs.Charges.{charge, found_bytes, reply_charge}
use Rattle.cluster_defs.specs.Cluster.{Cluster, Job, job_of, line_of}
use Rattle.cluster_defs.specs.Listing.{attempt_line, by_id, by_seat, is_before, is_earlier, is_going_on, job_line, job_lines, listed_jobs, seated_in, sorted_in}
use Rattle.cluster_defs.specs.Replies as tells
use Rattle.cluster_defs.specs.Replies.{Reply}
use Rattle.cluster_defs.specs.Site.{Site}
use Rattle.cluster_laws.specs.Bounds.{CanBeWritten, IsWritten, most_charge, most_jobs, most_journal, most_nodes, most_record, result_bytes, row_bytes}
use Rattle.cluster_laws.proofs.Weights.{rows_weigh, weight}

-- ---- lists are as long as what they list

seated_long : (job next : Job) (jobs : List Job) (b : Bool) → length (seated_in job jobs) ≡ length jobs + 1 → length (cond b (next ∷ seated_in job jobs) (job ∷ next ∷ jobs)) ≡ length (next ∷ jobs) + 1
seated_long job next jobs true h = omega (arith, h)
seated_long job next jobs false h = omega arith

seated_length : (job : Job) (jobs : List Job) → length (seated_in job jobs) ≡ length jobs + 1
seated_length job [] = refl
seated_length job (next ∷ jobs) = seated_long job next jobs (is_earlier next.seat job.seat) (seated_length job jobs)

by_seat_length : (jobs : List Job) → length (by_seat jobs) ≡ length jobs
by_seat_length [] = refl
by_seat_length (job ∷ jobs) = let a = seated_length job (by_seat jobs) in let h = by_seat_length jobs in omega (arith, a, h)

sorted_long : (row next : BatchRow) (rows : List BatchRow) (b : Bool) → length (sorted_in row rows) ≡ length rows + 1 → length (cond b (row ∷ next ∷ rows) (next ∷ sorted_in row rows)) ≡ length (next ∷ rows) + 1
sorted_long row next rows true h = omega arith
sorted_long row next rows false h = omega (arith, h)

sorted_length : (row : BatchRow) (rows : List BatchRow) → length (sorted_in row rows) ≡ length rows + 1
sorted_length row [] = refl
sorted_length row (next ∷ rows) = sorted_long row next rows (is_before row.id next.id) (sorted_length row rows)

by_id_length : (rows : List BatchRow) → length (by_id rows) ≡ length rows
by_id_length [] = refl
by_id_length (row ∷ rows) = let a = sorted_length row (by_id rows) in let h = by_id_length rows in omega (arith, a, h)

jobs_listed : (c : Cluster) → length (job_lines c) ≤ length c.jobs + length c.table.rows
jobs_listed c =
    let a = length-append (map job_line (listed_jobs c.jobs)) (map (attempt_line c.placed) (by_id (filter is_going_on c.table.rows))) in
    let b = length-map (listed_jobs c.jobs) job_line in
    let d = length-map (by_id (filter is_going_on c.table.rows)) (attempt_line c.placed) in
    let e = by_seat_length (filter (λ job. not job.lost) c.jobs) in
    let f = by_id_length (filter is_going_on c.table.rows) in
    let g = fewer (λ (job : Job). not job.lost) c.jobs in
    let h = fewer is_going_on c.table.rows in
    omega (arith, a, b, d, e, f, g, h)

rows_listed : (u : Owner) (t : Table) → length (map batch_line (rows_of u t.rows)) ≤ length t.rows
rows_listed u t = let a = length-map (rows_of u t.rows) batch_line in let b = fewer (λ (row : BatchRow). is_owner u row.id.owner) t.rows in omega (arith, a, b)

-- ---- a row

sum_found_by : (w : BatchRow → ℕ) (p : BatchRow → Bool) (x : BatchRow) (xs : List BatchRow) (b : Bool) (row : BatchRow) → cond b (Some x) (find p xs) ≡ Some row → (find p xs ≡ Some row → w row ≤ sum_by w xs) → w row ≤ sum_by w (x ∷ xs)
sum_found_by w p x xs true row is later = let e : x ≡ row = cc in let a = sum_by-cons w x xs in let b = ap w e in omega (arith, a, b)
sum_found_by w p x xs false row is later = let a = sum_by-cons w x xs in let h = later is in omega (arith, a, h)

sum_found : (w : BatchRow → ℕ) (p : BatchRow → Bool) (xs : List BatchRow) (row : BatchRow) → find p xs ≡ Some row → w row ≤ sum_by w xs
sum_found w p [] row is = absurd (grind (arith, is))
sum_found w p (x ∷ xs) row is = sum_found_by w p x xs (p x) row is (sum_found w p xs row)

result_charged : (k : Site) (row : BatchRow) (found : Option BatchResult) → found_bytes k row found ≤ result_bytes k row found
result_charged k row None = omega arith
result_charged k row (Some result) = omega arith

row_charged : (k : Site) (row : BatchRow) → IsWritten k → reply_charge k (tells.Row row) ≤ row_bytes k row
row_charged k row written = let a = written.width row.id row.attempt row.body in let b = result_charged k row row.result in omega (arith, a, b)

found_charged : (k : Site) (t : Table) (id : BatchId) (found : Option BatchRow) → row_of id t ≡ found → IsWritten k → reply_charge k (row_reply found) ≤ weight k t
found_charged k t id None is written = omega arith
found_charged k t id (Some row) is written = let a = row_charged k row written in let b = sum_found (row_bytes k) (λ r. is_id id r.id) t.rows row is in omega (arith, a, b)

-- ---- what is free

poll_free_by : (k : Site) (n : ℕ) (b : Bool) (node : Option NodeNo) → reply_charge k (cond b (elim node as (λ _. Reply) [ None ↦ tells.Refused NOJOB | Some at ↦ tells.Refused (NODELOST at) ]) (tells.Job n node)) ≡ 0
poll_free_by k n true None = refl
poll_free_by k n true (Some at) = refl
poll_free_by k n false place = refl

poll_free : (k : Site) (found : Option Job) → reply_charge k (poll_reply found) ≡ 0
poll_free k None = refl
poll_free k (Some job) = poll_free_by k job.number job.lost job.node

status_free : (k : Site) (id : BatchId) (found : Option BatchRow) → reply_charge k (status_reply id found) ≡ 0
status_free k id None = refl
status_free k id (Some row) = refl

-- ---- any command

-- what is to be known of the cluster
pub record IsLight (k : Site) (c : Cluster) : Type 0 where
  pub weighs : weight k c.table ≤ most_journal
  pub jobs : length c.jobs ≤ most_jobs
  pub nodes : length c.nodes ≤ most_nodes

none_charged : (n : ℕ) → n ≡ 0 → n ≤ most_charge
none_charged n h = omega (arith, h)

written_charged : (n : ℕ) → n ≤ most_record → n ≤ most_charge
written_charged n h = omega (arith, h)

pub answer_charged : (k : Site) (c : Cluster) (ps : List Placed) (seat : Seat) (ask : Ask) → IsWritten k → IsLight k c → CanBeWritten k seat ask → charge k seat ask (whole_reply c ps seat ask) ≤ most_charge
answer_charged k c ps seat (asks.Create body) written light can = written_charged _ can
answer_charged k c ps seat asks.Poll written light can = none_charged _ (poll_free k (job_of seat c.jobs))
answer_charged k c ps seat (asks.Status id) written light can = none_charged _ (status_free k id (row_of id c.table))
answer_charged k c ps seat (asks.Row id) written light can = let a = found_charged k c.table id (row_of id c.table) refl written in omega (arith, a, light.weighs)
answer_charged k c ps seat asks.Listing written light can = let a = rows_listed seat.owner c.table in let b = rows_weigh k c.table in omega (arith, a, b, light.weighs)
answer_charged k c ps seat asks.Nodes written light can = let a = length-map c.nodes (line_of c) in omega (arith, a, light.nodes)
answer_charged k c ps seat asks.Jobs written light can = let a = jobs_listed c in let b = rows_weigh k c.table in omega (arith, a, b, light.weighs, light.jobs)
answer_charged k c ps seat ask written light can = none_charged 0 refl

pub refused_charged : (k : Site) (seat : Seat) (ask : Ask) (refusal : Refusal) → CanBeWritten k seat ask → charge k seat ask (tells.Refused refusal) ≤ most_charge
refused_charged k seat (asks.Create body) refusal can = written_charged _ can
refused_charged k seat ask refusal can = none_charged 0 refl
