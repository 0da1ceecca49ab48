-- No more attempts run than there are rows, since each runs once.
use Rattle.std.proofs.Common.{◌≡◌, refl, sym, ap, ◌∙◌, ℕ, suc, zero, ◌+◌, ◌≤◌, Bool, true, false, not, List, [], ◌∷◌, length, Option, Some, None, cond, arith}
use Rattle.std.specs.Prelude.{filter, is_some}
use Rattle.base_names.specs.declared.id.BatchId.{BatchId}
use Rattle.model_data.specs.declared.batch.BatchRow.{BatchRow}
use Rattle.table_defs.specs.Keyed.{rows_for}
use Rattle.table_defs.specs.Names.{is_id}
use Rattle.table_defs.specs.Table.{row_of}
use Rattle.table_defs.proofs.Lists.{fewer, filter_others}
use Rattle.table_defs.proofs.Names.{id_apart, id_is, id_refl}
use Rattle.cluster_defs.specs.Cluster.{Cluster, Running, Waiting}
use Rattle.cluster_defs.specs.Step.{still_open}
use Rattle.cluster_laws.specs.Sound.{EachStands, Stands, placed_for, waiting_for}
use Rattle.cluster_laws.proofs.Counts.{none_of_both}
use Rattle.cluster_laws.proofs.Lists.{find_head, head_of}

split_length : {A : Type 0} (p : A → Bool) (xs : List A) → length xs ≡ length (filter p xs) + length (filter (λ x. not (p x)) xs)
split_length p [] = refl
split_length p (x ∷ xs) = grind (arith, split_length p xs)

abbrev other_placed : BatchId → List Running → List Running
other_placed id placed = filter (λ r. not (is_id id r.id)) placed

abbrev other_rows : BatchId → List BatchRow → List BatchRow
other_rows id rows = filter (λ row. not (is_id id row.id)) rows

abbrev AreFewer : List Running → List BatchRow → Type 0
AreFewer placed rows = (id : BatchId) → length (placed_for id placed) ≤ length (rows_for id rows)

others_by : (a id : BatchId) (placed : List Running) (rows : List BatchRow) (b : Bool) → is_id a id ≡ b → AreFewer placed rows → length (placed_for a (other_placed id placed)) ≤ length (rows_for a (other_rows id rows))
others_by a id placed rows true same h =
    let e : placed_for a (other_placed id placed) ≡ [] = ap (λ (i : BatchId). placed_for i (other_placed id placed)) (id_is a id same) ∙ none_of_both (λ (r : Running). is_id id r.id) placed in
    let n = ap length e in omega (arith, n)
others_by a id placed rows false apart h =
    let e = ap length (filter_others (λ (r : Running). is_id a r.id) (λ (r : Running). not (is_id id r.id)) (λ r own. ap not (id_apart a id r.id apart own)) placed) in
    let f = ap length (filter_others (λ (row : BatchRow). is_id a row.id) (λ (row : BatchRow). not (is_id id row.id)) (λ row own. ap not (id_apart a id row.id apart own)) rows) in
    omega (arith, e, f, h a)

first_dropped : (r : Running) (placed : List Running) → length (other_placed r.id (r ∷ placed)) ≤ length placed
first_dropped r placed = let e : other_placed r.id (r ∷ placed) ≡ other_placed r.id placed = ap (λ (b : Bool). cond (not b) (r ∷ other_placed r.id placed) (other_placed r.id placed)) (id_refl r.id) in let n = ap length e in let f = fewer (λ x. not (is_id r.id x.id)) placed in omega (arith, n, f)

fewer_in : (n : ℕ) (placed : List Running) (rows : List BatchRow) → length placed ≤ n → AreFewer placed rows → length placed ≤ length rows
fewer_in n [] rows le h = omega arith
fewer_in zero (r ∷ placed) rows le h = absurd (omega (arith, le))
fewer_in (suc n) (r ∷ placed) rows le h =
    let a = split_length (λ (x : Running). is_id r.id x.id) (r ∷ placed) in
    let b = split_length (λ (row : BatchRow). is_id r.id row.id) rows in
    let d = first_dropped r placed in
    let later = fewer_in n (other_placed r.id (r ∷ placed)) (other_rows r.id rows) (omega (arith, d, le)) (λ i. others_by i r.id (r ∷ placed) rows (is_id i r.id) refl h) in
    omega (arith, a, b, h r.id, later)

some_head : {A : Type 0} (xs : List A) → is_some (head_of xs) ≡ true → 1 ≤ length xs
some_head [] h = absurd (grind (arith, h))
some_head (x ∷ xs) h = omega arith

open_some : (n : ℕ) (row : Option BatchRow) → still_open n row ≡ true → is_some row ≡ true
open_some n None h = absurd (grind (arith, h))
open_some n (Some row) h = refl

stands_few : (row : Option BatchRow) (placed : List Running) (ws : List Waiting) (n : ℕ) → Stands row placed ws → (is_some row ≡ true → 1 ≤ n) → length placed ≤ n
stands_few row [] ws n h one = omega arith
stands_few row (r ∷ []) [] n h one = let m = one (open_some r.attempt row h) in omega (arith, m)
stands_few row (r ∷ []) (w ∷ ws) n h one = absurd h
stands_few row (r ∷ s ∷ rs) ws n h one = absurd h

pub placed_fewer : (c : Cluster) → EachStands c → length c.placed ≤ length c.table.rows
placed_fewer c sound =
    fewer_in (length c.placed) c.placed c.table.rows (omega arith)
    (λ id. stands_few (row_of id c.table) (placed_for id c.placed) (waiting_for id c.waiting) (length (rows_for id c.table.rows)) (sound id) (λ some. some_head (rows_for id c.table.rows) (ap is_some (sym (find_head (λ (row : BatchRow). is_id id row.id) c.table.rows)) ∙ some)))
