-- How many bytes the parts of records have.
use Rattle.std.proofs.Common.{◌≡◌, ℕ, ◌+◌, ◌*◌, suc, List, [], ◌∷◌, ◌++◌, length, flat_map, refl, ap, ap₂, ◌∙◌, arith}
use Rattle.std.specs.Int.{cast_unsigned, w8, w128}
use Rattle.std.specs.Prelude.{pos}
use Rattle.std.proofs.lemmas.List.{length-append}
use Rattle.byteorder.specs.Endian.{big_bytes}
use Rattle.byteorder.specs.Numbers.{length-bytes_high_first}
use Rattle.base_names.specs.declared.id.BatchId.{BatchId}
use Rattle.frac128.specs.Fraction.{Fraction, den}
use Rattle.model_data.specs.declared.batch.BatchBody.{BatchBody}
use Rattle.model_data.specs.declared.batch.BatchRecord.TheVariants.{Create, Finish}
use Rattle.model_data.specs.declared.batch.BatchResult.{BatchResult}
use Rattle.model_data.specs.declared.model.Direction.{Direction}
use Rattle.model_data.specs.declared.model.Model.{Model}
use Rattle.model_data.specs.declared.model.Row.{Row}
use Rattle.model_data.specs.declared.model.Sense.{Sense}
use Rattle.model_data.specs.declared.model.Term.{Term}
use Rattle.model_data.specs.declared.model.Var.{Var}
use Rattle.model_data.specs.declared.model.VarKind.{VarKind}
use Rattle.model_data.specs.declared.params.Params.{Params}
use Rattle.model_data.specs.declared.solution.Point.{Point}
use Rattle.rec_format.specs.Format.{list_of, number, optional}
use Rattle.rec_format.specs.Ids.{attempt, batch}
use Rattle.rec_format.specs.Models.{direction, fraction, kind, model, name, row, sense, tag, term, var}
use Rattle.rec_format.specs.Parameters.{params}
use Rattle.rec_format.specs.Records.{attempt_of, model_len, record_len}
use Rattle.rec_format.specs.Results.{found, point}

pub number_length : (n x : ℕ) → length ((number n).write x) ≡ n
unfolding number
number_length n x = length-bytes_high_first n x

joined : (xs ys : List ℕ) (n m : ℕ) → length xs ≡ n → length ys ≡ m → length (xs ++ ys) ≡ n + m
joined xs ys n m p q = length-append xs ys ∙ ap₂ (λ a b. a + b) p q

pub fraction_length : (x : Fraction) → length (fraction.write x) ≡ 32
fraction_length x = joined ((number 16).write (cast_unsigned w128 x.num)) ((number 16).write (cast_unsigned w128 (pos (den x)))) 16 16 (number_length 16 (cast_unsigned w128 x.num)) (number_length 16 (cast_unsigned w128 (pos (den x))))

pub direction_length : (c : Direction) → length (direction.write c) ≡ 1
direction_length c = number_length 1 _

pub sense_length : (c : Sense) → length (sense.write c) ≡ 1
sense_length c = number_length 1 _

pub kind_length : (c : VarKind) → length (kind.write c) ≡ 1
kind_length c = number_length 1 _

pub attempt_length : (id : BatchId) (n : ℕ) → length (attempt.write (attempt_of id n)) ≡ length (batch.write id) + 4
attempt_length id n = joined (batch.write id) ((number 4).write n) (length (batch.write id)) 4 refl (number_length 4 n)

pub params_length : (p : Params) → length (params.write p) ≡ 26
params_length p =
    joined ((number 8).write p.iterations) _ 8 18 (number_length 8 p.iterations)
    (joined ((number 8).write p.nodes) _ 8 10 (number_length 8 p.nodes)
    (joined ((number 8).write p.work) _ 8 2 (number_length 8 p.work)
    (joined ((number 1).write (cast_unsigned w8 p.priority)) ((number 1).write p.detail) 1 1 (number_length 1 _) (number_length 1 p.detail))))

-- as many bytes for each item
same_lengths : {A : Type 0} (write : A → List ℕ) (n : ℕ) → ((x : A) → length (write x) ≡ n) → (xs : List A) → length (flat_map write xs) ≡ n * length xs
same_lengths write n each [] = omega arith
same_lengths write n each (x ∷ xs) =
    let rest = same_lengths write n each xs in
    joined (write x) (flat_map write xs) n (n * length xs) (each x) rest ∙ grind arith

pub fractions_length : (xs : List Fraction) → length (flat_map fraction.write xs) ≡ 32 * length xs
fractions_length xs = same_lengths fraction.write 32 fraction_length xs

pub terms_length : (ts : List Term) → length (flat_map term.write ts) ≡ 36 * length ts
terms_length ts = same_lengths term.write 36 (λ t. joined ((number 4).write t.var) (fraction.write t.coef) 4 32 (number_length 4 t.var) (fraction_length t.coef)) ts

-- ---- values of several parts

beside_length : (xs ys : List ℕ) (m : ℕ) → length ys ≡ m → length (xs ++ ys) ≡ length xs + m
beside_length xs ys m q = joined xs ys (length xs) m refl q

pub var_length : (v : Var) → length (var.write v) ≡ length (name.write v.name) + (length ((optional fraction).write v.lower) + (length ((optional fraction).write v.upper) + (32 + (1 + length ((optional tag).write v.tag)))))
var_length v =
    let kinds = joined (kind.write v.kind) ((optional tag).write v.tag) 1 (length ((optional tag).write v.tag)) (kind_length v.kind) refl in
    let objectives = joined (fraction.write v.obj) _ 32 _ (fraction_length v.obj) kinds in
    let uppers = beside_length ((optional fraction).write v.upper) _ _ objectives in
    let lowers = beside_length ((optional fraction).write v.lower) _ _ uppers in
    beside_length (name.write v.name) _ _ lowers

counted_length : (ys : List ℕ) (n m : ℕ) → length ys ≡ m → length (big_bytes 4 n ++ ys) ≡ 4 + m
counted_length ys n m q = joined (big_bytes 4 n) ys 4 m (length-bytes_high_first 4 n) q

pub row_length : (r : Row) → length (row.write r) ≡ length (name.write r.name) + (1 + (32 + (4 + 36 * length r.terms)))
row_length r =
    let terms = counted_length (flat_map term.write r.terms) (length r.terms) (36 * length r.terms) (terms_length r.terms) in
    let sides = joined (fraction.write r.rhs) _ 32 _ (fraction_length r.rhs) terms in
    let senses = joined (sense.write r.sense) _ 1 _ (sense_length r.sense) sides in
    beside_length (name.write r.name) _ _ senses

pub model_length : (m : Model) → length (model.write m) ≡ 1 + (32 + ((4 + length (flat_map var.write m.vars)) + (4 + length (flat_map row.write m.rows))))
model_length m =
    let vars = counted_length (flat_map var.write m.vars) (length m.vars) (length (flat_map var.write m.vars)) refl in
    let rows = counted_length (flat_map row.write m.rows) (length m.rows) (length (flat_map row.write m.rows)) refl in
    let lists = joined ((list_of 4 var).write m.vars) ((list_of 4 row).write m.rows) (4 + length (flat_map var.write m.vars)) (4 + length (flat_map row.write m.rows)) vars rows in
    let constants = joined (fraction.write m.constant) _ 32 _ (fraction_length m.constant) lists in
    joined (direction.write m.direction) _ 1 _ (direction_length m.direction) constants

pub point_length : (p : Point) → length (point.write p) ≡ (4 + 32 * length p.xs) + 32
point_length p =
    let xs = counted_length (flat_map fraction.write p.xs) (length p.xs) (32 * length p.xs) (fractions_length p.xs) in
    joined ((list_of 4 fraction).write p.xs) (fraction.write p.value) (4 + 32 * length p.xs) 32 xs (fraction_length p.value)

pub create_length : (id : BatchId) (n : ℕ) (b : BatchBody) → record_len (Create id n b) ≡ suc ((length (batch.write id) + 4) + (26 + model_len b.model))
create_length id n b =
    let bodies = joined (params.write b.params) (model.write b.model) 26 (model_len b.model) (params_length b.params) refl in
    ap (λ k. suc k) (joined (attempt.write (attempt_of id n)) _ (length (batch.write id) + 4) _ (attempt_length id n) bodies)

pub finish_length : (id : BatchId) (n : ℕ) (r : BatchResult) → record_len (Finish id n r) ≡ suc ((length (batch.write id) + 4) + length (found.write r))
finish_length id n r = ap (λ k. suc k) (joined (attempt.write (attempt_of id n)) (found.write r) (length (batch.write id) + 4) (length (found.write r)) (attempt_length id n) refl)
