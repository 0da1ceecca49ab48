-- Each part of a record has one spelling.
use Rattle.std.proofs.Common.{◌≡◌, ℕ, zero, suc, ◌<◌, ◌≤◌, ◌^◌, ◌==◌, Bool, true, false, List, Option, Some, None, refl, sym, ap, ◌∙◌, arith}
use Rattle.std.proofs.lemmas.Bool.Decides.{Decides-eqb, nat_tests}
use Rattle.std.proofs.lemmas.Int.{of_z-to_z, to_z-of_z, fits_signed_from_abs}
use Rattle.std.specs.Int.{w8, cast_signed, cast_unsigned}
use Rattle.std.specs.Prelude.{ℤ, unsigned_abs, nat_le, if◌then◌else◌}
use Rattle.base_names.specs.OwnerName.{is_owner_name}
use Rattle.frac128.specs.declared.operations.Op.{Op}
use Rattle.frac128.specs.declared.operations.Op.TheVariants.{Add, Div, Mul, Sub}
use Rattle.model_data.specs.Names.{is_name, is_tag}
use Rattle.model_data.specs.declared.limits.TheConstants.{MAX_DETAIL, MAX_ITERATIONS, MAX_NODES, MAX_PRIORITY, MAX_WORK}
use Rattle.model_data.specs.declared.model.Direction.{Direction}
use Rattle.model_data.specs.declared.model.Direction.TheVariants.{Maximize, Minimize}
use Rattle.model_data.specs.declared.model.Sense.{Sense}
use Rattle.model_data.specs.declared.model.Sense.TheVariants.{Equal, Greater, Less}
use Rattle.model_data.specs.declared.model.VarKind.{VarKind}
use Rattle.model_data.specs.declared.model.VarKind.TheVariants.{Binary, Continuous, Integer}
use Rattle.rec_format.specs.Bodies.{body, created, finished}
use Rattle.rec_format.specs.Format.{both, list_of, number, only, optional, picked, text, OneSpelling}
use Rattle.rec_format.specs.Ids.{attempt, attempts, batch, owner}
use Rattle.rec_format.specs.Models.{coded, direction, direction_code, direction_of, fraction, kind, kind_code, kind_of, model, name, row, sense, sense_code, sense_of, tag, term, var}
use Rattle.rec_format.specs.Parameters.{is_priority, limited, params, priority}
use Rattle.rec_format.specs.Results.{found, op, op_code, op_of, point, wide}
use Rattle.rec_format.proofs.FractionSpelled.{fraction_spelling}
use Rattle.rec_format.proofs.Composing.{both_spelling, cases, fields_spelling, list_spelling, number_small, number_spelling, only_is, optional_spelling, picked_spelling, some_is, text_spelling, that_spelling}

-- ---- owners, batches, attempts

pub owner_spelling : OneSpelling owner
owner_spelling = that_spelling (text 1) is_owner_name (text_spelling 1)

pub batch_spelling : OneSpelling batch
batch_spelling = fields_spelling (both owner (number 4)) _ _ (both_spelling owner (number 4) owner_spelling (number_spelling 4)) (λ b. refl) (λ p. refl)

pub attempt_spelling : OneSpelling attempt
attempt_spelling = fields_spelling (both batch (number 4)) _ _ (both_spelling batch (number 4) batch_spelling (number_spelling 4)) (λ b. refl) (λ p. refl)

pub attempts_spelling : OneSpelling attempts
attempts_spelling = list_spelling 4 attempt attempt_spelling

-- ---- parameters

limited_spelling : (n most : ℕ) → OneSpelling (limited n most)
limited_spelling n most = that_spelling (number n) (λ x. nat_le x most) (number_spelling n)

priority_there : (z : ℤ) → unsigned_abs z ≤ unsigned_abs MAX_PRIORITY → only is_priority (cast_signed w8 (cast_unsigned w8 z)) ≡ Some z
priority_there z small =
    let within : unsigned_abs z < 2 ^ 7 = omega (arith, small) in
    let same : cast_signed w8 (cast_unsigned w8 z) ≡ z = to_z-of_z w8 z (fits_signed_from_abs w8 z within) in
    let test : is_priority z ≡ true = grind (arith, nat_tests) in
    rw (same, test) refl

priority_again : (n : ℕ) (z : ℤ) → (number 1).Fits n → only is_priority (cast_signed w8 n) ≡ Some z → (cast_unsigned w8 z ≡ n) × (unsigned_abs z ≤ unsigned_abs MAX_PRIORITY)
priority_again n z fit h =
    let t = only_is is_priority (cast_signed w8 n) z h in
    let test : is_priority z ≡ true = t.1 in
    let small : n < 2 ^ 8 = omega (arith, number_small 1 n fit) in
    (ap (cast_unsigned w8) (sym t.0) ∙ of_z-to_z w8 n small, grind (arith, nat_tests))

priority_spelling : OneSpelling priority
priority_spelling = picked_spelling (number 1) (λ z. unsigned_abs z ≤ unsigned_abs MAX_PRIORITY) (λ n. only is_priority (cast_signed w8 n)) (cast_unsigned w8) (number_spelling 1) priority_there priority_again

pub params_spelling : OneSpelling params
params_spelling = fields_spelling _ _ _
    (both_spelling _ _ (limited_spelling 8 MAX_ITERATIONS) (both_spelling _ _ (limited_spelling 8 MAX_NODES) (both_spelling _ _ (limited_spelling 8 MAX_WORK) (both_spelling _ _ priority_spelling (limited_spelling 1 MAX_DETAIL)))))
    (λ r. refl) (λ p. refl)

-- ---- codes of one byte

code_spelling : {B : Type 0} (of : ℕ → Option B) (code : B → ℕ) → ((b : B) → of (code b) ≡ Some b) → ((n : ℕ) (b : B) → of n ≡ Some b → code b ≡ n) → OneSpelling (coded of code)
code_spelling of code there again = picked_spelling (number 1) (λ _. Unit {0}) of code (number_spelling 1) (λ b h. there b) (λ n b fit h. (again n b h, tt))

-- one code: where the byte is it, the value is its own
one_code : {B : Type 0} (code : B → ℕ) (k n : ℕ) (own : B) (b : B) (rest : Option B) → code own ≡ k → (rest ≡ Some b → code b ≡ n)
    → (if n == k then Some own else rest) ≡ Some b → code b ≡ n
one_code code k n own b rest is_own more h = cases (n == k)
    (λ e. ap code (sym (some_is own b (rw e at h))) ∙ (is_own ∙ sym ((Decides-eqb n k).0 e)))
    (λ e. more (rw e at h))

no_code : {B : Type 0} (code : B → ℕ) (n : ℕ) (b : B) → None ≡ Some b → code b ≡ n
no_code code n b h = absurd (cc)

direction_there : (b : Direction) → direction_of (direction_code b) ≡ Some b
direction_there Minimize = refl
direction_there Maximize = refl

direction_spelling : OneSpelling direction
direction_spelling = code_spelling direction_of direction_code direction_there
    (λ n b. one_code direction_code 0 n Minimize b _ refl (one_code direction_code 1 n Maximize b _ refl (no_code direction_code n b)))

sense_there : (b : Sense) → sense_of (sense_code b) ≡ Some b
sense_there Less = refl
sense_there Greater = refl
sense_there Equal = refl

sense_spelling : OneSpelling sense
sense_spelling = code_spelling sense_of sense_code sense_there
    (λ n b. one_code sense_code 0 n Less b _ refl (one_code sense_code 1 n Greater b _ refl (one_code sense_code 2 n Equal b _ refl (no_code sense_code n b))))

kind_there : (b : VarKind) → kind_of (kind_code b) ≡ Some b
kind_there Continuous = refl
kind_there Integer = refl
kind_there Binary = refl

kind_spelling : OneSpelling kind
kind_spelling = code_spelling kind_of kind_code kind_there
    (λ n b. one_code kind_code 0 n Continuous b _ refl (one_code kind_code 1 n Integer b _ refl (one_code kind_code 2 n Binary b _ refl (no_code kind_code n b))))

op_there : (b : Op) → op_of (op_code b) ≡ Some b
op_there Add = refl
op_there Sub = refl
op_there Mul = refl
op_there Div = refl

op_spelling : OneSpelling op
op_spelling = code_spelling op_of op_code op_there
    (λ n b. one_code op_code 0 n Add b _ refl (one_code op_code 1 n Sub b _ refl (one_code op_code 2 n Mul b _ refl (one_code op_code 3 n Div b _ refl (no_code op_code n b)))))

-- ---- models

name_spelling : OneSpelling name
name_spelling = that_spelling (text 1) is_name (text_spelling 1)

tag_spelling : OneSpelling tag
tag_spelling = that_spelling (text 1) is_tag (text_spelling 1)

term_spelling : OneSpelling term
term_spelling = fields_spelling (both (number 4) fraction) _ _ (both_spelling _ _ (number_spelling 4) fraction_spelling) (λ t. refl) (λ p. refl)

bound_spelling : OneSpelling (optional fraction)
bound_spelling = optional_spelling fraction fraction_spelling

var_spelling : OneSpelling var
var_spelling = fields_spelling _ _ _
    (both_spelling name _ name_spelling (both_spelling _ _ bound_spelling (both_spelling _ _ bound_spelling
    (both_spelling fraction _ fraction_spelling (both_spelling kind _ kind_spelling (optional_spelling tag tag_spelling))))))
    (λ v. refl) (λ p. refl)

row_spelling : OneSpelling row
row_spelling = fields_spelling _ _ _
    (both_spelling name _ name_spelling (both_spelling sense _ sense_spelling (both_spelling fraction _ fraction_spelling (list_spelling 4 term term_spelling))))
    (λ r. refl) (λ p. refl)

pub model_spelling : OneSpelling model
model_spelling = fields_spelling _ _ _
    (both_spelling direction _ direction_spelling (both_spelling fraction _ fraction_spelling (both_spelling _ _ (list_spelling 4 var var_spelling) (list_spelling 4 row row_spelling))))
    (λ m. refl) (λ p. refl)

-- ---- bodies and results

point_spelling : OneSpelling point
point_spelling = fields_spelling _ _ _ (both_spelling _ _ (list_spelling 4 fraction fraction_spelling) fraction_spelling) (λ p. refl) (λ p. refl)

wide_spelling : OneSpelling wide
wide_spelling = fields_spelling _ _ _ (both_spelling _ _ (number_spelling 8) (both_spelling op _ op_spelling (both_spelling fraction fraction fraction_spelling fraction_spelling))) (λ w. refl) (λ p. refl)

found_spelling : OneSpelling found
found_spelling = fields_spelling _ _ _
    (both_spelling _ _ (number_spelling 1) (both_spelling _ _ (number_spelling 8) (both_spelling _ _ (number_spelling 8) (both_spelling _ _ (number_spelling 8)
    (both_spelling _ _ (optional_spelling point point_spelling) (both_spelling _ _ (optional_spelling wide wide_spelling) (optional_spelling (text 4) (text_spelling 4))))))))
    (λ r. refl) (λ p. refl)

pub created_spelling : OneSpelling created
created_spelling = both_spelling attempt body attempt_spelling (fields_spelling _ _ _ (both_spelling params model params_spelling model_spelling) (λ b. refl) (λ p. refl))

pub finished_spelling : OneSpelling finished
finished_spelling = both_spelling attempt found attempt_spelling found_spelling
