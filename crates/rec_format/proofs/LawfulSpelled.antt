-- The lawful records are those that have a spelling, and whose model is lawful.
use Rattle.std.proofs.Common.{◌≡◌, ℕ, zero, suc, ◌+◌, ◌-◌, ◌^◌, ◌<◌, ◌≤◌, ◌==◌, Bool, true, false, not, ◌&&◌, ◌||◌, List, [], ◌∷◌, ◌++◌, length, Option, Some, None, refl, sym, ap, ◌∙◌, subst, arith}
use Rattle.std.specs.Prelude.{Err, ℤ, pos, negsuc, neg_ℤ, ◌≤ℤ◌, unsigned_abs, codes, nat_le, nat_lt, All, IfSome, IsTrue, option_and_then, slice_index, sum_by}
use Rattle.std.specs.Char.{is_ascii_digit, is_ascii_lowercase}
use Rattle.std.specs.List.{list_all}
use Rattle.std.specs.Int.{cast_unsigned, w8, w128}
use Rattle.std.proofs.lemmas.Bool.{and_parts, false≢true}
use Rattle.std.proofs.lemmas.Bool.Decides.{Decides-eqb, nat_tests}
use Rattle.std.proofs.lemmas.Int.{ints}
use Rattle.std.proofs.lemmas.List.Sums.{AllPass-from_list_all}
use Rattle.base_names.specs.Id.{IsId}
use Rattle.base_names.specs.declared.id.BatchId.{BatchId}
use Rattle.base_names.specs.OwnerName.{is_owner_byte, is_owner_name, most_bytes, IsOwnerName}
use Rattle.base_names.specs.declared.memory.OrMemory.{OrMemory}
use Rattle.base_names.specs.declared.memory.OrMemory.TheVariants.{Fault, NoMemory}
use Rattle.frac128.specs.Fraction.{Fraction, den}
use Rattle.frac128.specs.Lowest.{IsKept}
use Rattle.frac128.specs.Numbers.{limit}
use Rattle.model_data.specs.Kept.{HasKeptNumbers, IsKeptRow, IsKeptVar}
use Rattle.model_data.specs.Lawful.{IsLawful, IsLawfulRow, IsLawfulVar}
use Rattle.model_data.specs.Names.{begins_as_name, is_name, is_name_byte, is_one_of, is_reserved, is_tag, is_visible, IsName, IsTag}
use Rattle.model_data.specs.Params.{IsInRange}
use Rattle.model_data.specs.declared.batch.AttemptOf.{AttemptOf}
use Rattle.model_data.specs.declared.batch.BatchBody.{BatchBody}
use Rattle.model_data.specs.declared.batch.BatchRecord.{BatchRecord}
use Rattle.model_data.specs.declared.batch.BatchRecord.TheVariants.{Abort, Create, Discard, Finish, Lost, Next, Retry}
use Rattle.model_data.specs.declared.batch.BatchResult.{BatchResult}
use Rattle.model_data.specs.declared.limits.TheConstants.{MAX_DETAIL, MAX_ITERATIONS, MAX_NAME_LEN, MAX_NODES, MAX_PRIORITY, MAX_TAG_LEN, MAX_WORK}
use Rattle.frac128.specs.declared.operations.Op.{Op}
use Rattle.frac128.specs.declared.operations.Op.TheVariants.{Add, Div, Mul, Sub}
use Rattle.model_data.specs.declared.model.Direction.{Direction}
use Rattle.model_data.specs.declared.model.Direction.TheVariants.{Maximize, Minimize}
use Rattle.model_data.specs.declared.model.Model.{Model}
use Rattle.model_data.specs.declared.model.Sense.{Sense}
use Rattle.model_data.specs.declared.model.Sense.TheVariants.{Equal, Greater, Less}
use Rattle.model_data.specs.declared.model.VarKind.{VarKind}
use Rattle.model_data.specs.declared.model.VarKind.TheVariants.{Binary, Continuous, Integer}
use Rattle.model_data.specs.declared.model.Row.{Row}
use Rattle.model_data.specs.declared.model.Term.{Term}
use Rattle.model_data.specs.declared.model.Var.{Var}
use Rattle.model_data.specs.declared.params.Params.{Params}
use Rattle.model_data.specs.declared.solution.Point.{Point}
use Rattle.model_data.specs.declared.solution.WideAt.{WideAt}
use Rattle.rec_format.specs.Bodies.{body}
use Rattle.rec_format.specs.Format.{number, whole, AreBytes}
use Rattle.rec_format.specs.Ids.{attempt, attempts, batch, owner}
use Rattle.rec_format.specs.Lawful.{CanBeSpelled, IsAttempt, IsCertText, IsKeptPoint, IsKeptResult, IsKeptWide, IsLawfulBody, IsLawfulRecord, IsShortPoint, IsShortResult}
use Rattle.rec_format.specs.Models.{direction_code, fraction, kind_code, model, name, row, sense_code, tag, term, var}
use Rattle.rec_format.specs.Orderly.{is_orderly_record}
use Rattle.rec_format.specs.Parameters.{limited, params}
use Rattle.rec_format.specs.Records.{attempt_of, batch_record, record_write, RecordFits}
use Rattle.rec_format.specs.Taking.{IsTold}
use Rattle.rec_format.specs.Results.{found, op_code, point, wide}
use Rattle.rec_format.proofs.Composing.{all_more, all_none, all_weaker, bytes_from, number_fits, number_small, some_is}
use Rattle.rec_format.proofs.InOrder.{lawful_from, lawful_to, le_from, le_to, sum_first}
use Rattle.rec_format.proofs.RecordSpelled.{record_spelling, told_apart, whole_back, whole_spelled}

-- ---- what fits is lawful, and the other way round, where neither is a function

if_some : {A : Type 0} (P Q : A → Type 0) (o : Option A) → ((x : A) → P x → Q x) → IfSome o P → IfSome o Q
if_some P Q None f h = tt
if_some P Q (Some x) f h = f x h

within : (low high b : ℕ) → (nat_le low b && nat_le b high) ≡ true → b ≤ high
within low high b h = le_from b high (and_parts (nat_le low b) (nat_le b high) h).1

either : (a b : Bool) (P : Type 0) → (a ≡ true → P) → (b ≡ true → P) → (a || b) ≡ true → P
either true b P f g h = f refl
either false b P f g h = g h

-- ---- texts

owner_byte : (b : ℕ) → is_owner_byte b ≡ true → b < 256
owner_byte b = either (is_ascii_lowercase b || is_ascii_digit b) (b == 95) (b < 256)
    (either (is_ascii_lowercase b) (is_ascii_digit b) (b < 256) (letter b) (digit b)) (underscore b)
  where
    letter : (b : ℕ) → is_ascii_lowercase b ≡ true → b < 256
    letter b h = let low = within 97 122 b h in omega (arith, low)

    digit : (b : ℕ) → is_ascii_digit b ≡ true → b < 256
    digit b h = let low = within 48 57 b h in omega (arith, low)

    underscore : (b : ℕ) → (b == 95) ≡ true → b < 256
    underscore b h = let is = (Decides-eqb b 95).0 h in omega (arith, is)

owner_fits : (o : List ℕ) → IsOwnerName o → owner.Fits o
owner_fits o h =
    let parts = and_parts (nat_le 1 (length o) && nat_le (length o) 32) (list_all is_owner_byte o) h in
    let short : length o ≤ 32 = within 1 32 (length o) parts.0 in
    (h, (omega (arith, short), all_weaker (λ b. is_owner_byte b ≡ true) (λ b. b < 256) o owner_byte (AllPass-from_list_all is_owner_byte o parts.1)))

visible : (b : ℕ) → is_visible b ≡ true → b < 256
visible b h = let low = within 33 126 b h in omega (arith, low)

name_byte : (b : ℕ) → is_name_byte b ≡ true → b < 256
name_byte b h = visible b (and_parts (is_visible b) (not (is_one_of (codes "\\:") b)) h).0

-- the parts of four tests, whichever way they are put together
name_parts : (a b c d : Bool) → (a && b && c && d) ≡ true → (b ≡ true) × (c ≡ true)
name_parts true true true true h = (refl, refl)
name_parts true true true false h = absurd (cc)
name_parts true true false d h = absurd (cc)
name_parts true false c d h = absurd (cc)
name_parts false b c d h = absurd (cc)

tag_parts : (a b c : Bool) → (a && b && c) ≡ true → (b ≡ true) × (c ≡ true)
tag_parts true true true h = (refl, refl)
tag_parts true true false h = absurd (cc)
tag_parts true false c h = absurd (cc)
tag_parts false b c h = absurd (cc)

pub name_text : (t : List ℕ) → IsName t → (length t ≤ 255) × AreBytes t
unfolding is_name
name_text t h =
    let parts = name_parts (begins_as_name t) (list_all is_name_byte t) (nat_le (length t) MAX_NAME_LEN) (not (is_reserved t)) h in
    let short : length t ≤ 255 = le_from (length t) MAX_NAME_LEN parts.1 in
    (short, all_weaker (λ b. is_name_byte b ≡ true) (λ b. b < 256) t name_byte (AllPass-from_list_all is_name_byte t parts.0))

pub tag_text : (t : List ℕ) → IsTag t → (length t ≤ 255) × AreBytes t
unfolding is_tag
tag_text t h =
    let parts = tag_parts (nat_lt 0 (length t)) (list_all is_visible t) (nat_le (length t) MAX_TAG_LEN) h in
    let short : length t ≤ 255 = le_from (length t) MAX_TAG_LEN parts.1 in
    (short, all_weaker (λ b. is_visible b ≡ true) (λ b. b < 256) t visible (AllPass-from_list_all is_visible t parts.0))

name_fits : (t : List ℕ) → IsName t → name.Fits t
name_fits t h = let text = name_text t h in (h, (omega (arith, text.0), text.1))

tag_fits : (t : List ℕ) → IsTag t → tag.Fits t
tag_fits t h = let text = tag_text t h in (h, (omega (arith, text.0), text.1))

-- ---- fractions

wrapped : (z : ℤ) → unsigned_abs z < limit → (number 16).Fits (cast_unsigned w128 z)
unfolding number
wrapped (pos n) h = let small : n < 2 ^ 127 = h in omega (arith, small)
wrapped (negsuc n) h = omega arith

fraction_fits : (x : Fraction) → IsKept x → fraction.Fits x
fraction_fits x h = (h.nothing_in_common, ((h.num_fits, wrapped x.num h.num_fits), (h.den_fits, wrapped (pos (den x)) h.den_fits)))

fraction_kept : (x : Fraction) → fraction.Fits x → IsKept x
fraction_kept x h = record { nothing_in_common = h.0; num_fits = h.1.0.0; den_fits = h.1.1.0 }

-- ---- attempts

id_fits : (id : BatchId) → IsId id → batch.Fits id
id_fits id h = (owner_fits id.owner h.0, number_fits 4 id.number (omega (arith, h.1)))

id_lawful : (id : BatchId) → batch.Fits id → IsId id
id_lawful id h = (h.0.0, omega (arith, number_small 4 id.number h.1))

attempt_fits : (a : AttemptOf) → IsAttempt a → attempt.Fits a
attempt_fits a h = (id_fits a.id h.0, number_fits 4 a.attempt (omega (arith, h.1)))

attempt_lawful : (a : AttemptOf) → attempt.Fits a → IsAttempt a
attempt_lawful a h = (id_lawful a.id h.0, omega (arith, number_small 4 a.attempt h.1))

-- ---- parameters

limited_fits : (n most x : ℕ) → most < 256 ^ n → x ≤ most → (limited n most).Fits x
limited_fits n most x room h =
    (le_to x most h, number_fits n x (omega (arith, room, h)))

limited_lawful : (most x : ℕ) → IsTrue (nat_le x most) → x ≤ most
limited_lawful most x h = le_from x most h

priority_size : (z : ℤ) → neg_ℤ (pos 100) ≤ℤ z → z ≤ℤ pos 100 → unsigned_abs z ≤ 100
priority_size (pos n) low high = omega (arith, ints, high)
priority_size (negsuc n) low high = omega (arith, ints, low)

priority_wrapped : (z : ℤ) → unsigned_abs z ≤ 100 → (number 1).Fits (cast_unsigned w8 z)
unfolding number
priority_wrapped (pos n) h = let small : n ≤ 100 = h in omega (arith, small)
priority_wrapped (negsuc n) h = omega arith

priority_low : (z : ℤ) → unsigned_abs z ≤ 100 → neg_ℤ (pos 100) ≤ℤ z
priority_low (pos n) h = omega (arith, ints)
priority_low (negsuc n) h = let small : suc n ≤ 100 = h in omega (arith, ints, small)

priority_high : (z : ℤ) → unsigned_abs z ≤ 100 → z ≤ℤ pos 100
priority_high (pos n) h = let small : n ≤ 100 = h in omega (arith, ints, small)
priority_high (negsuc n) h = omega (arith, ints)

params_fit : (p : Params) → IsInRange p → params.Fits p
params_fit p h =
    let size : unsigned_abs p.priority ≤ 100 = priority_size p.priority h.priority_low h.priority_high in (
      limited_fits 8 MAX_ITERATIONS p.iterations (omega arith) h.iterations,
      (
        limited_fits 8 MAX_NODES p.nodes (omega arith) h.nodes,
        (
          limited_fits 8 MAX_WORK p.work (omega arith) h.work,
          ((size, priority_wrapped p.priority size), limited_fits 1 MAX_DETAIL p.detail (omega arith) h.detail),
        ),
      ),
    )

params_lawful : (p : Params) → params.Fits p → IsInRange p
params_lawful p h = record {
  iterations = limited_lawful MAX_ITERATIONS p.iterations h.0.0;
  nodes = limited_lawful MAX_NODES p.nodes h.1.0.0;
  work = limited_lawful MAX_WORK p.work h.1.1.0.0;
  priority_low = priority_low p.priority h.1.1.1.0.0;
  priority_high = priority_high p.priority h.1.1.1.0.0;
  detail = limited_lawful MAX_DETAIL p.detail h.1.1.1.1.0;
}

-- ---- codes

direction_small : (c : Direction) → (number 1).Fits (direction_code c)
unfolding number
direction_small Minimize = omega arith
direction_small Maximize = omega arith

sense_small : (c : Sense) → (number 1).Fits (sense_code c)
unfolding number
sense_small Less = omega arith
sense_small Greater = omega arith
sense_small Equal = omega arith

kind_small : (c : VarKind) → (number 1).Fits (kind_code c)
unfolding number
kind_small Continuous = omega arith
kind_small Integer = omega arith
kind_small Binary = omega arith

op_small : (c : Op) → (number 1).Fits (op_code c)
unfolding number
op_small Add = omega arith
op_small Sub = omega arith
op_small Mul = omega arith
op_small Div = omega arith

-- ---- models

all_joined : {A : Type 0} (P Q R : A → Type 0) (xs : List A) → ((x : A) → P x → Q x → R x) → All P xs → All Q xs → All R xs
all_joined P Q R xs f p q k d less = f _ (p k d less) (q k d less)

var_fits : (v : Var) → IsLawfulVar v → IsKeptVar v → var.Fits v
var_fits v l k = (
  name_fits v.name l.name,
  (
    if_some IsKept fraction.Fits v.lower fraction_fits k.lower,
    (
      if_some IsKept fraction.Fits v.upper fraction_fits k.upper,
      (fraction_fits v.obj k.obj, ((tt, kind_small v.kind), if_some IsTag tag.Fits v.tag tag_fits l.tag)),
    ),
  ),
)

var_kept : (v : Var) → var.Fits v → IsKeptVar v
var_kept v h = record {
  lower = if_some fraction.Fits IsKept v.lower fraction_kept h.1.0;
  upper = if_some fraction.Fits IsKept v.upper fraction_kept h.1.1.0;
  obj = fraction_kept v.obj h.1.1.1.0;
}

term_fits : (vars : ℕ) → vars ≤ 1000 → (t : Term) → t.var < vars → IsKept t.coef → term.Fits t
term_fits vars few t place k = (number_fits 4 t.var (omega (arith, few, place)), fraction_fits t.coef k)

-- a list of a lawful model has fewer items than its count can say
row_fits : (vars : ℕ) → vars ≤ 1000 → (r : Row) → length r.terms ≤ 250000 → IsLawfulRow vars r → IsKeptRow r → row.Fits r
row_fits vars few r less l k = (
  name_fits r.name l.name,
  (
    (tt, sense_small r.sense),
    (
      fraction_fits r.rhs k.rhs,
      (omega (arith, less), all_joined (λ t. t.var < vars) (λ t. IsKept t.coef) term.Fits r.terms (term_fits vars few) l.places k.terms),
    ),
  ),
)

row_kept : (r : Row) → row.Fits r → IsKeptRow r
row_kept r h = record {
  rhs = fraction_kept r.rhs h.1.1.0;
  terms = all_weaker term.Fits (λ t. IsKept t.coef) r.terms (λ t fit. fraction_kept t.coef fit.1) h.1.1.1.1;
}

-- no row has more terms than all of them
pub few_terms : (rows : List Row) (most : ℕ) → sum_by (λ r. length r.terms) rows ≤ most → All (λ r. length r.terms ≤ most) rows
few_terms [] most h = all_none _
few_terms (r ∷ rows) most h = all_more (λ (s : Row). length s.terms ≤ most) r rows (omega (arith, h, sum_first r rows)) (few_terms rows most (omega (arith, h, sum_first r rows)))

model_fits : (m : Model) → IsLawful m → HasKeptNumbers m → model.Fits m
model_fits m l k =
    let few : length m.vars ≤ 1000 = l.var_limit in
    let few_rows : length m.rows ≤ 1000 = l.row_limit in
    let short : All (λ r. length r.terms ≤ 250000) m.rows = few_terms m.rows 250000 l.term_limit in (
      (tt, direction_small m.direction),
      (
        fraction_fits m.constant k.constant,
        (
          (omega (arith, few), all_joined IsLawfulVar IsKeptVar var.Fits m.vars var_fits l.vars k.vars),
          (
            omega (arith, few_rows),
            all_joined (λ r. length r.terms ≤ 250000) (λ r. IsLawfulRow (length m.vars) r × IsKeptRow r) row.Fits m.rows
                (λ r less both. row_fits (length m.vars) few r less both.0 both.1) short
                (all_joined (IsLawfulRow (length m.vars)) IsKeptRow (λ r. IsLawfulRow (length m.vars) r × IsKeptRow r) m.rows (λ r p q. (p, q)) l.rows k.rows),
          ),
        ),
      ),
    )

model_kept : (m : Model) → model.Fits m → HasKeptNumbers m
model_kept m h = record {
  constant = fraction_kept m.constant h.1.0;
  vars = all_weaker var.Fits IsKeptVar m.vars var_kept h.1.1.0.1;
  rows = all_weaker row.Fits IsKeptRow m.rows row_kept h.1.1.1.1;
}

-- ---- results

point_fits : (p : Point) → IsKeptPoint p → point.Fits p
point_fits p h = ((omega (arith, h.count), all_weaker IsKept fraction.Fits p.xs fraction_fits h.xs), fraction_fits p.value h.value)

point_kept : (p : Point) → point.Fits p → IsKeptPoint p
point_kept p h = record { count = omega (arith, h.0.0); xs = all_weaker fraction.Fits IsKept p.xs fraction_kept h.0.1; value = fraction_kept p.value h.1 }

wide_fits : (w : WideAt) → IsKeptWide w → wide.Fits w
wide_fits w h = (number_fits 8 w.at (omega (arith, h.at)), ((tt, op_small w.wide.op), (fraction_fits w.wide.left h.left, fraction_fits w.wide.right h.right)))

wide_kept : (w : WideAt) → wide.Fits w → IsKeptWide w
wide_kept w h = record { at = omega (arith, number_small 8 w.at h.0); left = fraction_kept w.wide.left h.1.1.0; right = fraction_kept w.wide.right h.1.1.1 }

abbrev CertFits : List ℕ → Type 0
CertFits t = (length t < 256 ^ 4) × AreBytes t

cert_fits : (t : List ℕ) → IsCertText t → CertFits t
cert_fits t h = (omega (arith, h.0), h.1)

cert_kept : (t : List ℕ) → CertFits t → IsCertText t
cert_kept t h = (omega (arith, h.0), h.1)

found_fits : (r : BatchResult) → IsKeptResult r → found.Fits r
found_fits r h = (
  number_fits 1 r.outcome.status (omega (arith, h.status)),
  (
    number_fits 8 r.outcome.pivots (omega (arith, h.pivots)),
    (
      number_fits 8 r.outcome.nodes (omega (arith, h.nodes)),
      (
        number_fits 8 r.outcome.work (omega (arith, h.work)),
        (
          if_some IsKeptPoint point.Fits r.outcome.point point_fits h.point,
          (
            if_some IsKeptWide wide.Fits r.outcome.wide wide_fits h.wide,
            if_some IsCertText CertFits r.cert cert_fits h.cert,
          ),
        ),
      ),
    ),
  ),
)

found_kept : (r : BatchResult) → found.Fits r → IsKeptResult r
found_kept r h = record {
  status = omega (arith, number_small 1 r.outcome.status h.0);
  pivots = omega (arith, number_small 8 r.outcome.pivots h.1.0);
  nodes = omega (arith, number_small 8 r.outcome.nodes h.1.1.0);
  work = omega (arith, number_small 8 r.outcome.work h.1.1.1.0);
  point = if_some point.Fits IsKeptPoint r.outcome.point point_kept h.1.1.1.1.0;
  wide = if_some wide.Fits IsKeptWide r.outcome.wide wide_kept h.1.1.1.1.1.0;
  cert = if_some CertFits IsCertText r.cert cert_kept h.1.1.1.1.1.1;
}

-- ---- records

attempts_fit : (list : List AttemptOf) → length list < 2 ^ 32 → All IsAttempt list → attempts.Fits list
attempts_fit list short h = (omega (arith, short), all_weaker IsAttempt attempt.Fits list attempt_fits h)

attempts_lawful : (list : List AttemptOf) → attempts.Fits list → (length list < 2 ^ 32) × All IsAttempt list
attempts_lawful list h = (omega (arith, h.0), all_weaker attempt.Fits IsAttempt list attempt_lawful h.1)

pub record_fits : (r : BatchRecord) → IsLawfulRecord r → RecordFits r
record_fits (Create id n b) h = (attempt_fits (attempt_of id n) h.0, (params_fit b.params h.1.0.params, model_fits b.model h.1.0.model h.1.1))
record_fits (Abort id n) h = attempt_fits (attempt_of id n) h
record_fits (Discard id) h = id_fits id h
record_fits (Retry id n) h = attempt_fits (attempt_of id n) h
record_fits (Finish id n r) h = (attempt_fits (attempt_of id n) h.0, found_fits r h.1)
record_fits (Lost list) h = attempts_fit list h.0 h.1
record_fits (Next id) h = id_fits id h

record_lawful : (r : BatchRecord) → RecordFits r → is_orderly_record r ≡ true → IsLawfulRecord r
record_lawful (Create id n b) h o = (
  attempt_lawful (attempt_of id n) h.0,
  (record { params = params_lawful b.params h.1.0; model = lawful_from b.model h.1.1 o }, model_kept b.model h.1.1),
)
record_lawful (Abort id n) h o = attempt_lawful (attempt_of id n) h
record_lawful (Discard id) h o = id_lawful id h
record_lawful (Retry id n) h o = attempt_lawful (attempt_of id n) h
record_lawful (Finish id n r) h o = (attempt_lawful (attempt_of id n) h.0, found_kept r h.1)
record_lawful (Lost list) h o = attempts_lawful list h
record_lawful (Next id) h o = id_lawful id h

record_orderly : (r : BatchRecord) → IsLawfulRecord r → is_orderly_record r ≡ true
record_orderly (Create id n b) h = lawful_to b.model h.1.0.model
record_orderly (Abort id n) h = refl
record_orderly (Discard id) h = refl
record_orderly (Retry id n) h = refl
record_orderly (Finish id n r) h = refl
record_orderly (Lost list) h = refl
record_orderly (Next id) h = refl

-- ---- what is told of bytes

pub told_lawful : (bs : List ℕ) (r : BatchRecord) → ((i : ℕ) → slice_index bs i < 256) → whole batch_record bs ≡ Some r → true ≡ is_orderly_record r
    → (bs ≡ record_write r) × IsLawfulRecord r
told_lawful bs r small told orderly =
    let back = whole_spelled batch_record record_spelling bs r (bytes_from bs small) told in
    (back.0, record_lawful r back.1 (sym orderly))

pub lawful_told : (bs : List ℕ) (r : BatchRecord) → IsLawfulRecord r → bs ≡ record_write r → whole batch_record bs ≡ Some r
lawful_told bs r h is = whole_back batch_record record_spelling bs r (record_fits r h) is

pub told_only : (bs : List ℕ) (r s : BatchRecord) → IsLawfulRecord r → bs ≡ record_write r → whole batch_record bs ≡ Some s → Some s ≡ Some r
told_only bs r s h is told = sym told ∙ lawful_told bs r h is

-- where a record was told that isn't in order, no lawful one is spelled
pub not_lawful : (bs : List ℕ) (r s : BatchRecord) → IsLawfulRecord r → bs ≡ record_write r → whole batch_record bs ≡ Some s → false ≡ is_orderly_record s → ⊥
not_lawful bs r s h is told unordered =
    let same : s ≡ r = some_is s r (told_only bs r s h is told) in
    false≢true (unordered ∙ (ap is_orderly_record same ∙ record_orderly r h))

pub none_lawful : (bs : List ℕ) (r : BatchRecord) → IsLawfulRecord r → bs ≡ record_write r → whole batch_record bs ≡ None → ⊥
none_lawful bs r h is told = let bad : None ≡ Some r = sym told ∙ lawful_told bs r h is in absurd (cc)

pub told_none : {A S : Type 0} (o : Option A) (e : OrMemory S) (s : S) → e ≡ Fault s → IsTold {A = A} {S = S} o (Err e) → o ≡ None
told_none o (Fault t) s is h = h
told_none o NoMemory s is h = absurd (cc)

pub lawful_apart : (r s : BatchRecord) → IsLawfulRecord r → IsLawfulRecord s → record_write r ≡ record_write s → r ≡ s
lawful_apart r s h k same = told_apart r s (record_fits r h) (record_fits s k) same
