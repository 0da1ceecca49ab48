-- Tokens that go on from a stage to the end of a text that spells a model.
use Rattle.std.proofs.Common.{◌≡◌, refl, sym, ◌∙◌, ap, subst, ℕ, ◌+◌, ◌*◌, ◌/◌, ◌<◌, ◌≤◌, Bool, true, false, List, [], ◌∷◌, length, codes, arith, Some, None, Ok, Err, ℤ, pos, neg_ℤ, ◌+ℤ◌, ◌*ℤ◌, option_and_then, option_map}
use Rattle.std.specs.Prelude.{if◌then◌else◌, nat_lt, unsigned_abs, ◌==◌}
use Rattle.std.proofs.lemmas.Bool.{le-leb, or_left}
use Rattle.std.proofs.lemmas.Int.{ints}
use Rattle.std.proofs.Math.Nat.{div_self, mul-one}
use Rattle.base_names.specs.declared.refusal.FaultWord.TheVariants.{Number as bad_number, Size, Word}
use Rattle.frac128.specs.Checked.{◌>>=◌}
use Rattle.frac128.specs.Fits.{FitsSum}
use Rattle.frac128.specs.Fraction.{Fraction, den, exact_sum, negation, zero_value}
use Rattle.frac128.specs.Lowest.{IsKept}
use Rattle.frac128.specs.Numbers.{limit}
use Rattle.frac128.specs.Parts.{FitsScaledSum}
use Rattle.frac128.proofs.Divisors.{gcd-same}
use Rattle.frac128.proofs.Field.{exact_sum-negation, negation-negation}
use Rattle.frac128.proofs.Fitting.{FitsSum-is}
use Rattle.frac128.proofs.Integers.{size-neg}
use Rattle.frac128.proofs.Kept.{FitsSum-zero_right}
use Rattle.model_data.specs.Lawful.{term_count}
use Rattle.model_data.specs.declared.limits.TheConstants.{MAX_TERMS}
use Rattle.model_data.specs.declared.model.Direction.{Direction}
use Rattle.model_data.specs.declared.model.Direction.TheVariants.{Minimize as minimizing}
use Rattle.model_data.specs.declared.model.Model.{Model}
use Rattle.model_data.specs.declared.model.Row.{Row}
use Rattle.model_data.specs.declared.model.Sense.{Sense}
use Rattle.model_data.specs.declared.model.Sense.TheVariants.{Less, Greater, Equal}
use Rattle.model_data.specs.declared.model.Term.{Term}
use Rattle.model_data.specs.declared.model.Var.{Var}
use Rattle.lp_defs.specs.declared.token.SectionWord.TheVariants.{Minimize, Constraints, End, Free}
use Rattle.lp_defs.specs.Draft.{Unfinished, blank, change_var, close_row, freed, coefficient_in, mention, row_sum, var_place, with_coefficient, with_constant, with_sum, with_term, within_terms}
use Rattle.lp_defs.specs.Quantity.{Limit, limited, unlimited, added, turned, with_bound}
use Rattle.lp_defs.specs.Reading.{after, reading_from}
use Rattle.lp_defs.specs.Rows.{settle_row_title}
use Rattle.lp_defs.specs.Stage.{Stage, start, objective_start, objective_title, objective_first, objective_sign, objective_number, objective_next, second_word, rows_start, rows_next, row_title, row_first, row_sign, row_number, row_next, row_side, row_side_sign, bounds, bound_name, bound_side, bound_side_sign, bound_sign, bound_number, bound_middle, bound_end, kinds, ended}
use Rattle.lp_defs.specs.Symbols.{finite, infinite, fault_at, Seen, Spot, Symbol, token, colon, comparison, number, keyword, name, or_fault}
use Rattle.lp_defs.proofs.Named.{same_text}
use Rattle.lp_defs.proofs.Told.{knows, mention_known, told}
use Rattle.lp_laws.proofs.Lasting.{Lasts, Within, WithinRow, coefficient_kept, kept_branch, mention_like}

abbrev pub nowhere_is : Spot
nowhere_is = record { line = 0; column = 0 }

abbrev pub there : Symbol → Seen
there symbol = token (record { line = 0; column = 0 }) symbol

pub record Closes (stage : Stage) : Type 0 where
  pub more : List Seen
  pub model : Model
  pub reads : reading_from stage more (record { line = 0; column = 0 }) ≡ Ok model

-- Numbers

fits_back : (x : Fraction) → IsKept x → FitsSum x (negation x)
fits_back x kept =
    let d = den x in
    let same = sym (gcd-same d d refl) in
    let above : 0 < d = omega arith in let one : d / d ≡ 1 = div_self above in
    let size = size-neg x.num in
    let scaled : FitsScaledSum x.num 1 (neg_ℤ x.num) 1 = (
      subst (λ k. k < limit) (sym (mul-one (unsigned_abs x.num))) kept.num_fits,
      subst (λ k. k < limit) (sym (mul-one (unsigned_abs (neg_ℤ x.num)) ∙ size)) kept.num_fits,
      subst (λ (z : ℤ). unsigned_abs z < limit) (let e : x.num *ℤ pos 1 +ℤ neg_ℤ x.num *ℤ pos 1 ≡ pos 0 = omega (arith, ints) in sym e) (omega arith),
    ) in
    let whole : 1 * d < limit = omega (arith, kept.den_fits) in
    (FitsSum-is x (negation x)).1 (
      subst (λ g. FitsScaledSum x.num (d / g) (neg_ℤ x.num) (d / g)) same (subst (λ k. FitsScaledSum x.num k (neg_ℤ x.num) k) (sym one) scaled),
      subst (λ g. d / g * d < limit) same (subst (λ k. k * d < limit) (sym one) whole),
    )

taken_back : (x : Fraction) → IsKept x → added x (negation x) ≡ Some zero_value
taken_back x kept = ap (λ b. if b then Some (exact_sum x (negation x)) else None) (fits_back x kept) ∙ ap Some (exact_sum-negation x)

pub zero_added : (x : Fraction) → IsKept x → added x zero_value ≡ Some (exact_sum x zero_value)
zero_added x kept = ap (λ b. if b then Some (exact_sum x zero_value) else None) (FitsSum-zero_right x kept)

-- Mentions

-- a name that may be mentioned
record Mentions (m : Model) : Type 0 where
  pub text : List ℕ
  pub known : Model
  pub is : mention text m ≡ Some known

mentions_of : (d : Direction) (c : Fraction) (vars : List Var) (rows : List Row) → Mentions (told d c vars rows)
mentions_of d c [] rows = record { text = codes "x"; known = _; is = refl }
mentions_of d c (v ∷ vars) rows = record {
  text = v.name;
  known = told d c (v ∷ vars) rows;
  is = mention_known v.name (told d c (v ∷ vars) rows) (or_left _ (knows v.name vars) (same_text v.name));
}

mentions : (m : Model) → Mentions m
mentions m = mentions_of m.direction m.constant m.vars m.rows

-- Rows

shorter : (place : ℕ) (terms : List Term) → length (with_coefficient place zero_value terms) ≤ length terms
shorter place [] = omega arith
shorter place (t ∷ terms) =
    let more = shorter place terms in
    kept_branch (λ xs. length xs ≤ length (t ∷ terms)) (nat_lt t.var place) (t ∷ with_coefficient place zero_value terms)
    (if t.var == place then terms else t ∷ terms) (omega (arith, more))
    (kept_branch (λ xs. length xs ≤ length (t ∷ terms)) (t.var == place) terms (t ∷ terms) (omega arith) (omega arith))

-- a term that takes a coefficient back
pub record TakesBack (u : Unfinished) : Type 0 where
  pub text : List ℕ
  pub x : Fraction
  pub told : Unfinished
  pub sum_is : row_sum text x u ≡ Some zero_value
  pub told_is : with_term text zero_value u ≡ Some told

pub takes_back : (u : Unfinished) → WithinRow u → TakesBack u
takes_back u w =
    let n = mentions u.model in
    let place = var_place n.text u.model in
    let c = coefficient_in place u.row.terms in
    let next = with_sum n.text zero_value u.row n.known in
    let like = mention_like n.text u.model n.known n.is in
    let count : term_count u.model ≡ term_count n.known = ap (λ (rows : List Row). term_count (record u.model { rows = rows })) like.rows in
    let less = shorter (var_place n.text n.known) u.row.terms in
    let few : term_count n.known + length next.row.terms ≤ MAX_TERMS = omega (arith, count, less, w.terms) in
    record {
      text = n.text;
      x = negation c;
      told = next;
      sum_is = taken_back c (coefficient_kept place u.row.terms w.kept);
      told_is = ap (option_and_then (λ known. within_terms (with_sum n.text zero_value u.row known))) n.is
          ∙ ap (λ b. if b then Some next else None) (le-leb (term_count n.known + length next.row.terms) MAX_TERMS few);
    }

pub row_numbered : (head : Bool) (s : Spot) (x : Fraction) (u : Unfinished) (text : List ℕ) (sum : Fraction) (told : Unfinished) →
    row_sum text x u ≡ Some sum → with_term text sum u ≡ Some told → Closes (row_number head s x u)
unfolding reading_from
row_numbered head s x u text sum told e h = record {
  more = there (name text) ∷ there (comparison Less) ∷ there (number false (finite zero_value)) ∷ there (keyword End) ∷ [];
  model = _;
  reads = ap (λ o. ((or_fault s bad_number o >>= λ sum. or_fault nowhere_is Size (with_term text sum u)) >>= λ told. Ok (row_next told))
      >>= λ next. reading_from next (there (comparison Less) ∷ there (number false (finite zero_value)) ∷ there (keyword End) ∷ []) nowhere_is) e
      ∙ ap (λ o. (or_fault nowhere_is Size o >>= λ told. Ok (row_next told))
      >>= λ next. reading_from next (there (comparison Less) ∷ there (number false (finite zero_value)) ∷ there (keyword End) ∷ []) nowhere_is) h;
}

-- one more token in front
pub first : (stage : Stage) (symbol : Symbol) (next : Stage) → after stage nowhere_is symbol ≡ Ok next → Closes next → Closes stage
unfolding reading_from
first stage symbol next e c = record {
  more = there symbol ∷ c.more;
  model = c.model;
  reads = ap (λ o. o >>= λ next. reading_from next c.more nowhere_is) e ∙ c.reads;
}

ended_closes : (m : Model) → Closes (ended m)
unfolding reading_from
ended_closes m = record { more = []; model = m; reads = refl }

pub rows_next_closes : (m : Model) → Closes (rows_next m)
rows_next_closes m = first (rows_next m) (keyword End) (ended m) refl (ended_closes m)

rows_start_closes : (m : Model) → Closes (rows_start m)
rows_start_closes m = first (rows_start m) (keyword End) (ended m) refl (ended_closes m)

objective_next_closes : (m : Model) → Closes (objective_next m)
objective_next_closes m = first (objective_next m) (keyword Constraints) (rows_start m) refl (rows_start_closes m)

objective_first_closes : (m : Model) → Closes (objective_first m)
objective_first_closes m = first (objective_first m) (keyword Constraints) (rows_start m) refl (rows_start_closes m)

pub objective_number_closes : (s : Spot) (x : Fraction) (m told : Model) → with_constant x m ≡ Some told → Closes (objective_number s x m)
objective_number_closes s x m told e =
    first (objective_number s x m) (keyword Constraints) (rows_start told) (ap (λ o. or_fault s bad_number o >>= λ told. Ok (rows_start told)) e) (rows_start_closes told)

objective_sign_closes : (negative : Bool) (m : Model) → Within m → Closes (objective_sign negative m)
objective_sign_closes negative m w = first (objective_sign negative m) (number false (finite zero_value)) (objective_number nowhere_is zero_value m) (zero_under negative)
    (objective_number_closes nowhere_is zero_value m (record m { constant = exact_sum m.constant zero_value })
    (ap (option_map (λ sum. record m { constant = sum })) (zero_added m.constant w.constant)))
  where
    zero_under : (negative : Bool) → after (objective_sign negative m) nowhere_is (number false (finite zero_value)) ≡ Ok (objective_number nowhere_is zero_value m)
    zero_under false = refl
    zero_under true = refl

row_side_closes : (sense : Sense) (u : Unfinished) → Closes (row_side sense u)
row_side_closes sense u = first (row_side sense u) (number false (finite zero_value)) (rows_next (close_row sense zero_value u)) refl (rows_next_closes (close_row sense zero_value u))

row_side_sign_closes : (negative : Bool) (sense : Sense) (u : Unfinished) → Closes (row_side_sign negative sense u)
row_side_sign_closes false sense u = first (row_side_sign false sense u) (number false (finite zero_value)) (rows_next (close_row sense zero_value u)) refl (rows_next_closes (close_row sense zero_value u))
row_side_sign_closes true sense u = first (row_side_sign true sense u) (number false (finite zero_value)) (rows_next (close_row sense zero_value u)) refl (rows_next_closes (close_row sense zero_value u))

row_next_closes : (u : Unfinished) → Closes (row_next u)
row_next_closes u = first (row_next u) (comparison Less) (row_side Less u) refl (row_side_closes Less u)

pub row_first_closes : (u : Unfinished) → Closes (row_first u)
row_first_closes u = first (row_first u) (comparison Less) (row_side Less u) refl (row_side_closes Less u)

row_sign_closes : (head negative : Bool) (u : Unfinished) → WithinRow u → Closes (row_sign head negative u)
row_sign_closes head false u w =
    let t = takes_back u w in
    first (row_sign head false u) (number false (finite t.x)) (row_number head nowhere_is t.x u) refl (row_numbered head nowhere_is t.x u t.text zero_value t.told t.sum_is t.told_is)
row_sign_closes head true u w =
    let t = takes_back u w in
    first (row_sign head true u) (number false (finite (negation t.x))) (row_number head nowhere_is t.x u)
    (ap (λ x. Ok (row_number head nowhere_is x u)) (negation-negation t.x))
    (row_numbered head nowhere_is t.x u t.text zero_value t.told t.sum_is t.told_is)

row_title_closes : (s : Spot) (title : List ℕ) (m : Model) (told : Unfinished) → settle_row_title s title m ≡ Ok told → Closes (row_title s title m)
row_title_closes s title m told e =
    first (row_title s title m) (comparison Less) (row_side Less told) (ap (λ o. o >>= λ told. Ok (row_side Less told)) e) (row_side_closes Less told)

pub bounds_closes : (m : Model) → Closes (bounds m)
bounds_closes m = first (bounds m) (keyword End) (ended m) refl (ended_closes m)

bound_end_closes : (sense : Sense) (text : List ℕ) (m : Model) → Closes (bound_end sense text m)
bound_end_closes Less text m = first (bound_end Less text m) (keyword End) (ended m) refl (ended_closes m)
bound_end_closes Greater text m = first (bound_end Greater text m) (keyword End) (ended m) refl (ended_closes m)
bound_end_closes Equal text m = first (bound_end Equal text m) (keyword End) (ended m) refl (ended_closes m)

bound_middle_closes : (l : Limit) (sense : Sense) (m : Model) → Closes (bound_middle l sense m)
bound_middle_closes l sense m =
    let n = mentions m in
    let next : Model → Stage = λ known. bound_end sense n.text (change_var n.text (with_bound (turned sense) l) known) in
    first (bound_middle l sense m) (name n.text) (next n.known) (ap (λ o. or_fault nowhere_is Size o >>= λ known. Ok (next known)) n.is)
    (bound_end_closes sense n.text (change_var n.text (with_bound (turned sense) l) n.known))

pub bound_number_closes : (s : Spot) (l : Limit) (m : Model) → Closes (bound_number s l m)
bound_number_closes s (limited x) m = first (bound_number s (limited x) m) (comparison Less) (bound_middle (limited x) Less m) refl (bound_middle_closes (limited x) Less m)
bound_number_closes s (unlimited true) m = first (bound_number s (unlimited true) m) (comparison Less) (bound_middle (unlimited true) Less m) refl (bound_middle_closes (unlimited true) Less m)
bound_number_closes s (unlimited false) m = first (bound_number s (unlimited false) m) (comparison Greater) (bound_middle (unlimited false) Greater m) refl (bound_middle_closes (unlimited false) Greater m)

bound_sign_closes : (negative : Bool) (m : Model) → Closes (bound_sign negative m)
bound_sign_closes false m = first (bound_sign false m) (number false (infinite true)) (bound_number nowhere_is (unlimited true) m) refl (bound_number_closes nowhere_is (unlimited true) m)
bound_sign_closes true m = first (bound_sign true m) (number false (infinite true)) (bound_number nowhere_is (unlimited false) m) refl (bound_number_closes nowhere_is (unlimited false) m)

bound_side_closes : (sense : Sense) (text : List ℕ) (m : Model) → Closes (bound_side sense text m)
bound_side_closes Less text m = first (bound_side Less text m) (number false (finite zero_value)) (bounds (change_var text (with_bound Less (limited zero_value)) m)) refl (bounds_closes _)
bound_side_closes Greater text m = first (bound_side Greater text m) (number false (finite zero_value)) (bounds (change_var text (with_bound Greater (limited zero_value)) m)) refl (bounds_closes _)
bound_side_closes Equal text m = first (bound_side Equal text m) (number false (finite zero_value)) (bounds (change_var text (with_bound Equal (limited zero_value)) m)) refl (bounds_closes _)

bound_side_sign_closes : (negative : Bool) (sense : Sense) (text : List ℕ) (m : Model) → Closes (bound_side_sign negative sense text m)
bound_side_sign_closes false sense text m = first (bound_side_sign false sense text m) (number false (finite zero_value)) (bounds (change_var text (with_bound sense (limited zero_value)) m)) refl (bounds_closes _)
bound_side_sign_closes true sense text m = first (bound_side_sign true sense text m) (number false (finite zero_value)) (bounds (change_var text (with_bound sense (limited zero_value)) m)) refl (bounds_closes _)

-- What waits for the next token can be settled without it.
abbrev pub Settled : Stage → Type 0
Settled (objective_number s x m) = (told : Model) × (with_constant x m ≡ Some told)
Settled (row_number head s x u) = ⊥
Settled (row_title s title m) = (told : Unfinished) × (settle_row_title s title m ≡ Ok told)
Settled stage = Unit {0}

pub closes : (stage : Stage) → Lasts stage → Settled stage → Closes stage
closes start w h = first start (keyword Minimize) (objective_start (blank minimizing)) refl (first (objective_start (blank minimizing)) (keyword Constraints) (rows_start (blank minimizing)) refl (rows_start_closes (blank minimizing)))
closes (objective_start m) w h = first (objective_start m) (keyword Constraints) (rows_start m) refl (rows_start_closes m)
closes (objective_title s title m) w h = first (objective_title s title m) colon (objective_first m) refl (objective_first_closes m)
closes (objective_first m) w h = objective_first_closes m
closes (objective_sign negative m) w h = objective_sign_closes negative m w
closes (objective_number s x m) w h = objective_number_closes s x m h.0 h.1
closes (objective_next m) w h = objective_next_closes m
closes (second_word wanted m) w h =
    first (second_word wanted m) (name wanted) (rows_start m) (ap (λ b. if b then Ok (rows_start m) else Err (fault_at nowhere_is Word)) w.1) (rows_start_closes m)
closes (rows_start m) w h = rows_start_closes m
closes (rows_next m) w h = rows_next_closes m
closes (row_title s title m) w h = row_title_closes s title m h.0 h.1
closes (row_first u) w h = row_first_closes u
closes (row_sign head negative u) w h = row_sign_closes head negative u w
closes (row_number head s x u) w h = absurd h
closes (row_next u) w h = row_next_closes u
closes (row_side sense u) w h = row_side_closes sense u
closes (row_side_sign negative sense u) w h = row_side_sign_closes negative sense u
closes (bounds m) w h = bounds_closes m
closes (bound_name text m) w h = first (bound_name text m) (keyword Free) (bounds (change_var text freed m)) refl (bounds_closes (change_var text freed m))
closes (bound_side sense text m) w h = bound_side_closes sense text m
closes (bound_side_sign negative sense text m) w h = bound_side_sign_closes negative sense text m
closes (bound_sign negative m) w h = bound_sign_closes negative m
closes (bound_number s l m) w h = bound_number_closes s l m
closes (bound_middle l sense m) w h = bound_middle_closes l sense m
closes (bound_end sense text m) w h = bound_end_closes sense text m
closes (kinds kind m) w h = first (kinds kind m) (keyword End) (ended m) refl (ended_closes m)
closes (ended m) w h = ended_closes m
