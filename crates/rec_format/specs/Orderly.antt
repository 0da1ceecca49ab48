-- What makes a model lawful whose names, tags and numbers are, as tests.
use Rattle.std.specs.Prelude.{ℕ, ◌+◌, ◌-◌, ◌*◌, ◌==◌, Bool, true, not, ◌&&◌, nat_lt, nat_le, List, [], ◌∷◌, ◌++◌, length, map, filter_map, bytes_eq, unsigned_abs}
use Rattle.std.specs.Prelude.{Option, Some, None}
use Rattle.std.specs.List.{list_all, list_any}
use Rattle.frac128.specs.Fraction.{Fraction, den}
use Rattle.model_data.specs.declared.batch.BatchRecord.{BatchRecord}
use Rattle.model_data.specs.declared.batch.BatchRecord.TheVariants.{Abort, Create, Discard, Finish, Lost, Next, Retry}
use Rattle.model_data.specs.declared.limits.TheConstants.{BOUND_SIZE, MAX_ROWS, MAX_TERMS, MAX_VARS}
use Rattle.model_data.specs.declared.model.Model.{Model}
use Rattle.model_data.specs.declared.model.Row.{Row}
use Rattle.model_data.specs.declared.model.Term.{Term}
use Rattle.model_data.specs.declared.model.Var.{Var}

-- infinite, or below 10 ^ 20 in size
abbrev pub is_near : Option Fraction → Bool
is_near None = true
is_near (Some x) = nat_lt (unsigned_abs x.num) (BOUND_SIZE * den x)

abbrev pub has_near_bounds : Var → Bool
has_near_bounds v = is_near v.lower && is_near v.upper

abbrev pub is_zero : Fraction → Bool
is_zero x = unsigned_abs x.num == 0

-- a term with a variable from this one on, of so many, and a coefficient that isn't 0
abbrev pub is_next : ℕ → ℕ → Term → Bool
is_next least vars t = (nat_le least t.var && nat_lt t.var vars) && not (is_zero t.coef)

-- the terms rise by variable from this one on, have variables of so many, and no coefficient of 0
unfoldable pub are_rising : ℕ → ℕ → List Term → Bool
are_rising least vars [] = true
are_rising least vars (t ∷ ts) = is_next least vars t && are_rising (t.var + 1) vars ts

-- the rows have together at most so many terms
unfoldable pub are_terms_within : ℕ → List Row → Bool
are_terms_within most [] = true
are_terms_within most (r ∷ rows) = nat_le (length r.terms) most && are_terms_within (most - length r.terms) rows

-- no text is one of those before it, nor of those that were seen already
unfoldable pub are_new : List (List ℕ) → List (List ℕ) → Bool
are_new seen [] = true
are_new seen (t ∷ ts) = not (list_any (bytes_eq t) seen) && are_new (seen ++ t ∷ []) ts

-- a text is none of those that were seen, or there is none
abbrev pub is_new : List (List ℕ) → Option (List ℕ) → Bool
is_new seen None = true
is_new seen (Some t) = not (list_any (bytes_eq t) seen)

abbrev pub with_new : List (List ℕ) → Option (List ℕ) → List (List ℕ)
with_new seen None = seen
with_new seen (Some t) = seen ++ t ∷ []

abbrev pub is_in_limits : Model → Bool
is_in_limits m = (nat_le (length m.vars) MAX_VARS && nat_le (length m.rows) MAX_ROWS) && are_terms_within MAX_TERMS m.rows

abbrev pub has_orderly_parts : Model → Bool
has_orderly_parts m = is_in_limits m && (list_all has_near_bounds m.vars && list_all (λ r. are_rising 0 (length m.vars) r.terms) m.rows)

abbrev pub has_distinct_names : Model → Bool
has_distinct_names m = are_new [] (map (λ v. v.name) m.vars) && (are_new [] (map (λ r. r.name) m.rows) && are_new [] (filter_map (λ v. v.tag) m.vars))

abbrev pub is_orderly : Model → Bool
is_orderly m = has_orderly_parts m && has_distinct_names m

-- it has no model, or one in order
abbrev pub is_orderly_record : BatchRecord → Bool
is_orderly_record (Create id n body) = is_orderly body.model
is_orderly_record (Abort id n) = true
is_orderly_record (Discard id) = true
is_orderly_record (Retry id n) = true
is_orderly_record (Finish id n found) = true
is_orderly_record (Lost list) = true
is_orderly_record (Next id) = true
