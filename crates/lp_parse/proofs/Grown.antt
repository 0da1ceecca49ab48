-- A draft stays sound with one more variable or row.
use Rattle.std.proofs.Common.{◌≡◌, ◌≢◌, refl, sym, ◌∙◌, ap, subst, arith, ℕ, ◌+◌, ◌<◌, Bool, true, false, ◌||◌, if◌then◌else◌}
use Rattle.std.proofs.Common.{List, [], ◌∷◌, ◌++◌, length, map, get_or, bytes_eq, sum_by}
use Rattle.std.specs.List.{list_any}
use Rattle.std.proofs.lemmas.Bool.{false≢true}
use Rattle.std.proofs.lemmas.List.{length_push, map_push}
use Rattle.std.proofs.lemmas.List.Folds.{list_any-append, list_any_at}
use Rattle.std.proofs.lemmas.List.Sums.{sum_by_push}
use Rattle.std.proofs.lemmas.List.Quantifiers.{all_pairs_push}
use Rattle.std.proofs.lemmas.Slice.Eq.{bytes_eq-Decides}
use Rattle.model_data.specs.Lawful.{AreDistinct}
use Rattle.model_data.specs.declared.limits.TheConstants.{MAX_VARS}
use Rattle.model_data.specs.declared.model.Row.{Row}
use Rattle.model_data.specs.declared.model.Term.{Term}
use Rattle.model_data.specs.declared.model.Var.{Var}
use Rattle.lp_parse.specs.Draft.{IsSound, with_name}

or_false : (b : Bool) → (b || false) ≡ b
or_false true = refl
or_false false = refl

distinct_push : (names : List (List ℕ)) (text : List ℕ) → AreDistinct names → list_any (bytes_eq text) names ≡ false → AreDistinct (names ++ text ∷ [])
distinct_push names text distinct new = all_pairs_push (λ x y. x ≢ y) names text distinct
    (λ k d within e. false≢true (sym new ∙ list_any_at (bytes_eq text) names k d within ((bytes_eq-Decides text (get_or names k d)).1 (sym e))))

with_new_name : (names : List (List ℕ)) (text : List ℕ) → list_any (bytes_eq text) names ≡ false → with_name names text ≡ names ++ text ∷ []
with_new_name names text new = ap (λ (b : Bool). if b then names else names ++ text ∷ []) new

known_step : (text new : List ℕ) (names : List (List ℕ)) (b : Bool) → list_any (bytes_eq new) names ≡ b
    → list_any (bytes_eq text) (if b then names else names ++ new ∷ []) ≡ (list_any (bytes_eq text) names || (bytes_eq text new || false))
known_step text new names false known = list_any-append (bytes_eq text) names (new ∷ [])
known_step text new names true known = both (bytes_eq text new) refl where
  both : (hit : Bool) → bytes_eq text new ≡ hit → list_any (bytes_eq text) names ≡ (list_any (bytes_eq text) names || (hit || false))
  both true e =
      let there : list_any (bytes_eq text) names ≡ true = ap (λ (t : List ℕ). list_any (bytes_eq t) names) ((bytes_eq-Decides text new).0 e) ∙ known in
      there ∙ sym (ap (λ (b : Bool). b || true) there)
  both false e = sym (or_false (list_any (bytes_eq text) names))

-- a table with one more name knows that name too
known_push : (names : List (List ℕ)) (rows : List Row) (r : Row)
    → ((text : List ℕ) → list_any (bytes_eq text) names ≡ list_any (λ r. bytes_eq text r.name) rows)
    → (text : List ℕ) → list_any (bytes_eq text) (with_name names r.name) ≡ list_any (λ r. bytes_eq text r.name) (rows ++ r ∷ [])
known_push names rows r same text =
    known_step text r.name names (list_any (bytes_eq r.name) names) refl
    ∙ ap (λ (b : Bool). b || (bytes_eq text r.name || false)) (same text)
    ∙ sym (list_any-append (λ (s : Row). bytes_eq text s.name) rows (r ∷ []))

module _ {vars : List Var} {var_names : List (List ℕ)} {rows : List Row} {row_names : List (List ℕ)} {count : ℕ} {terms : List Term} where
  pub sound_var : IsSound vars var_names rows row_names count terms → (v : Var) (more : List Var) (names : List (List ℕ))
      → more ≡ vars ++ v ∷ [] → names ≡ with_name var_names v.name → list_any (bytes_eq v.name) var_names ≡ false → length vars < MAX_VARS
      → IsSound more names rows row_names count terms
  sound_var sound v more names pushed named new room =
      let text = v.name in
      let all_names = named ∙ with_new_name var_names text new in
      record {
        var_names_are =
            all_names ∙ ap (λ (l : List (List ℕ)). l ++ text ∷ []) sound.var_names_are
            ∙ sym (map_push (λ (w : Var). w.name) vars v) ∙ ap (map (λ (w : Var). w.name)) (sym pushed);
        distinct = subst AreDistinct (sym all_names) (distinct_push var_names text sound.distinct new);
        row_names_are = sound.row_names_are;
        counted = sound.counted;
        var_limit = omega (arith, room, length_push vars v, ap length pushed);
        term_limit = sound.term_limit;
      }

  pub sound_row : IsSound vars var_names rows row_names count terms → (r : Row) (more : List Row) (names : List (List ℕ)) (left : List Term)
      → more ≡ rows ++ r ∷ [] → names ≡ with_name row_names r.name → r.terms ≡ terms → left ≡ []
      → IsSound vars var_names more names (count + length terms) left
  sound_row sound r more names left pushed named same none = record {
    var_names_are = sound.var_names_are;
    distinct = sound.distinct;
    row_names_are = λ text.
        ap (list_any (bytes_eq text)) named ∙ known_push row_names rows r sound.row_names_are text
        ∙ ap (list_any (λ (s : Row). bytes_eq text s.name)) (sym pushed);
    counted =
        ap (λ (n : ℕ). n + length terms) sound.counted ∙ ap (λ (l : List Term). sum_by (λ (s : Row). length s.terms) rows + length l) (sym same)
        ∙ sym (sum_by_push (λ (s : Row). length s.terms) rows r) ∙ ap (sum_by (λ (s : Row). length s.terms)) (sym pushed);
    var_limit = sound.var_limit;
    term_limit = omega (arith, sound.term_limit, ap length none);
  }
