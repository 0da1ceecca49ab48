-- Sums with more steps: how many there are, and the one of each place.
use Rattle.std.proofs.Common.{◌≡◌, ◌∙◌, refl, sym, ap, ℕ, ◌+◌, ◌-◌, ◌<◌, List, [], ◌∷◌, length, drop, get_or, Option, Some}
use Rattle.std.proofs.Math.ListN.{length-set}
use Rattle.std.proofs.lemmas.List.{drop_more}
use Rattle.frac128.specs.Fraction.{Fraction}
use Rattle.model_data.specs.declared.model.Row.{Row}
use Rattle.model_data.specs.declared.model.Term.{Term}
use Rattle.model_data.specs.declared.solution.Weight.{Weight}
use Rattle.solve_defs.specs.Certificates.{nth, terms_of}
use Rattle.solve_defs.specs.Looks.{Step, plus_times}
use Rattle.cert_check.specs.Sums.{Sum, stepped, sum_at, with_bounds, with_rows, with_step, with_terms}

pub length-with_step : (place : ℕ) (step : Step) (sums : List Sum) → length (with_step place step sums) ≡ length sums
length-with_step place step sums = length-set sums place (stepped (sum_at sums place) step)

pub length-with_terms : (weight : Fraction) (terms : List Term) (sums : List Sum) → length (with_terms weight terms sums) ≡ length sums
length-with_terms weight [] sums = refl
length-with_terms weight (t ∷ terms) sums =
    length-with_terms weight terms (with_step t.var (plus_times weight t.coef) sums) ∙ length-with_step t.var (plus_times weight t.coef) sums

pub length-with_rows : (rows : List Row) (ws : List Weight) (sums : List Sum) → length (with_rows rows ws sums) ≡ length sums
length-with_rows rows [] sums = refl
length-with_rows rows (w ∷ ws) sums =
    length-with_rows rows ws (with_terms w.weight (terms_of (nth rows w.place)) sums) ∙ length-with_terms w.weight (terms_of (nth rows w.place)) sums

pub length-with_bounds : (step : Fraction → Step) (ws : List Weight) (sums : List Sum) → length (with_bounds step ws sums) ≡ length sums
length-with_bounds step [] sums = refl
length-with_bounds step (w ∷ ws) sums =
    length-with_bounds step ws (with_step (w.place - 1) (step w.weight) sums) ∙ length-with_step (w.place - 1) (step w.weight) sums

-- ---- rows, one by one

pub row_more : (rows : List Row) (ws : List Weight) (i : ℕ) (w : Weight) (row : Row) (sums next : List Sum) → i < length ws → w ≡ get_or ws i w → nth rows w.place ≡ Some row
    → next ≡ with_terms w.weight row.terms sums → with_rows rows (drop i ws) sums ≡ with_rows rows (drop (i + 1) ws) next
row_more rows ws i w row sums next within is found made =
    ap (λ (vs : List Weight). with_rows rows vs sums) (drop_more ws i w within)
    ∙ ap (λ (v : Weight). with_rows rows (v ∷ drop (i + 1) ws) sums) (sym is)
    ∙ ap (λ (o : Option Row). with_rows rows (drop (i + 1) ws) (with_terms w.weight (terms_of o) sums)) found
    ∙ ap (with_rows rows (drop (i + 1) ws)) (sym made)
