-- The standard form of a model with numbers in lowest terms has such numbers.
use Rattle.std.specs.Prelude.{IfSome}
use Rattle.std.proofs.Common.{◌≡◌, sym, subst, List, slice_index_or, All, Option, Some, None, Ok, ℤ}
use Rattle.frac128.specs.Fraction.{Fraction, exact_product, negation}
use Rattle.frac128.specs.Lowest.{IsInLowestTerms, IsKept}
use Rattle.frac128.proofs.Chains.{difference_is, less_product_is, plus_product_is}
use Rattle.frac128.proofs.Field.{apart_of-one, apart_of-sum, apart_of-zero}
use Rattle.model_data.specs.Kept.{HasKeptNumbers}
use Rattle.model_data.specs.declared.model.Model.{Model}
use Rattle.dictionary.specs.Solutions.{HasReducedNumbers}
use Rattle.dictionary.specs.declared.standard.Std.{Std}
use Rattle.dictionary.proofs.Points.FreeRise.{apart_of-whole}
use Rattle.solve_defs.specs.StandardForm.{standard_form}
use Rattle.solve_defs.specs.Values.{whole}
use Rattle.solve_defs.specs.declared.cut.Cut.{Cut}
use Rattle.solve_defs.proofs.FormBounds.{low_negation}
use Rattle.relaxation_laws.proofs.FormNumbers.{CutHas, IsClosed, ModelHas, form_has}

lowest_closed : IsClosed IsInLowestTerms
lowest_closed = record {
  of_zero = apart_of-zero;
  of_one = apart_of-one;
  of_negation = low_negation;
  of_difference = λ x y z p q h. subst IsInLowestTerms (sym (difference_is x y z h)) (apart_of-sum x (negation y));
  of_less = λ f x y z p q r h. subst IsInLowestTerms (sym (less_product_is f x y z h)) (apart_of-sum x (negation (exact_product f y)));
  of_plus = λ f x y z p q r h. subst IsInLowestTerms (sym (plus_product_is f x y z h)) (apart_of-sum x (exact_product f y));
}

-- a whole number is in lowest terms
lowest_cuts : (cuts : List Cut) → All (CutHas IsInLowestTerms) cuts
lowest_cuts cuts = λ k d within. let cut = slice_index_or cuts k d in record { lower = of_option cut.lower; upper = of_option cut.upper }
  where
    of_option : (o : Option ℤ) → IfSome o (λ n. IsInLowestTerms (whole n))
    of_option None = tt
    of_option (Some n) = apart_of-whole n

-- what holds of kept numbers holds of the model's
pub kept_has : (P : Fraction → Type 0) → ((x : Fraction) → IsKept x → P x) → (m : Model) → HasKeptNumbers m → ModelHas P m
kept_has P known m kept = record {
  constant = known m.constant kept.constant;
  vars = λ k d within. let var = kept.vars k d within in record { lower = of_option _ var.lower; upper = of_option _ var.upper; obj = known _ var.obj };
  rows = λ k d within. let row = kept.rows k d within in record { rhs = known _ row.rhs; terms = λ i e inside. known _ (row.terms i e inside) };
}
  where
    of_option : (o : Option Fraction) → IfSome o IsKept → IfSome o P
    of_option None h = tt
    of_option (Some x) h = known x h

kept_lowest : (x : Fraction) → IsKept x → IsInLowestTerms x
kept_lowest x kept = kept.nothing_in_common

pub form_reduced : (m : Model) (cuts : List Cut) (s : Std) → HasKeptNumbers m → standard_form m cuts ≡ Ok s → HasReducedNumbers s
form_reduced m cuts s kept is =
    let form = form_has IsInLowestTerms lowest_closed m cuts s (kept_has IsInLowestTerms kept_lowest m kept) (lowest_cuts cuts) is in
    record {
      coefs = λ k d within. let row = form.rows k d within in row.coefs;
      sides = λ k d within. let row = form.rows k d within in row.side;
      obj = form.obj;
      constant = form.constant;
    }
