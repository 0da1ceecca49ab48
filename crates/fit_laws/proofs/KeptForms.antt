-- The standard form of a model and of cuts whose numbers can be kept has such numbers.
use Rattle.std.proofs.Common.{◌≡◌, List, All, Ok}
use Rattle.frac128.specs.Lowest.{IsKept}
use Rattle.frac128.proofs.Kept.{IsKept-negation, IsKept-one, IsKept-zero}
use Rattle.model_data.specs.Kept.{HasKeptNumbers}
use Rattle.model_data.specs.declared.model.Model.{Model}
use Rattle.dictionary.specs.declared.standard.Std.{Std}
use Rattle.solve_defs.specs.KeptCuts.{IsKeptCut}
use Rattle.solve_defs.specs.StandardForm.{standard_form}
use Rattle.solve_defs.specs.declared.cut.Cut.{Cut}
use Rattle.relaxation_laws.proofs.FormNumbers.{CutHas, IsClosed, form_has}
use Rattle.relaxation_laws.proofs.LowestForm.{kept_has}
use Rattle.fit_laws.specs.KeptEntries.{HasKeptForm}
use Rattle.fit_laws.proofs.KeptPath.{kept_difference, kept_less, kept_plus}

kept_closed : IsClosed IsKept
kept_closed = record {
  of_zero = IsKept-zero;
  of_one = IsKept-one;
  of_negation = IsKept-negation;
  of_difference = kept_difference;
  of_less = kept_less;
  of_plus = kept_plus;
}

pub form_fits : (m : Model) (cuts : List Cut) (s : Std) → HasKeptNumbers m → All IsKeptCut cuts → standard_form m cuts ≡ Ok s → HasKeptForm s
form_fits m cuts s kept cuts_kept is =
    let all : All (CutHas IsKept) cuts = λ k d within. let cut = cuts_kept k d within in record { lower = cut.lower; upper = cut.upper } in
    let form = form_has IsKept kept_closed m cuts s (kept_has IsKept (λ x h. h) m kept) all is in
    record {
      coefs = λ k d within. let row = form.rows k d within in row.coefs;
      sides = λ k d within. let row = form.rows k d within in row.side;
      obj = form.obj;
      constant = form.constant;
    }
