-- What `solve` answers for a model.
use Rattle.std.specs.Prelude.{ℕ, List}
use Rattle.model_data.specs.declared.model.Model.{Model}
use Rattle.model_data.specs.declared.params.Params.{Params}
use Rattle.node_laws.specs.Bounds.{KeepsBounds}
use Rattle.solve_defs.specs.Answers.{IsSo}
use Rattle.solve_defs.specs.Certificates.{IsValid}
use Rattle.solve_defs.specs.Plain.{plain}
use Rattle.cert_text.specs.Spelling.{Spells}

-- The certificate is that of the plain solver, uncut. What the outcome says of the model is so, and the certificate shows it. No limit
-- has ended the solve that is enough for the model.
pub record IsSolved (p : Params) (model : Model) (answer : List ℕ) : Type 0 where
  pub answer_is : Spells answer (plain model p).outcome (plain model p).cert
  pub so : IsSo model (plain model p).outcome
  pub valid : IsValid model (plain model p).outcome (plain model p).cert
  pub bounds : KeepsBounds model p (plain model p).outcome
