-- The thousandth variable and row are within the limits, and the next one is not.
use Rattle.std.proofs.Common.{◌≡◌, refl, ℕ, [], codes, replicate, Some, None, Ok, Err}
use Rattle.base_names.specs.declared.refusal.FaultWord.TheVariants.{DoubledName, Size}
use Rattle.frac128.specs.Fraction.{zero_value}
use Rattle.model_data.specs.declared.model.Direction.TheVariants.{Minimize}
use Rattle.model_data.specs.declared.model.Model.{Model}
use Rattle.model_data.specs.declared.model.Row.{Row}
use Rattle.model_data.specs.declared.model.Sense.TheVariants.{Less}
use Rattle.lp_defs.specs.Draft.{blank, mention, new_row, new_var, with_mention}
use Rattle.lp_defs.specs.Rows.{open_row}
use Rattle.lp_defs.specs.Symbols.{Spot, fault_at}

abbrev variables : ℕ → Model
variables n = record (blank Minimize) { vars = replicate n (new_var (codes "x")) }

abbrev empty_row : Row
empty_row = record { name = codes "x"; sense = Less; rhs = zero_value; terms = [] }

abbrev rows : ℕ → Model
rows n = record (blank Minimize) { rows = replicate n empty_row }

abbrev here : Spot
here = record { line = 7; column = 3 }

-- a name that is known is never refused
mentions : (mention (codes "y") (variables 999) ≡ Some (with_mention (codes "y") (variables 999))) × (mention (codes "y") (variables 1000) ≡ None) × (mention (codes "x") (variables 1000) ≡ Some (variables 1000))
mentions = (refl, refl, refl)

-- a row of a name that is taken is doubled, also past the limit
openings : (open_row here (codes "y") (rows 999) ≡ Ok (new_row (codes "y") (rows 999))) × (open_row here (codes "y") (rows 1000) ≡ Err (fault_at here Size)) × (open_row here (codes "x") (rows 1000) ≡ Err (fault_at here DoubledName))
openings = (refl, refl, refl)
