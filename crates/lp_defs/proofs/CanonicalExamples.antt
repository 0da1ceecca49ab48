-- What the definitions say of models at hand.
use Rattle.std.proofs.Common.{◌≡◌, refl, ℕ, List, [], ◌∷◌, codes, pos, Option, Some, None}
use Rattle.std.specs.Fmt.{digits}
use Rattle.frac128.specs.Fraction.{Fraction, zero_value}
use Rattle.model_data.specs.declared.model.Direction.TheVariants.{Minimize, Maximize}
use Rattle.model_data.specs.declared.model.Model.{Model}
use Rattle.model_data.specs.declared.model.Sense.TheVariants.{Less}
use Rattle.model_data.specs.declared.model.Var.{Var}
use Rattle.model_data.specs.declared.model.VarKind.{VarKind}
use Rattle.model_data.specs.declared.model.VarKind.TheVariants.{Continuous, Integer}
use Rattle.lp_defs.specs.Canonical.{canonical_text}

abbrev whole : ℕ → Fraction
whole n = record { num = pos n; below = 0 }

abbrev variable : List ℕ → Option Fraction → Option Fraction → ℕ → VarKind → Var
variable name lower upper coef kind = record { name = name; lower = lower; upper = upper; obj = whole coef; kind = kind; tag = None }

-- one row, two lines of bounds and an integer variable; a name may be any word that has no meaning of its own
abbrev plan : Model
plan = record {
  direction = Maximize;
  constant = zero_value;
  vars = variable (codes "x") (Some zero_value) None 1 Integer
      ∷ variable (codes "y") None (Some (whole 5)) 2 Continuous
      ∷ variable (codes "Constant") (Some (whole 1)) (Some (whole 1)) 3 Continuous ∷ [];
  rows = record { name = codes "c0"; sense = Less; rhs = whole 4; terms = record { var = 0; coef = whole 1 } ∷ record { var = 1; coef = whole 1 } ∷ [] } ∷ [];
}

plan_text : canonical_text plan ≡ codes "Maximize\n + 1 x + 2 y + 3 Constant\nSubject To\n c0: + 1 x + 1 y <= 4\nBounds\n -infinity <= y <= 5\n Constant = 1\nGenerals\n x\nEnd\n"
unfolding digits
plan_text = refl

empty_text : canonical_text (record { direction = Minimize; constant = zero_value; vars = []; rows = [] }) ≡ codes "Minimize\n \nSubject To\nEnd\n"
empty_text = refl
