-- The productions of the sections behind the rows. Each says what may come next, and what that tells.
use Rattle.std.specs.Prelude.{ℕ, Bool, false, List, Result, Ok, Err, if◌then◌else◌}
use Rattle.base_names.specs.declared.refusal.FaultWord.TheVariants.{AfterEnd, Number as bad_number, Size, Word}
use Rattle.frac128.specs.Checked.{◌>>=◌}
use Rattle.model_data.specs.declared.model.Model.{Model}
use Rattle.model_data.specs.declared.model.Sense.{Sense}
use Rattle.model_data.specs.declared.model.Sense.TheVariants.{Less, Greater}
use Rattle.model_data.specs.declared.model.VarKind.{VarKind}
use Rattle.lp_defs.specs.declared.fault.ModelFault.{ModelFault}
use Rattle.lp_defs.specs.declared.token.SectionWord.TheVariants.{Free}
use Rattle.lp_defs.specs.Draft.{change_var, freed, mention, with_kind}
use Rattle.lp_defs.specs.Quantity.{Limit, limit_of, may_bound, turned, under_sign, with_bound}
use Rattle.lp_defs.specs.Rows.{after_rows}
use Rattle.lp_defs.specs.Stage.{Stage, bound_end, bound_middle, bound_name, bound_number, bound_side, bound_side_sign, bound_sign, bounds, kinds}
use Rattle.lp_defs.specs.Symbols.{Quantity, Spot, Symbol, sign, comparison, number, keyword, name, fault_at, or_fault}

-- the number before a bound's name, with the sign in front of it
abbrev pub first_limit : Bool → Spot → Quantity → Model → Result Stage ModelFault
first_limit negative spot quantity m = do
  limit ← or_fault spot bad_number (limit_of (under_sign negative quantity))
  Ok (bound_number spot limit m)

-- A bound begins with a name, a number, or a sign and a number. A later bound replaces an earlier one.
abbrev pub after_bound : Spot → Symbol → Model → Result Stage ModelFault
after_bound spot (name text) m = do
  known ← or_fault spot Size (mention text m)
  Ok (bound_name text known)
after_bound spot (sign negative) m = Ok (bound_sign negative m)
after_bound spot (number signed quantity) m = first_limit false spot quantity m
after_bound spot (keyword word) m = after_rows spot word m
after_bound spot symbol m = Err (fault_at spot Word)

-- A name that begins a bound stands before `free` or a comparison.
abbrev pub after_bound_name : List ℕ → Spot → Symbol → Model → Result Stage ModelFault
after_bound_name text spot (keyword Free) m = Ok (bounds (change_var text freed m))
after_bound_name text spot (comparison sense) m = Ok (bound_side sense text m)
after_bound_name text spot symbol m = Err (fault_at spot Word)

-- a bound on the side of the comparison, which its infinite number has to fit
abbrev pub last_limit : Bool → Sense → List ℕ → Spot → Quantity → Model → Result Stage ModelFault
last_limit negative sense text spot quantity m = do
  limit ← or_fault spot bad_number (limit_of (under_sign negative quantity))
  if may_bound sense limit then Ok (bounds (change_var text (with_bound sense limit) m)) else Err (fault_at spot bad_number)

abbrev pub after_bound_side_sign : Bool → Sense → List ℕ → Spot → Symbol → Model → Result Stage ModelFault
after_bound_side_sign negative sense text spot (number signed quantity) m = last_limit negative sense text spot quantity m
after_bound_side_sign negative sense text spot symbol m = Err (fault_at spot Word)

-- Behind a name and a comparison: one sign, or the number.
abbrev pub after_bound_side : Sense → List ℕ → Spot → Symbol → Model → Result Stage ModelFault
after_bound_side sense text spot (sign negative) m = Ok (bound_side_sign negative sense text m)
after_bound_side sense text spot (number signed quantity) m = last_limit false sense text spot quantity m
after_bound_side sense text spot symbol m = Err (fault_at spot Word)

abbrev pub after_bound_sign : Bool → Spot → Symbol → Model → Result Stage ModelFault
after_bound_sign negative spot (number signed quantity) m = first_limit negative spot quantity m
after_bound_sign negative spot symbol m = Err (fault_at spot Word)

-- Behind a bound's first number: a comparison. An infinite number that doesn't fit it is at fault at once.
abbrev pub after_bound_number : Spot → Limit → Spot → Symbol → Model → Result Stage ModelFault
after_bound_number number_spot limit spot (comparison sense) m =
    if may_bound (turned sense) limit then Ok (bound_middle limit sense m) else Err (fault_at number_spot bad_number)
after_bound_number number_spot limit spot symbol m = Err (fault_at spot Word)

-- Behind a number and a comparison: the name.
abbrev pub after_bound_middle : Limit → Sense → Spot → Symbol → Model → Result Stage ModelFault
after_bound_middle limit sense spot (name text) m = do
  known ← or_fault spot Size (mention text m)
  Ok (bound_end sense text (change_var text (with_bound (turned sense) limit) known))
after_bound_middle limit sense spot symbol m = Err (fault_at spot Word)

-- Behind a number, a comparison and a name twice less or twice greater makes a bound of both sides.
abbrev pub after_bound_end : Sense → List ℕ → Spot → Symbol → Model → Result Stage ModelFault
after_bound_end Less text spot (comparison Less) m = Ok (bound_side Less text m)
after_bound_end Greater text spot (comparison Greater) m = Ok (bound_side Greater text m)
after_bound_end sense text spot symbol m = after_bound spot symbol m

-- A list of names. A later section replaces the kind that an earlier one gave.
abbrev pub after_kind : VarKind → Spot → Symbol → Model → Result Stage ModelFault
after_kind kind spot (name text) m = do
  known ← or_fault spot Size (mention text m)
  Ok (kinds kind (change_var text (with_kind kind) known))
after_kind kind spot (keyword word) m = after_rows spot word m
after_kind kind spot symbol m = Err (fault_at spot Word)

-- Nothing follows `end`.
abbrev pub after_end : Spot → Result Stage ModelFault
after_end spot = Err (fault_at spot AfterEnd)
