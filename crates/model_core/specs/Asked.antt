-- What has to hold of a change that is to be made, and what holds of each in memory.
use Rattle.std.specs.Prelude.{All, IfSome}
use Rattle.frac128.specs.Lowest.{IsKept}
use Rattle.model_data.specs.Kept.{IsKeptVar}
use Rattle.model_data.specs.Lawful.{IsBelowBoundSize}
use Rattle.model_data.specs.Names.{IsTag}
use Rattle.model_core.specs.declared.change.Change.{Change}
use Rattle.model_core.specs.declared.change.Change.TheVariants.{AddVar, AddConstr, ChgCoeff, SetLb, SetUb, SetObj, SetRhs, SetSense, SetKind, SetTag, DelVar, DelConstr}

-- Finite bounds are below 10 ^ 20 in size, and a tag is one.
abbrev pub IsLawfulChange : Change → Type 0
IsLawfulChange (AddVar v) = IfSome v.lower IsBelowBoundSize × IfSome v.upper IsBelowBoundSize × IfSome v.tag IsTag
IsLawfulChange (SetLb name bound) = IfSome bound IsBelowBoundSize
IsLawfulChange (SetUb name bound) = IfSome bound IsBelowBoundSize
IsLawfulChange (SetTag name tag) = IsTag tag
IsLawfulChange (AddConstr name sense rhs terms) = Unit {0}
IsLawfulChange (ChgCoeff row var x) = Unit {0}
IsLawfulChange (SetObj name x) = Unit {0}
IsLawfulChange (SetRhs name x) = Unit {0}
IsLawfulChange (SetSense name sense) = Unit {0}
IsLawfulChange (SetKind name kind) = Unit {0}
IsLawfulChange (DelVar name) = Unit {0}
IsLawfulChange (DelConstr name) = Unit {0}

-- Each number is in lowest terms, with both parts below the limit in size. A change in memory has no other ones.
abbrev pub HasKeptNumbersOf : Change → Type 0
HasKeptNumbersOf (AddVar v) = IsKeptVar v
HasKeptNumbersOf (AddConstr name sense rhs terms) = IsKept rhs × All (λ t. IsKept t.coef) terms
HasKeptNumbersOf (ChgCoeff row var x) = IsKept x
HasKeptNumbersOf (SetLb name bound) = IfSome bound IsKept
HasKeptNumbersOf (SetUb name bound) = IfSome bound IsKept
HasKeptNumbersOf (SetObj name x) = IsKept x
HasKeptNumbersOf (SetRhs name x) = IsKept x
HasKeptNumbersOf (SetSense name sense) = Unit {0}
HasKeptNumbersOf (SetKind name kind) = Unit {0}
HasKeptNumbersOf (SetTag name tag) = Unit {0}
HasKeptNumbersOf (DelVar name) = Unit {0}
HasKeptNumbersOf (DelConstr name) = Unit {0}
