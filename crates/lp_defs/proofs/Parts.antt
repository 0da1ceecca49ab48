-- Parts of readings: what stands behind a step, and what a chain of steps that succeeds has found on its way.
use Rattle.std.proofs.Common.{◌≡◌, refl, Bool, true, false, IsTrue, IsFalse, List, Option, Some, None, Result, Ok, Err, if◌then◌else◌}
use Rattle.base_names.specs.declared.refusal.FaultWord.{FaultWord}
use Rattle.frac128.specs.Checked.{◌>>=◌}
use Rattle.lp_defs.specs.declared.fault.ModelFault.{ModelFault}
use Rattle.model_data.specs.declared.model.Model.{Model}
use Rattle.lp_defs.specs.Reading.{reading_from}
use Rattle.lp_defs.specs.Stage.{Stage}
use Rattle.lp_defs.specs.Symbols.{Seen, Spot, or_fault}

-- the rest of a reading behind a step
abbrev pub goes_on : Result Stage ModelFault → List Seen → Spot → Result Model ModelFault
goes_on step xs end = step >>= λ next. reading_from next xs end

pub record Reads (stage : Stage) (xs : List Seen) (end : Spot) (r : Model) : Type 0 where
  pub ends : reading_from stage xs end ≡ Ok r

pub record Passes {A B : Type 0} (o : Result A ModelFault) (f : A → Result B ModelFault) (b : B) : Type 0 where
  pub value : A
  pub value_is : o ≡ Ok value
  pub rest : f value ≡ Ok b

pub passes : {A B : Type 0} (o : Result A ModelFault) (f : A → Result B ModelFault) (b : B) → (o >>= f) ≡ Ok b → Passes o f b
passes (Ok a) f b h = record { value = a; value_is = refl; rest = h }
passes (Err e) f b h = absurd cc

pub some_of : {A : Type 0} (spot : Spot) (fault : FaultWord) (o : Option A) {a : A} → or_fault spot fault o ≡ Ok a → o ≡ Some a
some_of spot fault (Some b) h = cc
some_of spot fault None h = absurd cc

pub first_branch : {A : Type 0} (b : Bool) (x y : A) → IsTrue b → (if b then x else y) ≡ x
first_branch true x y h = refl
first_branch false x y h = absurd cc

pub second_branch : {A : Type 0} (b : Bool) (x y : A) → IsFalse b → (if b then x else y) ≡ y
second_branch false x y h = refl
second_branch true x y h = absurd cc

pub record Chosen {A : Type 0} (b : Bool) (x a : A) : Type 0 where
  pub holds : IsTrue b
  pub value_is : x ≡ a

-- a choice between a value and a fault that gives a value
pub chosen : {A : Type 0} (b : Bool) (x a : A) (e : ModelFault) → (if b then Ok x else Err e) ≡ Ok a → Chosen b x a
chosen true x a e h = record { holds = refl; value_is = cc }
chosen false x a e h = absurd cc
