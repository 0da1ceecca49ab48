-- The productions from the objective word to the constraints word. Each says what may come next, and what that tells.
use Rattle.std.specs.Prelude.{ℕ, Bool, true, false, List, codes, Result, Ok, Err, if◌then◌else◌}
use Rattle.std.specs.Str.{str_eq_ignore_ascii_case}
use Rattle.base_names.specs.declared.refusal.FaultWord.TheVariants.{NoSection, Number as bad_number, Size, Word}
use Rattle.frac128.specs.Checked.{◌>>=◌}
use Rattle.frac128.specs.Fraction.{Fraction}
use Rattle.model_data.specs.declared.model.Direction.TheVariants.{Minimize as minimizing, Maximize as maximizing}
use Rattle.model_data.specs.declared.model.Model.{Model}
use Rattle.lp_defs.specs.declared.fault.ModelFault.{ModelFault}
use Rattle.lp_defs.specs.declared.token.SectionWord.{SectionWord}
use Rattle.lp_defs.specs.declared.token.SectionWord.TheVariants.{Minimize, Maximize, Subject, Such, Constraints}
use Rattle.lp_defs.specs.Draft.{blank, objective_sum, with_constant, with_objective}
use Rattle.lp_defs.specs.Quantity.{under_sign, unit, value_of}
use Rattle.lp_defs.specs.Stage.{Stage, objective_start, objective_title, objective_first, objective_sign, objective_number, objective_next, second_word, rows_start}
use Rattle.lp_defs.specs.Symbols.{Quantity, Spot, Symbol, sign, colon, number, keyword, label, name, fault_at, or_fault}

-- A term. A sum that doesn't fit is at fault at the number, and a variable past the limit at its name.
pub record Summand : Type 0 where
  -- the name's spot where no number is written
  pub number_spot : Spot
  pub coefficient : Fraction
  pub name_spot : Spot
  pub text : List ℕ

-- a term without a number
abbrev pub lone_name : Bool → Spot → List ℕ → Summand
lone_name negative spot text = record { number_spot = spot; coefficient = unit negative; name_spot = spot; text = text }

-- a term with a number
abbrev pub numbered_name : Spot → Fraction → Spot → List ℕ → Summand
numbered_name number_spot x spot text = record { number_spot = number_spot; coefficient = x; name_spot = spot; text = text }

abbrev pub add_to_objective : Summand → Model → Result Model ModelFault
add_to_objective s m = do
  sum ← or_fault s.number_spot bad_number (objective_sum s.text s.coefficient m)
  or_fault s.name_spot Size (with_objective s.text sum m)

-- a number without a name
abbrev pub add_to_constant : Spot → Fraction → Model → Result Model ModelFault
add_to_constant spot x m = or_fault spot bad_number (with_constant x m)

-- A text begins with an objective word.
abbrev pub after_start : Spot → Symbol → Result Stage ModelFault
after_start spot (keyword Minimize) = Ok (objective_start (blank minimizing))
after_start spot (keyword Maximize) = Ok (objective_start (blank maximizing))
after_start spot symbol = Err (fault_at spot NoSection)

-- A section word behind a whole objective: the constraints word, and no other one.
abbrev pub after_objective : Spot → SectionWord → Model → Result Stage ModelFault
after_objective spot Constraints m = Ok (rows_start m)
after_objective spot Subject m = Ok (second_word (codes "to") m)
after_objective spot Such m = Ok (second_word (codes "that") m)
after_objective spot word m = Err (fault_at spot NoSection)

-- The constraints word may have two parts.
abbrev pub after_second_word : List ℕ → Spot → Symbol → Model → Result Stage ModelFault
after_second_word wanted spot (name text) m = if str_eq_ignore_ascii_case wanted text then Ok (rows_start m) else Err (fault_at spot Word)
after_second_word wanted spot symbol m = Err (fault_at spot Word)

abbrev pub objective_term : Summand → Model → Result Stage ModelFault
objective_term summand m = do
  told ← add_to_objective summand m
  Ok (objective_next told)

-- a number, with the sign in front of it
abbrev pub objective_amount : Bool → Spot → Quantity → Model → Result Stage ModelFault
objective_amount negative spot quantity m = do
  x ← or_fault spot bad_number (value_of (under_sign negative quantity))
  Ok (objective_number spot x m)

-- A sign stands before a number or a name.
abbrev pub after_objective_sign : Bool → Spot → Symbol → Model → Result Stage ModelFault
after_objective_sign negative spot (number signed quantity) m = objective_amount negative spot quantity m
after_objective_sign negative spot (name text) m = objective_term (lone_name negative spot text) m
after_objective_sign negative spot symbol m = Err (fault_at spot Word)

-- A further term begins with a sign, or with a number that has one.
abbrev pub after_objective_term : Spot → Symbol → Model → Result Stage ModelFault
after_objective_term spot (sign negative) m = Ok (objective_sign negative m)
after_objective_term spot (number true quantity) m = objective_amount false spot quantity m
after_objective_term spot (keyword word) m = after_objective spot word m
after_objective_term spot symbol m = Err (fault_at spot Word)

-- The first term needs no sign.
abbrev pub after_objective_label : Spot → Symbol → Model → Result Stage ModelFault
after_objective_label spot (number signed quantity) m = objective_amount false spot quantity m
after_objective_label spot (name text) m = objective_term (lone_name false spot text) m
after_objective_label spot symbol m = after_objective_term spot symbol m

-- An objective may have a label, which is dropped.
abbrev pub after_objective_word : Spot → Symbol → Model → Result Stage ModelFault
after_objective_word spot (label text) m = Ok (objective_first m)
after_objective_word spot (name text) m = Ok (objective_title spot text m)
after_objective_word spot symbol m = after_objective_label spot symbol m

-- A name at the head of the objective that no colon follows is the first term.
abbrev pub settle_objective_title : Spot → List ℕ → Model → Result Model ModelFault
settle_objective_title title_spot title m = add_to_objective (lone_name false title_spot title) m

abbrev pub after_objective_title : Spot → List ℕ → Spot → Symbol → Model → Result Stage ModelFault
after_objective_title title_spot title spot colon m = Ok (objective_first m)
after_objective_title title_spot title spot symbol m = do
  told ← settle_objective_title title_spot title m
  after_objective_term spot symbol told

-- A name behind a number is its term's. A number that no name follows is added to the constant.
abbrev pub after_objective_number : Spot → Fraction → Spot → Symbol → Model → Result Stage ModelFault
after_objective_number number_spot x spot (name text) m = objective_term (numbered_name number_spot x spot text) m
after_objective_number number_spot x spot symbol m = do
  told ← add_to_constant number_spot x m
  after_objective_term spot symbol told
