-- What a command over the text of a model answers, and what it did to its source and its sink, by its end. Which texts answer for
-- a model is told by a relation.
use Rattle.std.specs.Prelude.{ℕ, ◌≡◌, ◌≤◌, ◌<◌, ◌⊎◌, List, length, Option}
use Rattle.base_names.specs.Outside.{IsAtEnd, Writes}
use Rattle.base_names.specs.Prefix.{IsPrefix}
use Rattle.base_names.specs.declared.refusal.FaultWord.TheVariants.{Size}
use Rattle.model_data.specs.Size.{size_of}
use Rattle.model_data.specs.declared.limits.TheConstants.{MAX_SIZE}
use Rattle.model_data.specs.declared.model.Model.{Model}
use Rattle.lp_defs.specs.Text.{Spells, Stops}
use Rattle.lp_defs.specs.declared.fault.ModelFault.{ModelFault}
use Rattle.whole_input.specs.Whole.{Takes}
use Rattle.model_command.specs.declared.command.ModelEnd.{ModelEnd}
use Rattle.model_command.specs.declared.command.ModelEnd.TheVariants.{Done, NoModel, ReadFault, WriteFault, NoMemory, TooLong}
use Rattle.model_command.specs.declared.command.TheConstants.{TEXT_LIMIT}

-- ---- the answer to a text

-- which texts answer for a model
abbrev pub Relation : Type 1
Relation = Model → List ℕ → Type 0

-- The text spells the model, which is small enough to be solved.
pub record IsModelOf (text : List ℕ) (model : Model) : Type 0 where
  pub spells : Spells text model
  pub small : size_of model ≤ MAX_SIZE

pub record IsAnswered (is_answer : Relation) (text answer : List ℕ) : Type 0 where
  pub model : Model
  pub of_text : IsModelOf text model
  pub answers : is_answer model answer

-- A model that is too large is refused where its text begins.
abbrev pub too_large : ModelFault
too_large = record { line = 1; column = 1; fault = Size }

pub record IsTooLarge (text : List ℕ) : Type 0 where
  pub model : Model
  pub spells : Spells text model
  pub large : MAX_SIZE < size_of model

-- The text stops to be a model's with the fault, or its model is too large.
abbrev pub IsNoModel : List ℕ → ModelFault → Type 0
IsNoModel text fault = Stops text fault ⊎ (IsTooLarge text × (fault ≡ too_large))

-- what was written for a text that was taken whole
abbrev pub Answers : Relation → ModelEnd → List ℕ → (contents contents' : Option (List ℕ)) → Type 0
Answers is_answer Done text contents contents' = (answer : List ℕ) × IsAnswered is_answer text answer × Writes contents contents' answer
Answers is_answer (NoModel fault) text contents contents' = IsNoModel text fault × (contents' ≡ contents)
Answers is_answer WriteFault text contents contents' =
    (answer : List ℕ) × (front : List ℕ) × IsAnswered is_answer text answer × IsPrefix front answer × Writes contents contents' front
Answers is_answer NoMemory text contents contents' = contents' ≡ contents
Answers is_answer ReadFault text contents contents' = ⊥
Answers is_answer TooLong text contents contents' = ⊥

-- ---- the ends

-- the input was taken whole
pub record IsWhole (left left' : Option (List ℕ)) (taken : List ℕ) : Type 0 where
  pub takes : Takes TEXT_LIMIT left left' taken
  pub at_end : IsAtEnd left'
  pub allowed : length taken ≤ TEXT_LIMIT

abbrev pub Says : Relation → ModelEnd → (left left' contents contents' : Option (List ℕ)) → Type 0
Says is_answer Done left left' contents contents' = (taken : List ℕ) × IsWhole left left' taken × Answers is_answer Done taken contents contents'
Says is_answer (NoModel fault) left left' contents contents' = (taken : List ℕ) × IsWhole left left' taken × Answers is_answer (NoModel fault) taken contents contents'
Says is_answer WriteFault left left' contents contents' = (taken : List ℕ) × IsWhole left left' taken × Answers is_answer WriteFault taken contents contents'
Says is_answer TooLong left left' contents contents' =
    (taken : List ℕ) × Takes TEXT_LIMIT left left' taken × (TEXT_LIMIT < length taken) × (contents' ≡ contents)
Says is_answer ReadFault left left' contents contents' =
    (taken : List ℕ) × Takes TEXT_LIMIT left left' taken × (length taken ≤ TEXT_LIMIT) × (contents' ≡ contents)
Says is_answer NoMemory left left' contents contents' =
    (taken : List ℕ) × Takes TEXT_LIMIT left left' taken × (contents' ≡ contents)
