-- The forms of lines: what a command is called, which arguments stand behind that, and which command they give.
use Rattle.std.specs.Prelude.{ℕ, List, [], ◌∷◌, ◌++◌, map, codes, Option, None}
use Rattle.frac128.specs.Fraction.{Fraction}
use Rattle.model_core.specs.declared.change.Change.TheVariants.{AddVar, AddConstr, ChgCoeff, SetLb, SetUb, SetObj, SetRhs, SetSense, SetKind, SetTag, DelVar, DelConstr}
use Rattle.model_core.specs.declared.change.NamedTerm.{NamedTerm}
use Rattle.model_data.specs.declared.model.Var.{Var}
use Rattle.model_data.specs.declared.model.VarKind.{VarKind}
use Rattle.wire_text.specs.Kinds.{Kind, name, number, whole, lower, upper, comparison, kind, tag, parameter, size, batch, Value}
use Rattle.wire_text.specs.declared.command.Command.{Command}
use Rattle.wire_text.specs.declared.command.Command.TheVariants.{Read, Queue, Update, GetLb, GetUb, GetObj, GetType, GetRhs, GetSense, GetCoeff, GetVTag, GetNumVars, GetNumConstrs, GetParam, Write, SetParam, Batch, BStatus, Bye}
use Rattle.wire_text.specs.declared.verb.Verb.{Verb}
use Rattle.wire_text.specs.declared.verb.Verb.TheVariants as verb
use Rattle.wire_text.specs.declared.verb.ChangeVerb.{ChangeVerb}
use Rattle.wire_text.specs.declared.verb.ChangeVerb.TheVariants as change
use Rattle.wire_text.specs.declared.verb.Query.{Query}
use Rattle.wire_text.specs.declared.verb.Query.TheVariants as query

-- What stands behind a command: nothing more, or pairs of a number and a name up to the line's end, or an argument and
-- then the rest.
infixr 5 ◌then◌
pub data Arguments : Type 0 where
  nothing : Arguments
  pairs : Arguments
  ◌then◌ : Kind → Arguments → Arguments

-- how a command is made of what the arguments tell
abbrev pub Makes : Arguments → Type 0
Makes nothing = Command
Makes pairs = List NamedTerm → Command
Makes (argument then rest) = Value argument → Makes rest

-- the word that a command has to itself, its arguments, and the command that they make
pub record Form : Type 0 where
  pub word : List ℕ
  pub arguments : Arguments
  pub makes : Makes arguments

abbrev pub form : (word : List ℕ) (arguments : Arguments) → Makes arguments → Form
form word arguments makes = record { word = word; arguments = arguments; makes = makes }

abbrev pub new_var : List ℕ → Option Fraction → Option Fraction → Fraction → VarKind → Var
new_var called low high obj of_kind = record { name = called; lower = low; upper = high; obj = obj; kind = of_kind; tag = None }

-- The changes of a model. The pairs of `ADDCONSTR` are coefficients with their variables, and `CHGCOEFF` names the row
-- and then the variable.
abbrev pub change_form : ChangeVerb → Form
change_form change.AddVar = form (codes "ADDVAR") (name then lower then upper then number then kind then nothing) (λ n l u x k. Queue (AddVar (new_var n l u x k)))
change_form change.AddConstr = form (codes "ADDCONSTR") (name then comparison then number then pairs) (λ n s x terms. Queue (AddConstr n s x terms))
change_form change.ChgCoeff = form (codes "CHGCOEFF") (name then name then number then nothing) (λ row n x. Queue (ChgCoeff row n x))
change_form change.SetObj = form (codes "SETOBJ") (name then number then nothing) (λ n x. Queue (SetObj n x))
change_form change.SetRhs = form (codes "SETRHS") (name then number then nothing) (λ n x. Queue (SetRhs n x))
change_form change.SetLb = form (codes "SETLB") (name then lower then nothing) (λ n l. Queue (SetLb n l))
change_form change.SetUb = form (codes "SETUB") (name then upper then nothing) (λ n u. Queue (SetUb n u))
change_form change.SetSense = form (codes "SETSENSE") (name then comparison then nothing) (λ n s. Queue (SetSense n s))
change_form change.SetType = form (codes "SETTYPE") (name then kind then nothing) (λ n k. Queue (SetKind n k))
change_form change.SetVTag = form (codes "SETVTAG") (name then tag then nothing) (λ n t. Queue (SetTag n t))
change_form change.DelVar = form (codes "DELVAR") (name then nothing) (λ n. Queue (DelVar n))
change_form change.DelConstr = form (codes "DELCONSTR") (name then nothing) (λ n. Queue (DelConstr n))

-- What is asked of the model and of the parameters, each behind `GET`. `COEFF` names the row and then the variable.
abbrev pub query_form : Query → Form
query_form query.Lb = form (codes "LB") (name then nothing) (λ n. GetLb n)
query_form query.Ub = form (codes "UB") (name then nothing) (λ n. GetUb n)
query_form query.Obj = form (codes "OBJ") (name then nothing) (λ n. GetObj n)
query_form query.Type = form (codes "TYPE") (name then nothing) (λ n. GetType n)
query_form query.Rhs = form (codes "RHS") (name then nothing) (λ n. GetRhs n)
query_form query.Sense = form (codes "SENSE") (name then nothing) (λ n. GetSense n)
query_form query.Coeff = form (codes "COEFF") (name then name then nothing) (λ row n. GetCoeff row n)
query_form query.VTag = form (codes "VTAG") (name then nothing) (λ n. GetVTag n)
query_form query.NumVars = form (codes "NUMVARS") nothing GetNumVars
query_form query.NumConstrs = form (codes "NUMCONSTRS") nothing GetNumConstrs
query_form query.Param = form (codes "PARAM") (parameter then nothing) (λ p. GetParam p)

abbrev pub form_of : Verb → Form
form_of verb.Read = form (codes "READ") (size then nothing) (λ k. Read k)
form_of (verb.Change c) = change_form c
form_of verb.Update = form (codes "UPDATE") nothing Update
form_of (verb.Get q) = query_form q
form_of verb.Write = form (codes "WRITE") nothing Write
form_of verb.SetParam = form (codes "SETPARAM") (parameter then whole then nothing) (λ p v. SetParam p v)
form_of verb.Batch = form (codes "BATCH") nothing Batch
form_of verb.BStatus = form (codes "BSTATUS") (batch then nothing) (λ id. BStatus id)
form_of verb.Bye = form (codes "BYE") nothing Bye

abbrev pub changes : List ChangeVerb
changes =
    change.AddVar ∷ change.AddConstr ∷ change.ChgCoeff ∷ change.SetObj ∷ change.SetRhs ∷ change.SetLb ∷ change.SetUb
    ∷ change.SetSense ∷ change.SetType ∷ change.SetVTag ∷ change.DelVar ∷ change.DelConstr ∷ []

abbrev pub queries : List Query
queries =
    query.Lb ∷ query.Ub ∷ query.Obj ∷ query.Type ∷ query.Rhs ∷ query.Sense ∷ query.Coeff ∷ query.VTag ∷ query.NumVars
    ∷ query.NumConstrs ∷ query.Param ∷ []

abbrev pub plain_verbs : List Verb
plain_verbs = verb.Read ∷ verb.Update ∷ verb.Write ∷ verb.SetParam ∷ verb.Batch ∷ verb.BStatus ∷ verb.Bye ∷ []

abbrev pub verbs : List Verb
verbs = plain_verbs ++ map (λ c. verb.Change c) changes ++ map (λ q. verb.Get q) queries

-- the words with which a command begins
abbrev pub called : Verb → List (List ℕ)
called (verb.Get q) = codes "GET" ∷ (query_form q).word ∷ []
called (verb.Change c) = (change_form c).word ∷ []
called v = (form_of v).word ∷ []
