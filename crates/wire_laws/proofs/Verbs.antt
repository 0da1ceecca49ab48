-- Commands and calls: each says the other.
use Rattle.std.proofs.Common.{◌≡◌, true, refl, sym, ap}
use Rattle.std.specs.List.{list_all}
use Rattle.model_core.specs.declared.change.Change.TheVariants.{AddVar, AddConstr, ChgCoeff, SetLb, SetUb, SetObj, SetRhs, SetSense, SetKind, SetTag, DelVar, DelConstr}
use Rattle.wire_laws.specs.Written.{Call, HasLine, HaveWords, IsUntagged, Values, call_of, is_one_word}
use Rattle.wire_text.specs.Forms.{Arguments, Makes, called, form_of, nothing, pairs, ◌then◌}
use Rattle.wire_text.specs.declared.command.Command.{Command}
use Rattle.wire_text.specs.declared.command.Command.TheVariants.{Read, Queue, Update, GetLb, GetUb, GetObj, GetType, GetRhs, GetSense, GetCoeff, GetVTag, GetNumVars, GetNumConstrs, GetParam, Write, SetParam, Batch, BStatus, Bye}
use Rattle.wire_text.specs.declared.verb.Verb.{Verb}
use Rattle.wire_text.specs.declared.verb.Verb.TheVariants as verb
use Rattle.wire_text.specs.declared.verb.ChangeVerb.TheVariants as change
use Rattle.wire_text.specs.declared.verb.Query.TheVariants as query

-- what is made of the arguments' values
abbrev pub make : (arguments : Arguments) → Makes arguments → Values arguments → Command
make nothing command values = command
make pairs makes terms = makes terms
make (argument then rest) makes values = make rest (makes values.0) values.1

abbrev pub made_by : (v : Verb) → Values (form_of v).arguments → Command
made_by v values = make (form_of v).arguments (form_of v).makes values

-- the command of a call
abbrev pub command_for : Call → Command
command_for c = made_by c.asks c.values

pub called_words : (v : Verb) → list_all is_one_word (called v) ≡ true
called_words verb.Read = refl
called_words verb.Update = refl
called_words verb.Write = refl
called_words verb.SetParam = refl
called_words verb.Batch = refl
called_words verb.BStatus = refl
called_words verb.Bye = refl
called_words (verb.Change change.AddVar) = refl
called_words (verb.Change change.AddConstr) = refl
called_words (verb.Change change.ChgCoeff) = refl
called_words (verb.Change change.SetObj) = refl
called_words (verb.Change change.SetRhs) = refl
called_words (verb.Change change.SetLb) = refl
called_words (verb.Change change.SetUb) = refl
called_words (verb.Change change.SetSense) = refl
called_words (verb.Change change.SetType) = refl
called_words (verb.Change change.SetVTag) = refl
called_words (verb.Change change.DelVar) = refl
called_words (verb.Change change.DelConstr) = refl
called_words (verb.Get query.Lb) = refl
called_words (verb.Get query.Ub) = refl
called_words (verb.Get query.Obj) = refl
called_words (verb.Get query.Type) = refl
called_words (verb.Get query.Rhs) = refl
called_words (verb.Get query.Sense) = refl
called_words (verb.Get query.Coeff) = refl
called_words (verb.Get query.VTag) = refl
called_words (verb.Get query.NumVars) = refl
called_words (verb.Get query.NumConstrs) = refl
called_words (verb.Get query.Param) = refl

-- a call says all of a command that has no tag
pub called_again : (command : Command) → IsUntagged command → command_for (call_of command) ≡ command
called_again (Read k) h = refl
called_again (Queue (AddVar v)) h = ap (λ t. Queue (AddVar (record v { tag = t }))) (sym h)
called_again (Queue (AddConstr n sense x terms)) h = refl
called_again (Queue (ChgCoeff row n x)) h = refl
called_again (Queue (SetObj n x)) h = refl
called_again (Queue (SetRhs n x)) h = refl
called_again (Queue (SetLb n bound)) h = refl
called_again (Queue (SetUb n bound)) h = refl
called_again (Queue (SetSense n sense)) h = refl
called_again (Queue (SetKind n of_kind)) h = refl
called_again (Queue (SetTag n text)) h = refl
called_again (Queue (DelVar n)) h = refl
called_again (Queue (DelConstr n)) h = refl
called_again Update h = refl
called_again (GetLb n) h = refl
called_again (GetUb n) h = refl
called_again (GetObj n) h = refl
called_again (GetType n) h = refl
called_again (GetRhs n) h = refl
called_again (GetSense n) h = refl
called_again (GetCoeff row n) h = refl
called_again (GetVTag n) h = refl
called_again GetNumVars h = refl
called_again GetNumConstrs h = refl
called_again (GetParam p) h = refl
called_again Write h = refl
called_again (SetParam p n) h = refl
called_again Batch h = refl
called_again (BStatus id) h = refl
called_again Bye h = refl

-- and what a verb makes of values that have words has a line
pub has_line : (v : Verb) (values : Values (form_of v).arguments) → HaveWords (form_of v).arguments values → HasLine (made_by v values)
has_line verb.Read values h = record { words = h; untagged = tt }
has_line verb.Update values h = record { words = h; untagged = tt }
has_line verb.Write values h = record { words = h; untagged = tt }
has_line verb.SetParam values h = record { words = h; untagged = tt }
has_line verb.Batch values h = record { words = h; untagged = tt }
has_line verb.BStatus values h = record { words = h; untagged = tt }
has_line verb.Bye values h = record { words = h; untagged = tt }
has_line (verb.Change change.AddVar) values h = record { words = h; untagged = refl }
has_line (verb.Change change.AddConstr) values h = record { words = h; untagged = tt }
has_line (verb.Change change.ChgCoeff) values h = record { words = h; untagged = tt }
has_line (verb.Change change.SetObj) values h = record { words = h; untagged = tt }
has_line (verb.Change change.SetRhs) values h = record { words = h; untagged = tt }
has_line (verb.Change change.SetLb) values h = record { words = h; untagged = tt }
has_line (verb.Change change.SetUb) values h = record { words = h; untagged = tt }
has_line (verb.Change change.SetSense) values h = record { words = h; untagged = tt }
has_line (verb.Change change.SetType) values h = record { words = h; untagged = tt }
has_line (verb.Change change.SetVTag) values h = record { words = h; untagged = tt }
has_line (verb.Change change.DelVar) values h = record { words = h; untagged = tt }
has_line (verb.Change change.DelConstr) values h = record { words = h; untagged = tt }
has_line (verb.Get query.Lb) values h = record { words = h; untagged = tt }
has_line (verb.Get query.Ub) values h = record { words = h; untagged = tt }
has_line (verb.Get query.Obj) values h = record { words = h; untagged = tt }
has_line (verb.Get query.Type) values h = record { words = h; untagged = tt }
has_line (verb.Get query.Rhs) values h = record { words = h; untagged = tt }
has_line (verb.Get query.Sense) values h = record { words = h; untagged = tt }
has_line (verb.Get query.Coeff) values h = record { words = h; untagged = tt }
has_line (verb.Get query.VTag) values h = record { words = h; untagged = tt }
has_line (verb.Get query.NumVars) values h = record { words = h; untagged = tt }
has_line (verb.Get query.NumConstrs) values h = record { words = h; untagged = tt }
has_line (verb.Get query.Param) values h = record { words = h; untagged = tt }
