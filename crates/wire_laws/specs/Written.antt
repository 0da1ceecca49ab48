-- Each command as a line that gives it.
use Rattle.std.specs.Prelude.{◌≡◌, ◌+◌, ◌<◌, ◌≤◌, ℕ, Bool, ◌&&◌, not, true, List, [], ◌∷◌, ◌++◌, codes, decimal, unsigned_abs, Option, Some, None, IfSome}
use Rattle.std.specs.Fmt.{signed_decimal}
use Rattle.std.specs.List.{AllByRecursion, list_all}
use Rattle.base_names.specs.Id.{IsId, id_text}
use Rattle.frac128.specs.Fraction.{Fraction}
use Rattle.frac128.specs.Lowest.{IsKept}
use Rattle.frac128.specs.Numbers.{limit}
use Rattle.frac_text.specs.Writing.{canonical_text}
use Rattle.model_core.specs.declared.change.Change.{Change}
use Rattle.model_core.specs.declared.change.Change.TheVariants.{AddVar, AddConstr, ChgCoeff, SetLb, SetUb, SetObj, SetRhs, SetSense, SetKind, SetTag, DelVar, DelConstr}
use Rattle.model_core.specs.declared.change.NamedTerm.{NamedTerm}
use Rattle.model_data.specs.Lawful.{IsBelowBoundSize}
use Rattle.model_data.specs.Names.{IsName, IsTag}
use Rattle.wire_text.specs.Answers.{kind_word, sense_word}
use Rattle.wire_text.specs.Forms.{Arguments, called, form_of, nothing, pairs, ◌then◌}
use Rattle.wire_text.specs.Kinds.{Kind, Value, batch, comparison, kind, lower, name, number, parameter, size, tag, upper, whole}
use Rattle.wire_text.specs.Line.{is_blank, is_word}
use Rattle.wire_text.specs.declared.command.Command.{Command}
use Rattle.wire_text.specs.declared.command.Command.TheVariants.{Read, Queue, Update, GetLb, GetUb, GetObj, GetType, GetRhs, GetSense, GetCoeff, GetVTag, GetNumVars, GetNumConstrs, GetParam, Write, SetParam, Batch, BStatus, Bye}
use Rattle.wire_text.specs.declared.limits.TheConstants.{BLOCK_LIMIT}
use Rattle.wire_text.specs.declared.verb.Verb.{Verb}
use Rattle.wire_text.specs.declared.verb.Verb.TheVariants as verb
use Rattle.wire_text.specs.declared.verb.ChangeVerb.TheVariants as change
use Rattle.wire_text.specs.declared.verb.Query.TheVariants as query

-- a bound; where it is infinite, this word
abbrev pub bound_word : List ℕ → Option Fraction → List ℕ
bound_word infinite (Some x) = canonical_text x
bound_word infinite None = infinite

-- A block that is too long has the least length of those.
abbrev pub size_word : Option ℕ → List ℕ
size_word (Some k) = decimal k
size_word None = decimal (BLOCK_LIMIT + 1)

-- the word that tells a value in an argument's place
abbrev pub word_for : (argument : Kind) → Value argument → List ℕ
word_for name text = text
word_for number x = canonical_text x
word_for whole n = signed_decimal n
word_for lower bound = bound_word (codes "-inf") bound
word_for upper bound = bound_word (codes "inf") bound
word_for comparison sense = sense_word sense
word_for kind of_kind = kind_word of_kind
word_for tag text = text
word_for parameter text = text
word_for size k = size_word k
word_for batch id = id_text id

-- at least one byte, and no blank
abbrev pub is_one_word : List ℕ → Bool
is_one_word text = is_word text && list_all (λ byte. not (is_blank byte)) text

-- a finite bound, as a program keeps it
abbrev pub IsFiniteBound : Fraction → Type 0
IsFiniteBound x = IsKept x × IsBelowBoundSize x

-- The values that a word tells. Numbers are those that a program keeps, and a parameter's name may be any word.
abbrev pub HasWord : (argument : Kind) → Value argument → Type 0
HasWord name text = IsName text
HasWord number x = IsKept x
HasWord whole n = unsigned_abs n < limit
HasWord lower bound = IfSome bound IsFiniteBound
HasWord upper bound = IfSome bound IsFiniteBound
HasWord comparison sense = Unit {0}
HasWord kind of_kind = Unit {0}
HasWord tag text = IsTag text
HasWord parameter text = is_one_word text ≡ true
HasWord size k = IfSome k (λ k. k ≤ BLOCK_LIMIT)
HasWord batch id = IsId id

-- the values of a command's arguments
abbrev pub Values : Arguments → Type 0
Values nothing = Unit {0}
Values pairs = List NamedTerm
Values (argument then rest) = Value argument × Values rest

abbrev pub term_words : List NamedTerm → List (List ℕ)
term_words [] = []
term_words (t ∷ terms) = word_for number t.coef ∷ word_for name t.name ∷ term_words terms

-- the words that tell them
abbrev pub words_for : (arguments : Arguments) → Values arguments → List (List ℕ)
words_for nothing values = []
words_for pairs terms = term_words terms
words_for (argument then rest) values = word_for argument values.0 ∷ words_for rest values.1

abbrev pub HaveWords : (arguments : Arguments) → Values arguments → Type 0
HaveWords nothing values = Unit {0}
HaveWords pairs terms = AllByRecursion (λ t. HasWord number t.coef × HasWord name t.name) terms
HaveWords (argument then rest) values = HasWord argument values.0 × HaveWords rest values.1

-- what a command asks for, and the values of its arguments
pub record Call : Type 0 where
  pub asks : Verb
  pub values : Values (form_of asks).arguments

abbrev pub call : (v : Verb) → Values (form_of v).arguments → Call
call v values = record { asks = v; values = values }

abbrev pub change_call : Change → Call
change_call (AddVar v) = call (verb.Change change.AddVar) (v.name, (v.lower, (v.upper, (v.obj, (v.kind, tt)))))
change_call (AddConstr n sense x terms) = call (verb.Change change.AddConstr) (n, (sense, (x, terms)))
change_call (ChgCoeff row n x) = call (verb.Change change.ChgCoeff) (row, (n, (x, tt)))
change_call (SetObj n x) = call (verb.Change change.SetObj) (n, (x, tt))
change_call (SetRhs n x) = call (verb.Change change.SetRhs) (n, (x, tt))
change_call (SetLb n bound) = call (verb.Change change.SetLb) (n, (bound, tt))
change_call (SetUb n bound) = call (verb.Change change.SetUb) (n, (bound, tt))
change_call (SetSense n sense) = call (verb.Change change.SetSense) (n, (sense, tt))
change_call (SetKind n of_kind) = call (verb.Change change.SetType) (n, (of_kind, tt))
change_call (SetTag n text) = call (verb.Change change.SetVTag) (n, (text, tt))
change_call (DelVar n) = call (verb.Change change.DelVar) (n, tt)
change_call (DelConstr n) = call (verb.Change change.DelConstr) (n, tt)

abbrev pub call_of : Command → Call
call_of (Read k) = call verb.Read (k, tt)
call_of (Queue c) = change_call c
call_of Update = call verb.Update tt
call_of (GetLb n) = call (verb.Get query.Lb) (n, tt)
call_of (GetUb n) = call (verb.Get query.Ub) (n, tt)
call_of (GetObj n) = call (verb.Get query.Obj) (n, tt)
call_of (GetType n) = call (verb.Get query.Type) (n, tt)
call_of (GetRhs n) = call (verb.Get query.Rhs) (n, tt)
call_of (GetSense n) = call (verb.Get query.Sense) (n, tt)
call_of (GetCoeff row n) = call (verb.Get query.Coeff) (row, (n, tt))
call_of (GetVTag n) = call (verb.Get query.VTag) (n, tt)
call_of GetNumVars = call (verb.Get query.NumVars) tt
call_of GetNumConstrs = call (verb.Get query.NumConstrs) tt
call_of (GetParam p) = call (verb.Get query.Param) (p, tt)
call_of Write = call verb.Write tt
call_of (SetParam p n) = call verb.SetParam (p, (n, tt))
call_of Batch = call verb.Batch tt
call_of (BStatus id) = call verb.BStatus (id, tt)
call_of Bye = call verb.Bye tt

-- each word behind a blank
abbrev pub behind_blanks : List (List ℕ) → List ℕ
behind_blanks [] = []
behind_blanks (word ∷ words) = codes " " ++ (word ++ behind_blanks words)

-- words with a blank between each two
abbrev pub joined : List (List ℕ) → List ℕ
joined [] = []
joined (word ∷ words) = word ++ behind_blanks words

abbrev pub words_of_call : Call → List (List ℕ)
words_of_call c = called c.asks ++ words_for (form_of c.asks).arguments c.values

-- the line that is written for a command
abbrev pub line_for : Command → List ℕ
line_for command = joined (words_of_call (call_of command))

-- No form has a place for the tag of a new variable.
abbrev pub IsUntagged : Command → Type 0
IsUntagged (Queue (AddVar v)) = v.tag ≡ None
IsUntagged _ = Unit {0}

-- The commands that a line can say: each value has a word, and a new variable has no tag.
pub record HasLine (command : Command) : Type 0 where
  pub words : HaveWords (form_of (call_of command).asks).arguments (call_of command).values
  pub untagged : IsUntagged command
