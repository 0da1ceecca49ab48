-- Which commands have a block behind their line: `READ` alone.
use Rattle.std.proofs.Common.{◌≡◌, ℕ, Bool, true, false, List, [], ◌∷◌, None, Result, Ok, Err, refl}
use Rattle.std.specs.Prelude.{if◌then◌else◌}
use Rattle.frac128.specs.Checked.{◌>>=◌}
use Rattle.base_names.specs.declared.refusal.Refusal.{Refusal}
use Rattle.base_names.specs.declared.refusal.Refusal.TheVariants.{LINE}
use Rattle.model_core.specs.declared.change.NamedTerm.{NamedTerm}
use Rattle.wire_text.specs.Commands.{block_len_of, fit, made, terms_told}
use Rattle.wire_text.specs.Forms.{Arguments, Makes, form_of, nothing, pairs, ◌then◌}
use Rattle.wire_text.specs.Kinds.{Value, told}
use Rattle.wire_text.specs.Reading.{read_behind}
use Rattle.wire_text.specs.declared.verb.Verb.{Verb}
use Rattle.wire_text.specs.declared.verb.Verb.TheVariants.{Batch, BStatus, Bye, Change, Get, Read, SetParam, Update, Write}
use Rattle.wire_text.specs.declared.verb.ChangeVerb.TheVariants as change
use Rattle.wire_text.specs.declared.verb.Query.TheVariants as query

-- whatever the arguments tell, the command has no block
abbrev NoBlock : (arguments : Arguments) → Makes arguments → Type 0
NoBlock nothing command = block_len_of (Ok command) ≡ None
NoBlock pairs makes = (terms : List NamedTerm) → block_len_of (Ok (makes terms)) ≡ None
NoBlock (argument then rest) makes = (value : Value argument) → NoBlock rest (makes value)

made-no_block : (arguments : Arguments) (makes : Makes arguments) → NoBlock arguments makes → (words : List (List ℕ)) → block_len_of (made arguments makes words) ≡ None
made-no_block nothing command none words = none
made-no_block pairs makes none words = by_terms (terms_told words)
  where
    by_terms : (terms : Result (List NamedTerm) Refusal) → block_len_of (terms >>= λ told. Ok (makes told)) ≡ None
    by_terms (Ok told) = none told
    by_terms (Err refusal) = refl
made-no_block (argument then rest) makes none [] = refl
made-no_block (argument then rest) makes none (word ∷ words) = by_value (told argument word) (λ value. made-no_block rest (makes value) (none value) words)
  where
    by_value : (tells : Result (Value argument) Refusal) → ((value : Value argument) → block_len_of (made rest (makes value) words) ≡ None) → block_len_of (tells >>= λ value. made rest (makes value) words) ≡ None
    by_value (Ok value) each = each value
    by_value (Err refusal) each = refl

behind-no_block : (v : Verb) (rest : List (List ℕ)) → NoBlock (form_of v).arguments (form_of v).makes → block_len_of (read_behind v rest) ≡ None
behind-no_block v rest none = by_test (fit (form_of v).arguments rest)
  where
    by_test : (b : Bool) → block_len_of (if b then made (form_of v).arguments (form_of v).makes rest else Err LINE) ≡ None
    by_test true = made-no_block (form_of v).arguments (form_of v).makes none rest
    by_test false = refl

pub read_behind-no_block : (v : Verb) (rest : List (List ℕ)) → (v ≡ Read → ⊥) → block_len_of (read_behind v rest) ≡ None
read_behind-no_block Read rest other = absurd (other refl)
read_behind-no_block Update rest other = behind-no_block Update rest (refl)
read_behind-no_block Write rest other = behind-no_block Write rest (refl)
read_behind-no_block SetParam rest other = behind-no_block SetParam rest (λ p v. refl)
read_behind-no_block Batch rest other = behind-no_block Batch rest (refl)
read_behind-no_block BStatus rest other = behind-no_block BStatus rest (λ id. refl)
read_behind-no_block Bye rest other = behind-no_block Bye rest (refl)
read_behind-no_block (Change change.AddVar) rest other = behind-no_block (Change change.AddVar) rest (λ n l u x k. refl)
read_behind-no_block (Change change.AddConstr) rest other = behind-no_block (Change change.AddConstr) rest (λ n s x terms. refl)
read_behind-no_block (Change change.ChgCoeff) rest other = behind-no_block (Change change.ChgCoeff) rest (λ row n x. refl)
read_behind-no_block (Change change.SetObj) rest other = behind-no_block (Change change.SetObj) rest (λ n x. refl)
read_behind-no_block (Change change.SetRhs) rest other = behind-no_block (Change change.SetRhs) rest (λ n x. refl)
read_behind-no_block (Change change.SetLb) rest other = behind-no_block (Change change.SetLb) rest (λ n x. refl)
read_behind-no_block (Change change.SetUb) rest other = behind-no_block (Change change.SetUb) rest (λ n x. refl)
read_behind-no_block (Change change.SetSense) rest other = behind-no_block (Change change.SetSense) rest (λ n x. refl)
read_behind-no_block (Change change.SetType) rest other = behind-no_block (Change change.SetType) rest (λ n x. refl)
read_behind-no_block (Change change.SetVTag) rest other = behind-no_block (Change change.SetVTag) rest (λ n x. refl)
read_behind-no_block (Change change.DelVar) rest other = behind-no_block (Change change.DelVar) rest (λ n. refl)
read_behind-no_block (Change change.DelConstr) rest other = behind-no_block (Change change.DelConstr) rest (λ n. refl)
read_behind-no_block (Get query.Lb) rest other = behind-no_block (Get query.Lb) rest (λ n. refl)
read_behind-no_block (Get query.Ub) rest other = behind-no_block (Get query.Ub) rest (λ n. refl)
read_behind-no_block (Get query.Obj) rest other = behind-no_block (Get query.Obj) rest (λ n. refl)
read_behind-no_block (Get query.Type) rest other = behind-no_block (Get query.Type) rest (λ n. refl)
read_behind-no_block (Get query.Rhs) rest other = behind-no_block (Get query.Rhs) rest (λ n. refl)
read_behind-no_block (Get query.Sense) rest other = behind-no_block (Get query.Sense) rest (λ n. refl)
read_behind-no_block (Get query.Coeff) rest other = behind-no_block (Get query.Coeff) rest (λ row n. refl)
read_behind-no_block (Get query.VTag) rest other = behind-no_block (Get query.VTag) rest (λ n. refl)
read_behind-no_block (Get query.NumVars) rest other = behind-no_block (Get query.NumVars) rest (refl)
read_behind-no_block (Get query.NumConstrs) rest other = behind-no_block (Get query.NumConstrs) rest (refl)
read_behind-no_block (Get query.Param) rest other = behind-no_block (Get query.Param) rest (λ n. refl)
