-- Every command that is read is lawful.
use Rattle.std.proofs.Common.{◌≡◌, ℕ, Bool, true, false, List, [], ◌∷◌, Option, Some, None, Result, Ok, Err, refl, subst, arith}
use Rattle.std.specs.Prelude.{◌≤◌, IfOk, IfSome, bytes_eq, codes, nat_le, option_map, if◌then◌else◌}
use Rattle.std.specs.List.{list_any}
use Rattle.std.proofs.lemmas.Bool.Decides.{nat_tests}
use Rattle.frac128.specs.Checked.{◌>>=◌}
use Rattle.frac128.specs.Fraction.{Fraction}
use Rattle.frac128.specs.Numbers.{is_below_zero}
use Rattle.frac_text.specs.Reading.{reading}
use Rattle.frac_text.specs.declared.fault.NumFault.{NumFault}
use Rattle.frac_text.specs.declared.fault.NumFault.TheVariants.{NotNumber, TooWide}
use Rattle.base_names.specs.Decimal.{number_of}
use Rattle.base_names.specs.declared.refusal.Refusal.{Refusal}
use Rattle.base_names.specs.declared.refusal.Refusal.TheVariants.{LINE}
use Rattle.model_core.specs.declared.change.NamedTerm.{NamedTerm}
use Rattle.model_data.specs.Lawful.{IsBelowBoundSize}
use Rattle.model_data.specs.Names.{IsTag, is_tag}
use Rattle.wire_text.specs.Commands.{fit, made, terms_told}
use Rattle.wire_text.specs.Forms.{Arguments, Makes, form_of, nothing, pairs, ◌then◌}
use Rattle.wire_text.specs.Kinds.{Bound, Kind, Value, batch, block_size, bound_of, bound_told, comparison, finite, infinite, is_far, kind, lower, lower_told, name, number, or_line, parameter, size, tag, told, upper, upper_told, whole}
use Rattle.wire_text.specs.Lawful.{IsLawfulCommand}
use Rattle.wire_text.specs.Reading.{read_behind}
use Rattle.wire_text.specs.declared.limits.TheConstants.{BLOCK_LIMIT}
use Rattle.wire_text.specs.declared.verb.Verb.{Verb}
use Rattle.wire_text.specs.declared.verb.Verb.TheVariants.{Batch, BStatus, Bye, Change, Get, Read, SetParam, Update, Write}
use Rattle.wire_text.specs.declared.verb.ChangeVerb.TheVariants as change
use Rattle.wire_text.specs.declared.verb.Query.TheVariants as query

pub ok_is : {A : Type 0} (x y : A) → ◌≡◌ {A = Result A Refusal} (Ok x) (Ok y) → x ≡ y
ok_is x y h = cc

-- A finite bound is below 10 ^ 20 in size.
near_is : (x : Fraction) → is_far x ≡ false → IsBelowBoundSize x
near_is x h = grind (arith, nat_tests)

bound_told-near : (found : Result Fraction NumFault) (x : Fraction) → bound_told found ≡ Ok (finite x) → IsBelowBoundSize x
bound_told-near (Ok y) x h = by_far (is_far y) refl h
  where
    by_far : (b : Bool) → is_far y ≡ b → ◌≡◌ {A = Result Bound Refusal} (Ok (if b then infinite (is_below_zero y.num) else finite y)) (Ok (finite x)) → IsBelowBoundSize x
    by_far true is h = absurd cc
    by_far false is h = let same : y ≡ x = cc in subst IsBelowBoundSize same (near_is y is)
bound_told-near (Err NotNumber) x h = absurd cc
bound_told-near (Err (TooWide negative true)) x h = absurd cc
bound_told-near (Err (TooWide negative false)) x h = absurd cc

pub bound_of-near : (word : List ℕ) (x : Fraction) → bound_of word ≡ Ok (finite x) → IsBelowBoundSize x
bound_of-near word x h = by_words (list_any (bytes_eq word) (codes "inf" ∷ codes "infinity" ∷ [])) (list_any (bytes_eq word) (codes "-inf" ∷ codes "-infinity" ∷ [])) h
  where
    by_words : (above below : Bool) → (if above then Ok (infinite false) else (if below then Ok (infinite true) else bound_told (reading word))) ≡ Ok (finite x) → IsBelowBoundSize x
    by_words true below h = absurd cc
    by_words false true h = absurd cc
    by_words false false h = bound_told-near (reading word) x h

-- what holds of each finite bound that was found holds of a bound that is told
pub lower_told-finite : (P : Fraction → Type 0) (found : Result Bound Refusal) (v : Option Fraction) → ((x : Fraction) → found ≡ Ok (finite x) → P x) → lower_told found ≡ Ok v → IfSome v P
lower_told-finite P (Ok (finite x)) v holds h = subst (λ o. IfSome o P) (ok_is (Some x) v h) (holds x refl)
lower_told-finite P (Ok (infinite true)) v holds h = subst (λ o. IfSome o P) (ok_is None v h) tt
lower_told-finite P (Ok (infinite false)) v holds h = absurd cc
lower_told-finite P (Err refusal) v holds h = absurd cc

pub upper_told-finite : (P : Fraction → Type 0) (found : Result Bound Refusal) (v : Option Fraction) → ((x : Fraction) → found ≡ Ok (finite x) → P x) → upper_told found ≡ Ok v → IfSome v P
upper_told-finite P (Ok (finite x)) v holds h = subst (λ o. IfSome o P) (ok_is (Some x) v h) (holds x refl)
upper_told-finite P (Ok (infinite true)) v holds h = absurd cc
upper_told-finite P (Ok (infinite false)) v holds h = subst (λ o. IfSome o P) (ok_is None v h) tt
upper_told-finite P (Err refusal) v holds h = absurd cc

pub tag_is : (word v : List ℕ) (b : Bool) → is_tag word ≡ b → (if b then Ok word else Err LINE) ≡ Ok v → IsTag v
tag_is word v true is h = subst IsTag (ok_is word v h) is
tag_is word v false is h = absurd cc

size_is : (n : ℕ) (b : Bool) → nat_le n BLOCK_LIMIT ≡ b → IfSome (if b then Some n else None) (λ k. k ≤ BLOCK_LIMIT)
size_is n true is = grind (arith, nat_tests)
size_is n false is = tt

pub size_told : (n : Option ℕ) (v : Option ℕ) → or_line (option_map block_size n) ≡ Ok v → IfSome v (λ k. k ≤ BLOCK_LIMIT)
size_told None v h = absurd cc
size_told (Some n) v h = subst (λ o. IfSome o (λ k. k ≤ BLOCK_LIMIT)) (ok_is (block_size n) v h) (size_is n (nat_le n BLOCK_LIMIT) refl)

-- what holds of an argument's value
abbrev IsTold : (argument : Kind) → Value argument → Type 0
IsTold lower v = IfSome v IsBelowBoundSize
IsTold upper v = IfSome v IsBelowBoundSize
IsTold tag v = IsTag v
IsTold size v = IfSome v (λ k. k ≤ BLOCK_LIMIT)
IsTold name v = Unit {0}
IsTold number v = Unit {0}
IsTold whole v = Unit {0}
IsTold comparison v = Unit {0}
IsTold kind v = Unit {0}
IsTold parameter v = Unit {0}
IsTold batch v = Unit {0}

told-is : (argument : Kind) (word : List ℕ) (v : Value argument) → told argument word ≡ Ok v → IsTold argument v
told-is lower word v h = lower_told-finite IsBelowBoundSize (bound_of word) v (bound_of-near word) h
told-is upper word v h = upper_told-finite IsBelowBoundSize (bound_of word) v (bound_of-near word) h
told-is tag word v h = tag_is word v (is_tag word) refl h
told-is size word v h = size_told (number_of word) v h
told-is name word v h = tt
told-is number word v h = tt
told-is whole word v h = tt
told-is comparison word v h = tt
told-is kind word v h = tt
told-is parameter word v h = tt
told-is batch word v h = tt

-- whatever the arguments tell, the command is lawful
abbrev MakesLawful : (arguments : Arguments) → Makes arguments → Type 0
MakesLawful nothing command = IsLawfulCommand command
MakesLawful pairs makes = (terms : List NamedTerm) → IsLawfulCommand (makes terms)
MakesLawful (argument then rest) makes = (value : Value argument) → IsTold argument value → MakesLawful rest (makes value)

made-lawful : (arguments : Arguments) (makes : Makes arguments) → MakesLawful arguments makes → (words : List (List ℕ)) → IfOk (made arguments makes words) IsLawfulCommand
made-lawful nothing command lawful words = lawful
made-lawful pairs makes lawful words = by_terms (terms_told words)
  where
    by_terms : (terms : Result (List NamedTerm) Refusal) → IfOk (terms >>= λ told. Ok (makes told)) IsLawfulCommand
    by_terms (Ok told) = lawful told
    by_terms (Err refusal) = tt
made-lawful (argument then rest) makes lawful [] = tt
made-lawful (argument then rest) makes lawful (word ∷ words) =
    by_value (told argument word) (told-is argument word) (λ value is. made-lawful rest (makes value) (lawful value is) words)
  where
    by_value : (tells : Result (Value argument) Refusal) → ((value : Value argument) → tells ≡ Ok value → IsTold argument value) → ((value : Value argument) → IsTold argument value → IfOk (made rest (makes value) words) IsLawfulCommand) → IfOk (tells >>= λ value. made rest (makes value) words) IsLawfulCommand
    by_value (Ok value) is each = each value (is value refl)
    by_value (Err refusal) is each = tt

behind-lawful : (v : Verb) (rest : List (List ℕ)) → MakesLawful (form_of v).arguments (form_of v).makes → IfOk (read_behind v rest) IsLawfulCommand
behind-lawful v rest lawful = by_test (fit (form_of v).arguments rest)
  where
    by_test : (b : Bool) → IfOk (if b then made (form_of v).arguments (form_of v).makes rest else Err LINE) IsLawfulCommand
    by_test true = made-lawful (form_of v).arguments (form_of v).makes lawful rest
    by_test false = tt

pub read_behind-lawful : (v : Verb) (rest : List (List ℕ)) → IfOk (read_behind v rest) IsLawfulCommand
read_behind-lawful Read rest = behind-lawful Read rest (λ k short. short)
read_behind-lawful Update rest = behind-lawful Update rest (tt)
read_behind-lawful Write rest = behind-lawful Write rest (tt)
read_behind-lawful SetParam rest = behind-lawful SetParam rest (λ p _ v _. tt)
read_behind-lawful Batch rest = behind-lawful Batch rest (tt)
read_behind-lawful BStatus rest = behind-lawful BStatus rest (λ id _. tt)
read_behind-lawful Bye rest = behind-lawful Bye rest (tt)
read_behind-lawful (Change change.AddVar) rest = behind-lawful (Change change.AddVar) rest (λ n _ l low u high x _ k _. (low, high, tt))
read_behind-lawful (Change change.AddConstr) rest = behind-lawful (Change change.AddConstr) rest (λ n _ s _ x _ terms. tt)
read_behind-lawful (Change change.ChgCoeff) rest = behind-lawful (Change change.ChgCoeff) rest (λ row _ n _ x _. tt)
read_behind-lawful (Change change.SetObj) rest = behind-lawful (Change change.SetObj) rest (λ n _ x _. tt)
read_behind-lawful (Change change.SetRhs) rest = behind-lawful (Change change.SetRhs) rest (λ n _ x _. tt)
read_behind-lawful (Change change.SetLb) rest = behind-lawful (Change change.SetLb) rest (λ n _ l low. low)
read_behind-lawful (Change change.SetUb) rest = behind-lawful (Change change.SetUb) rest (λ n _ u high. high)
read_behind-lawful (Change change.SetSense) rest = behind-lawful (Change change.SetSense) rest (λ n _ s _. tt)
read_behind-lawful (Change change.SetType) rest = behind-lawful (Change change.SetType) rest (λ n _ k _. tt)
read_behind-lawful (Change change.SetVTag) rest = behind-lawful (Change change.SetVTag) rest (λ n _ t tag. tag)
read_behind-lawful (Change change.DelVar) rest = behind-lawful (Change change.DelVar) rest (λ n _. tt)
read_behind-lawful (Change change.DelConstr) rest = behind-lawful (Change change.DelConstr) rest (λ n _. tt)
read_behind-lawful (Get query.Lb) rest = behind-lawful (Get query.Lb) rest (λ n _. tt)
read_behind-lawful (Get query.Ub) rest = behind-lawful (Get query.Ub) rest (λ n _. tt)
read_behind-lawful (Get query.Obj) rest = behind-lawful (Get query.Obj) rest (λ n _. tt)
read_behind-lawful (Get query.Type) rest = behind-lawful (Get query.Type) rest (λ n _. tt)
read_behind-lawful (Get query.Rhs) rest = behind-lawful (Get query.Rhs) rest (λ n _. tt)
read_behind-lawful (Get query.Sense) rest = behind-lawful (Get query.Sense) rest (λ n _. tt)
read_behind-lawful (Get query.Coeff) rest = behind-lawful (Get query.Coeff) rest (λ row _ n _. tt)
read_behind-lawful (Get query.VTag) rest = behind-lawful (Get query.VTag) rest (λ n _. tt)
read_behind-lawful (Get query.NumVars) rest = behind-lawful (Get query.NumVars) rest (tt)
read_behind-lawful (Get query.NumConstrs) rest = behind-lawful (Get query.NumConstrs) rest (tt)
read_behind-lawful (Get query.Param) rest = behind-lawful (Get query.Param) rest (λ n _. tt)
