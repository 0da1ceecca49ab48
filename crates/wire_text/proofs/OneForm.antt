-- No words have the forms of two commands.
use Rattle.std.proofs.Common.{◌≡◌, ℕ, Bool, true, false, List, [], ◌∷◌, ◌++◌, Option, Some, None, refl, sym, ap, ◌∙◌}
use Rattle.std.specs.Prelude.{IsSome, bytes_eq, if◌then◌else◌}
use Rattle.std.specs.Option.{option_and_then}
use Rattle.std.proofs.lemmas.Slice.Eq.{bytes_eq-Decides}
use Rattle.wire_text.specs.Commands.{behind, fit, made, said_as}
use Rattle.wire_text.specs.Forms.{called, form_of}
use Rattle.wire_text.specs.Reading.{verb_at}
use Rattle.wire_text.specs.declared.verb.Verb.{Verb}
use Rattle.wire_text.specs.declared.verb.Verb.TheVariants.{Batch, BStatus, Bye, Change, Get, Read, SetParam, Update, Write}
use Rattle.wire_text.specs.declared.verb.ChangeVerb.TheVariants as change
use Rattle.wire_text.specs.declared.verb.Query.TheVariants as query

-- words that have others behind a front begin with it
behind-some : (front words rest : List (List ℕ)) → behind front words ≡ Some rest → words ≡ front ++ rest
behind-some [] words rest h = cc
behind-some (first ∷ front) [] rest h = absurd cc
behind-some (first ∷ front) (word ∷ words) rest h = by_word (bytes_eq word first) refl h (behind-some front words rest)
  where
    by_word : (b : Bool) → bytes_eq word first ≡ b → (if b then behind front words else None) ≡ Some rest → (behind front words ≡ Some rest → words ≡ front ++ rest) → word ∷ words ≡ first ∷ (front ++ rest)
    by_word true is found later = ap (λ w. w ∷ words) ((bytes_eq-Decides word first).0 is) ∙ ap (λ ws. first ∷ ws) (later found)
    by_word false is found later = absurd cc

-- words that say something as a command begin with it
said_as-called : (v : Verb) (words : List (List ℕ)) → IsSome (said_as v words) → (rest : List (List ℕ)) × (words ≡ called v ++ rest)
said_as-called v words said = by_rest (behind (called v) words) refl said
  where
    by_rest : (found : Option (List (List ℕ))) → behind (called v) words ≡ found → IsSome (option_and_then (λ rest. if fit (form_of v).arguments rest then Some (made (form_of v).arguments (form_of v).makes rest) else None) found) → (rest : List (List ℕ)) × (words ≡ called v ++ rest)
    by_rest None is none = absurd cc
    by_rest (Some rest) is some = (rest, behind-some (called v) words rest is)

first_is : (p q : Verb × List (List ℕ)) → Some p ≡ Some q → p.0 ≡ q.0
first_is p q h = let same : p ≡ q = cc in ap (λ r. r.0) same

verb_at-called : (v : Verb) (rest : List (List ℕ)) → verb_at (called v ++ rest) ≡ Some (v, rest)
verb_at-called Read rest = refl
verb_at-called Update rest = refl
verb_at-called Write rest = refl
verb_at-called SetParam rest = refl
verb_at-called Batch rest = refl
verb_at-called BStatus rest = refl
verb_at-called Bye rest = refl
verb_at-called (Change change.AddVar) rest = refl
verb_at-called (Change change.AddConstr) rest = refl
verb_at-called (Change change.ChgCoeff) rest = refl
verb_at-called (Change change.SetObj) rest = refl
verb_at-called (Change change.SetRhs) rest = refl
verb_at-called (Change change.SetLb) rest = refl
verb_at-called (Change change.SetUb) rest = refl
verb_at-called (Change change.SetSense) rest = refl
verb_at-called (Change change.SetType) rest = refl
verb_at-called (Change change.SetVTag) rest = refl
verb_at-called (Change change.DelVar) rest = refl
verb_at-called (Change change.DelConstr) rest = refl
verb_at-called (Get query.Lb) rest = refl
verb_at-called (Get query.Ub) rest = refl
verb_at-called (Get query.Obj) rest = refl
verb_at-called (Get query.Type) rest = refl
verb_at-called (Get query.Rhs) rest = refl
verb_at-called (Get query.Sense) rest = refl
verb_at-called (Get query.Coeff) rest = refl
verb_at-called (Get query.VTag) rest = refl
verb_at-called (Get query.NumVars) rest = refl
verb_at-called (Get query.NumConstrs) rest = refl
verb_at-called (Get query.Param) rest = refl

pub one_form : (words : List (List ℕ)) (u v : Verb) → IsSome (said_as u words) → IsSome (said_as v words) → u ≡ v
one_form words u v said_u said_v =
    let at_u = said_as-called u words said_u in
    let at_v = said_as-called v words said_v in
    let same : ◌≡◌ {A = Option (Verb × List (List ℕ))} (Some (u, at_u.0)) (Some (v, at_v.0)) = sym (verb_at-called u at_u.0) ∙ (ap verb_at (sym at_u.1 ∙ at_v.1) ∙ verb_at-called v at_v.0) in
    first_is (u, at_u.0) (v, at_v.0) same
