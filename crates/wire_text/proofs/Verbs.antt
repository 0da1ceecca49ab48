-- The table of forms, searched from the first to the last, says what the command that the words begin with says.
use Rattle.std.proofs.Common.{◌≡◌, ◌⊎◌, inl, inr, ℕ, Bool, true, false, List, [], ◌∷◌, ◌++◌, Option, Some, None, Result, Err, refl, sym, ap, ◌∙◌, subst}
use Rattle.std.specs.Prelude.{bytes_eq, codes, find, map, option_map, unwrap_or, if◌then◌else◌}
use Rattle.std.specs.Option.{option_and_then}
use Rattle.std.proofs.lemmas.Bool.{false≢true}
use Rattle.std.proofs.lemmas.Slice.Eq.{bytes_eq-Decides}
use Rattle.base_names.specs.declared.refusal.Refusal.{Refusal}
use Rattle.base_names.specs.declared.refusal.Refusal.TheVariants.{LINE}
use Rattle.wire_text.specs.Commands.{behind, command_of_words, fit, made, said_as, said_as_any}
use Rattle.wire_text.specs.Forms.{called, change_form, changes, form_of, plain_verbs, queries, query_form, verbs}
use Rattle.wire_text.specs.Reading.{change_of, change_verb, query_at, query_of, read_behind, verb_at, verb_of, verb_or}
use Rattle.wire_text.specs.declared.command.Command.{Command}
use Rattle.wire_text.specs.declared.verb.Verb.{Verb}
use Rattle.wire_text.specs.declared.verb.Verb.TheVariants.{Read, Change, Update, Get, Write, SetParam, Batch, BStatus, Bye}
use Rattle.wire_text.specs.declared.verb.ChangeVerb.{ChangeVerb}
use Rattle.wire_text.specs.declared.verb.ChangeVerb.TheVariants as change
use Rattle.wire_text.specs.declared.verb.Query.{Query}
use Rattle.wire_text.specs.declared.verb.Query.TheVariants as query

picked : (b : Bool) (said : Result Command Refusal) → unwrap_or (if b then Some said else None) (Err LINE) ≡ (if b then said else Err LINE)
picked true said = refl
picked false said = refl

picked_behind : (v : Verb) (rest : List (List ℕ)) → unwrap_or (if fit (form_of v).arguments rest then Some (made (form_of v).arguments (form_of v).makes rest) else None) (Err LINE) ≡ read_behind v rest
picked_behind v rest = picked (fit (form_of v).arguments rest) (made (form_of v).arguments (form_of v).makes rest)

-- words that begin with a command say what those behind it say
pub command_of_words-called : (v : Verb) (rest : List (List ℕ)) → command_of_words (called v ++ rest) ≡ read_behind v rest
unfolding command_of_words
command_of_words-called Read rest = picked_behind Read rest
command_of_words-called Update rest = picked_behind Update rest
command_of_words-called Write rest = picked_behind Write rest
command_of_words-called SetParam rest = picked_behind SetParam rest
command_of_words-called Batch rest = picked_behind Batch rest
command_of_words-called BStatus rest = picked_behind BStatus rest
command_of_words-called Bye rest = picked_behind Bye rest
command_of_words-called (Change change.AddVar) rest = picked_behind (Change change.AddVar) rest
command_of_words-called (Change change.AddConstr) rest = picked_behind (Change change.AddConstr) rest
command_of_words-called (Change change.ChgCoeff) rest = picked_behind (Change change.ChgCoeff) rest
command_of_words-called (Change change.SetObj) rest = picked_behind (Change change.SetObj) rest
command_of_words-called (Change change.SetRhs) rest = picked_behind (Change change.SetRhs) rest
command_of_words-called (Change change.SetLb) rest = picked_behind (Change change.SetLb) rest
command_of_words-called (Change change.SetUb) rest = picked_behind (Change change.SetUb) rest
command_of_words-called (Change change.SetSense) rest = picked_behind (Change change.SetSense) rest
command_of_words-called (Change change.SetType) rest = picked_behind (Change change.SetType) rest
command_of_words-called (Change change.SetVTag) rest = picked_behind (Change change.SetVTag) rest
command_of_words-called (Change change.DelVar) rest = picked_behind (Change change.DelVar) rest
command_of_words-called (Change change.DelConstr) rest = picked_behind (Change change.DelConstr) rest
command_of_words-called (Get query.Lb) rest = picked_behind (Get query.Lb) rest
command_of_words-called (Get query.Ub) rest = picked_behind (Get query.Ub) rest
command_of_words-called (Get query.Obj) rest = picked_behind (Get query.Obj) rest
command_of_words-called (Get query.Type) rest = picked_behind (Get query.Type) rest
command_of_words-called (Get query.Rhs) rest = picked_behind (Get query.Rhs) rest
command_of_words-called (Get query.Sense) rest = picked_behind (Get query.Sense) rest
command_of_words-called (Get query.Coeff) rest = picked_behind (Get query.Coeff) rest
command_of_words-called (Get query.VTag) rest = picked_behind (Get query.VTag) rest
command_of_words-called (Get query.NumVars) rest = picked_behind (Get query.NumVars) rest
command_of_words-called (Get query.NumConstrs) rest = picked_behind (Get query.NumConstrs) rest
command_of_words-called (Get query.Param) rest = picked_behind (Get query.Param) rest

taken : {A : Type 0} (b : Bool) (x y : A) → b ≡ true → (if b then x else y) ≡ x
taken true x y h = refl
taken false x y h = absurd (false≢true h)

left_out : {A : Type 0} (b : Bool) (x y : A) → b ≡ false → (if b then x else y) ≡ y
left_out true x y h = absurd (false≢true (sym h))
left_out false x y h = refl

-- what is found first in no list is no first item, and is found in none behind it
find-none : {A : Type 0} (p : A → Bool) (x : A) (xs : List A) → find p (x ∷ xs) ≡ None → (p x ≡ false) × (find p xs ≡ None)
find-none p x xs h = by_test (p x) h
  where
    by_test : (b : Bool) → (if b then Some x else find p xs) ≡ None → (b ≡ false) × (find p xs ≡ None)
    by_test true none = absurd cc
    by_test false none = (refl, none)

find-map : {A B : Type 0} (p : B → Bool) (f : A → B) (xs : List A) → find (λ x. p (f x)) xs ≡ None → find p (map f xs) ≡ None
find-map p f [] h = refl
find-map p f (x ∷ xs) h =
    let first = find-none (λ x. p (f x)) x xs h in
    left_out (p (f x)) (Some (f x)) (find p (map f xs)) first.0 ∙ find-map p f xs first.1

-- verbs that one word calls
abbrev AreCalled : List Verb → Type 0
AreCalled [] = Unit {0}
AreCalled (v ∷ vs) = (called v ≡ (form_of v).word ∷ []) × AreCalled vs

said_as-none : (v : Verb) (words : List (List ℕ)) → behind (called v) words ≡ None → said_as v words ≡ None
said_as-none v words h = ap (option_and_then (λ rest. if fit (form_of v).arguments rest then Some (made (form_of v).arguments (form_of v).makes rest) else None)) h

-- no verb of the front is said
skipped : (v : Verb) (vs : List Verb) (words : List (List ℕ)) → behind (called v) words ≡ None → said_as_any (v ∷ vs) words ≡ said_as_any vs words
skipped v vs words h = ap (λ said. unwrap_or said (said_as_any vs words)) (said_as-none v words h)

-- a word that calls none of the verbs
uncalled : (vs others : List Verb) (word : List ℕ) (words : List (List ℕ)) → AreCalled vs → find (λ v. bytes_eq word (form_of v).word) vs ≡ None → said_as_any (vs ++ others) (word ∷ words) ≡ said_as_any others (word ∷ words)
uncalled [] others word words by_word none = refl
uncalled (v ∷ vs) others word words by_word none =
    let first = find-none (λ v. bytes_eq word (form_of v).word) v vs none in
    let other : behind (called v) (word ∷ words) ≡ None = ap (λ front. behind front (word ∷ words)) by_word.0 ∙ left_out (bytes_eq word (form_of v).word) (Some words) None first.0 in
    skipped v (vs ++ others) (word ∷ words) other ∙ uncalled vs others word words by_word.1 first.1

plain_are_called : AreCalled plain_verbs
plain_are_called = (refl, (refl, (refl, (refl, (refl, (refl, (refl, tt)))))))

changes_are_called : (cs : List ChangeVerb) → AreCalled (map (λ c. Change c) cs)
changes_are_called [] = tt
changes_are_called (c ∷ cs) = (refl, changes_are_called cs)

-- words that don't begin with `GET` ask nothing
no_query : (qs : List Query) (word : List ℕ) (words : List (List ℕ)) → bytes_eq word (codes "GET") ≡ false → said_as_any (map (λ q. Get q) qs) (word ∷ words) ≡ Err LINE
no_query [] word words other = refl
no_query (q ∷ qs) word words other =
    skipped (Get q) (map (λ q. Get q) qs) (word ∷ words) (left_out (bytes_eq word (codes "GET")) (behind ((query_form q).word ∷ []) words) None other) ∙ no_query qs word words other

-- `GET` alone, or before a word that asks nothing
get_alone : (qs : List Query) → said_as_any (map (λ q. Get q) qs) (codes "GET" ∷ []) ≡ Err LINE
get_alone [] = refl
get_alone (q ∷ qs) = skipped (Get q) (map (λ q. Get q) qs) (codes "GET" ∷ []) refl ∙ get_alone qs

get_other : (qs : List Query) (word : List ℕ) (words : List (List ℕ)) → find (λ q. bytes_eq word (query_form q).word) qs ≡ None → said_as_any (map (λ q. Get q) qs) (codes "GET" ∷ word ∷ words) ≡ Err LINE
get_other [] word words none = refl
get_other (q ∷ qs) word words none =
    let first = find-none (λ q. bytes_eq word (query_form q).word) q qs none in
    skipped (Get q) (map (λ q. Get q) qs) (codes "GET" ∷ word ∷ words) (left_out (bytes_eq word (query_form q).word) (Some words) None first.0) ∙ get_other qs word words first.1

option_map-none : {A B : Type 0} (f : A → B) (x : Option A) → option_map f x ≡ None → x ≡ None
option_map-none f None h = refl
option_map-none f (Some x) h = absurd cc

-- what one word calls nothing is no change and nothing plain
verb_of-none : (plain : Option Verb) (change : Option ChangeVerb) → verb_or plain (change_verb change) ≡ None → (plain ≡ None) × (change ≡ None)
verb_of-none None None h = (refl, refl)
verb_of-none None (Some c) h = absurd cc
verb_of-none (Some v) change h = absurd cc

query_at-none : (words : List (List ℕ)) → query_at words ≡ None → said_as_any (map (λ q. Get q) queries) (codes "GET" ∷ words) ≡ Err LINE
query_at-none [] h = get_alone queries
query_at-none (word ∷ words) h = get_other queries word words (option_map-none (λ q. (Get q, words)) (query_of word) h)

-- words that begin with no command are LINE
unsaid : (word : List ℕ) (words : List (List ℕ)) (is_get : Bool) → bytes_eq word (codes "GET") ≡ is_get → (if is_get then query_at words else option_map {U = Verb × List (List ℕ)} (λ v. (v, words)) (verb_of word)) ≡ None → command_of_words (word ∷ words) ≡ Err LINE
unfolding command_of_words
unsaid word words true is none =
    subst (λ first. said_as_any verbs (first ∷ words) ≡ Err LINE) (sym ((bytes_eq-Decides word (codes "GET")).0 is)) (query_at-none words none)
unsaid word words false is none =
    let both = verb_of-none (find (λ v. bytes_eq word (form_of v).word) plain_verbs) (change_of word) (option_map-none (λ v. (v, words)) (verb_of word) none) in
    let asks = map (λ q. Get q) queries in
    let of_change : find (λ v. bytes_eq word (form_of v).word) (map (λ c. Change c) changes) ≡ None = find-map (λ v. bytes_eq word (form_of v).word) (λ c. Change c) changes both.1 in
    uncalled plain_verbs (map (λ c. Change c) changes ++ asks) word words plain_are_called both.0
    ∙ (uncalled (map (λ c. Change c) changes) asks word words (changes_are_called changes) of_change ∙ no_query queries word words is)

command_of_words-none : (words : List (List ℕ)) → verb_at words ≡ None → command_of_words words ≡ Err LINE
unfolding command_of_words
command_of_words-none [] none = refl
command_of_words-none (word ∷ words) none = unsaid word words (bytes_eq word (codes "GET")) refl none

-- what is found first is the first item, or is found behind it
find-cons : {A : Type 0} (p : A → Bool) (x : A) (xs : List A) (y : A) → find p (x ∷ xs) ≡ Some y → ((p x ≡ true) × (x ≡ y)) ⊎ (find p xs ≡ Some y)
find-cons p x xs y h = by_test (p x) refl h
  where
    by_test : (b : Bool) → p x ≡ b → (if b then Some x else find p xs) ≡ Some y → ((p x ≡ true) × (x ≡ y)) ⊎ (find p xs ≡ Some y)
    by_test true is found = inl (is, cc)
    by_test false is found = inr found

-- a verb that a word calls is called by it alone
abbrev Calls : List ℕ → Verb → Type 0
Calls word v = (word ≡ (form_of v).word) × (called v ≡ (form_of v).word ∷ [])

find-called : (word : List ℕ) (vs : List Verb) (u : Verb) → AreCalled vs → find (λ v. bytes_eq word (form_of v).word) vs ≡ Some u → Calls word u
find-called word [] u by_word h = absurd cc
find-called word (v ∷ vs) u by_word h =
    elim (find-cons (λ v. bytes_eq word (form_of v).word) v vs u h) [
      | inl first ↦ subst (Calls word) first.1 ((bytes_eq-Decides word (form_of v).word).0 first.0, by_word.0)
      | inr later ↦ find-called word vs u by_word.1 later
    ]

find-change : (word : List ℕ) (cs : List ChangeVerb) (c : ChangeVerb) → find (λ c. bytes_eq word (change_form c).word) cs ≡ Some c → word ≡ (change_form c).word
find-change word [] c h = absurd cc
find-change word (first ∷ cs) c h =
    elim (find-cons (λ c. bytes_eq word (change_form c).word) first cs c h) [
      | inl found ↦ (bytes_eq-Decides word (change_form first).word).0 found.0 ∙ ap (λ c. (change_form c).word) found.1
      | inr later ↦ find-change word cs c later
    ]

find-query : (word : List ℕ) (qs : List Query) (q : Query) → find (λ q. bytes_eq word (query_form q).word) qs ≡ Some q → word ≡ (query_form q).word
find-query word [] q h = absurd cc
find-query word (first ∷ qs) q h =
    elim (find-cons (λ q. bytes_eq word (query_form q).word) first qs q h) [
      | inl found ↦ (bytes_eq-Decides word (query_form first).word).0 found.0 ∙ ap (λ q. (query_form q).word) found.1
      | inr later ↦ find-query word qs q later
    ]

some_is : {A : Type 0} (x y : A) → Some x ≡ Some y → x ≡ y
some_is x y e = cc

-- the verb that a word calls
verb_of-some : (word : List ℕ) (v : Verb) → verb_of word ≡ Some v → word ∷ [] ≡ called v
verb_of-some word v h = by_plain (find (λ v. bytes_eq word (form_of v).word) plain_verbs) (change_of word) refl refl h
  where
    by_plain : (plain : Option Verb) (change : Option ChangeVerb) → find (λ v. bytes_eq word (form_of v).word) plain_verbs ≡ plain → change_of word ≡ change → verb_or plain (change_verb change) ≡ Some v → word ∷ [] ≡ called v
    by_plain (Some u) change is is' found =
        let calls = find-called word plain_verbs u plain_are_called is in
        ap (λ first. first ∷ []) calls.0 ∙ (sym calls.1 ∙ ap called (some_is u v found))
    by_plain None (Some c) is is' found =
        ap (λ first. first ∷ []) (find-change word changes c is') ∙ ap called (some_is (Change c) v found)
    by_plain None None is is' found = absurd cc

pair_is : {A B : Type 0} (p q : A × B) → Some p ≡ Some q → (p.0 ≡ q.0) × (p.1 ≡ q.1)
pair_is p q h = let same = some_is p q h in (ap (λ r. r.0) same, ap (λ r. r.1) same)

-- the words from the verb on that is read
query_at-some : (words rest : List (List ℕ)) (v : Verb) → query_at words ≡ Some (v, rest) → codes "GET" ∷ words ≡ called v ++ rest
query_at-some [] rest v h = absurd cc
query_at-some (word ∷ words) rest v h = by_query (query_of word) refl h
  where
    by_query : (query : Option Query) → query_of word ≡ query → option_map {U = Verb × List (List ℕ)} (λ q. (Get q, words)) query ≡ Some (v, rest) → codes "GET" ∷ word ∷ words ≡ called v ++ rest
    by_query None is found = absurd cc
    by_query (Some q) is found =
        let parts = pair_is (Get q, words) (v, rest) found in
        ap (λ w. codes "GET" ∷ w ∷ words) (find-query word queries q is) ∙ (ap (λ ws. called (Get q) ++ ws) parts.1 ∙ ap (λ u. called u ++ rest) parts.0)

pub verb_at-some : (words rest : List (List ℕ)) (v : Verb) → verb_at words ≡ Some (v, rest) → words ≡ called v ++ rest
verb_at-some [] rest v h = absurd cc
verb_at-some (word ∷ words) rest v h = by_word (bytes_eq word (codes "GET")) refl h
  where
    by_verb : (found : Option Verb) → verb_of word ≡ found → option_map {U = Verb × List (List ℕ)} (λ v. (v, words)) found ≡ Some (v, rest) → word ∷ words ≡ called v ++ rest
    by_verb None is h = absurd cc
    by_verb (Some u) is h =
        let parts = pair_is (u, words) (v, rest) h in
        ap (λ front. front ++ words) (verb_of-some word u is) ∙ (ap (λ ws. called u ++ ws) parts.1 ∙ ap (λ w. called w ++ rest) parts.0)

    by_word : (b : Bool) → bytes_eq word (codes "GET") ≡ b → (if b then query_at words else option_map {U = Verb × List (List ℕ)} (λ v. (v, words)) (verb_of word)) ≡ Some (v, rest) → word ∷ words ≡ called v ++ rest
    by_word true is h = ap (λ w. w ∷ words) ((bytes_eq-Decides word (codes "GET")).0 is) ∙ query_at-some words rest v h
    by_word false is h = by_verb (verb_of word) refl h

-- what words say from the verb on
abbrev pub said_at : Option (Verb × List (List ℕ)) → Result Command Refusal
said_at None = Err LINE
said_at (Some found) = read_behind found.0 found.1

pub command_of_words-verb_at : (words : List (List ℕ)) → command_of_words words ≡ said_at (verb_at words)
command_of_words-verb_at words = by_found (verb_at words) refl
  where
    by_found : (found : Option (Verb × List (List ℕ))) → verb_at words ≡ found → command_of_words words ≡ said_at found
    by_found None is = command_of_words-none words is
    by_found (Some found) is = ap command_of_words (verb_at-some words found.1 found.0 is) ∙ command_of_words-called found.0 found.1
