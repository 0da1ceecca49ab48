-- The rules by which clap knows a line's words, and what it keeps of them.
use Rattle.std.proofs.Common.{◌≡◌, ℕ, Bool, true, false, List, [], ◌∷◌, ◌++◌, map, Option, Some, None, codes, refl, ap, sym, ◌∙◌}
use Rattle.std.specs.Prelude.{option_map, find, ◌||◌}
use Rattle.std.specs.Str.{bytes_eq}
use Rattle.clap.specs.Walk.{Rule, Row, arg_by_id, arg_by_long, arg_by_index, at_row, has_row, used, more_values, with_values, without}
use Rattle.clap.specs.declared.builder.value_parser.Reading.TheVariants.{AsWritten}
use Rattle.clap.specs.declared.parser.matches.ValueSource.TheVariants.{CommandLine}
use Rattle.std.proofs.lemmas.Slice.Eq.{bytes_eq-Decides}
use Rattle.std.proofs.lemmas.List.{append-nil, map-append}
pub use Rattle.command_words.specs.Commands.{valued, flag, option, in_place, place_rules, rules_of, row}
use Rattle.command_words.specs.Given.{Word, Line, Given, is_given, set}

pub cases : {P : Type 0} (b : Bool) → (b ≡ true → P) → (b ≡ false → P) → P
cases true on off = on refl
cases false on off = off refl

pub true_false : true ≡ false → ⊥
true_false h = cc

pub bytes_eq-true : (a b : Word) → bytes_eq a b ≡ true → a ≡ b
bytes_eq-true a b h = (bytes_eq-Decides a b).0 h

pub bytes_eq-refl : (a : Word) → bytes_eq a a ≡ true
bytes_eq-refl a = (bytes_eq-Decides a a).1 refl

pub has_row-rows : (name : Word) (given : Given) → has_row name (map row given) ≡ is_given name given
has_row-rows name [] = refl
has_row-rows name ((x, v) ∷ rest) = ap (λ (b : Bool). bytes_eq x name || b) (has_row-rows name rest)

pub at_row-none : (name : Word) (change : Row → List Row) (missing rows : List Row) → has_row name rows ≡ false → at_row name change missing rows ≡ rows ++ missing
at_row-none name change missing [] h = refl
at_row-none name change missing (r ∷ rs) h = cases (bytes_eq r.id name)
    (λ e. absurd (true_false (sym (ap (λ (b : Bool). b || has_row name rs) e) ∙ h)))
    (λ e. rw e (ap (λ (xs : List Row). r ∷ xs) (at_row-none name change missing rs (sym (ap (λ (b : Bool). b || has_row name rs) e) ∙ h))))

-- one more value
pub value_added : (long : Option Word) (index : Option ℕ) (name value : Word) (given : Given) → is_given name given ≡ false
    → used (valued long index name) (value ∷ []) (map row given) ≡ map row (given ++ (name, value) ∷ [])
value_added long index name value given h =
    let none : has_row name (map row given) ≡ false = has_row-rows name given ∙ h in
    let kept : without name (map row given) ≡ map row given = at_row-none name (λ _. []) [] (map row given) none ∙ append-nil (map row given) in
    ap (with_values name AsWritten CommandLine (value ∷ [])) kept ∙ (at_row-none name (more_values CommandLine (value ∷ [])) _ (map row given) none ∙ sym (map-append row given ((name, value) ∷ [])))

-- one more flag
pub flag_added : (name : Word) (given : Given) → is_given name given ≡ false
    → used (flag name) [] (map row given) ≡ map row (given ++ (name, set) ∷ [])
flag_added name given h =
    let none : has_row name (map row given) ≡ false = has_row-rows name given ∙ h in
    let kept : without name (map row given) ≡ map row given = at_row-none name (λ _. []) [] (map row given) none ∙ append-nil (map row given) in
    ap (with_values name AsWritten CommandLine (codes "true" ∷ [])) kept ∙ (at_row-none name (more_values CommandLine (codes "true" ∷ [])) _ (map row given) none ∙ sym (map-append row given ((name, set) ∷ [])))

-- ---- which rule a name finds

abbrev pub found : Line → Word → Option Rule
found l name = option_map option (find (λ o. bytes_eq o.0 name) l.options)

-- no option has the name of the place
abbrev pub IsApart : Line → Type 0
IsApart l = (name : Word) → l.place ≡ Some name → find (λ o. bytes_eq o.0 name) l.options ≡ None

find_long : (os : List (Word × Bool)) (place : Option Word) (name : Word)
    → arg_by_long (map option os ++ place_rules place) name ≡ option_map option (find (λ o. bytes_eq o.0 name) os)
find_long [] None name = refl
find_long [] (Some p) name = refl
find_long ((x, true) ∷ os) place name = cases (bytes_eq x name)
    (λ e. rw e refl)
    (λ e. rw e (find_long os place name))
find_long ((x, false) ∷ os) place name = cases (bytes_eq x name)
    (λ e. rw e refl)
    (λ e. rw e (find_long os place name))

pub long_found : (l : Line) (name : Word) → arg_by_long (rules_of l) name ≡ found l name
long_found l name = find_long l.options l.place name

find_id : (os : List (Word × Bool)) (rest : List Rule) (name : Word) (o : Word × Bool) → find (λ o. bytes_eq o.0 name) os ≡ Some o
    → arg_by_id (map option os ++ rest) name ≡ Some (option o)
find_id [] rest name o h = absurd (cc)
find_id ((x, true) ∷ os) rest name o h = cases (bytes_eq x name)
    (λ e. let h' : Some (x, true) ≡ Some o = (rw e at h) in rw e (ap (option_map option) h'))
    (λ e. rw e (find_id os rest name o (rw e at h)))
find_id ((x, false) ∷ os) rest name o h = cases (bytes_eq x name)
    (λ e. let h' : Some (x, false) ≡ Some o = (rw e at h) in rw e (ap (option_map option) h'))
    (λ e. rw e (find_id os rest name o (rw e at h)))

pub id_found : (l : Line) (name : Word) (o : Word × Bool) → find (λ o. bytes_eq o.0 name) l.options ≡ Some o → arg_by_id (rules_of l) name ≡ Some (option o)
id_found l name o h = find_id l.options (place_rules l.place) name o h

find_place : (os : List (Word × Bool)) (p : Word) → find (λ o. bytes_eq o.0 p) os ≡ None → arg_by_id (map option os ++ in_place p ∷ []) p ≡ Some (in_place p)
find_place [] p h = rw (bytes_eq-refl p) refl
find_place ((x, true) ∷ os) p h = cases (bytes_eq x p)
    (λ e. absurd (let h' : Some (x, true) ≡ None = (rw e at h) in cc))
    (λ e. rw e (find_place os p (rw e at h)))
find_place ((x, false) ∷ os) p h = cases (bytes_eq x p)
    (λ e. absurd (let h' : Some (x, false) ≡ None = (rw e at h) in cc))
    (λ e. rw e (find_place os p (rw e at h)))

pub place_found : (os : List (Word × Bool)) (p : Word) → find (λ o. bytes_eq o.0 p) os ≡ None → arg_by_id (map option os ++ in_place p ∷ []) p ≡ Some (in_place p)
place_found = find_place

find_index : (os : List (Word × Bool)) (rest : List Rule) (k : ℕ) → arg_by_index (map option os ++ rest) k ≡ arg_by_index rest k
find_index [] rest k = refl
find_index ((x, true) ∷ os) rest k = find_index os rest k
find_index ((x, false) ∷ os) rest k = find_index os rest k

pub index_found : (l : Line) (k : ℕ) → arg_by_index (rules_of l) k ≡ arg_by_index (place_rules l.place) k
index_found l k = find_index l.options (place_rules l.place) k

-- the name that was looked for is the option's
pub named : (os : List (Word × Bool)) (name : Word) (o : Word × Bool) → find (λ o. bytes_eq o.0 name) os ≡ Some o → o.0 ≡ name
named [] name o h = absurd (cc)
named (x ∷ os) name o h = cases (bytes_eq x.0 name)
    (λ e. let h' : Some x ≡ Some o = (rw e at h) in let same : x ≡ o = cc in ap (λ (q : Word × Bool). q.0) (sym same) ∙ bytes_eq-true x.0 name e)
    (λ e. named os name o (rw e at h))
