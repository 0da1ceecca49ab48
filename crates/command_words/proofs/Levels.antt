-- clap takes the words behind a subcommand exactly where `given` reads them, and keeps what it gives.
use Rattle.std.proofs.Common.{◌≡◌, Bool, true, false, not, List, [], ◌∷◌, ◌++◌, map, Option, Some, None, codes, refl, ap, sym, ◌∙◌, subst}
use Rattle.std.specs.Prelude.{find, ◌&&◌, ◌||◌, fold, slice_get}
use Rattle.std.specs.List.{list_any, list_all}
use Rattle.command_words.specs.Commands.{kept}
use Rattle.command_words.specs.Asked.{is_set, is_set_as}
use Rattle.std.specs.Str.{bytes_eq}
use Rattle.clap.specs.Walk.{Row, Held, idle, walk_from, nothing_held, settled, walk, with_default, with_values, rows_after, finished, first_of, has_row, more_values}
use Rattle.clap.specs.declared.builder.value_parser.Reading.TheVariants.{AsWritten}
use Rattle.clap.specs.declared.parser.matches.ValueSource.TheVariants.{DefaultValue}
use Rattle.clap.specs.Kinds.{Kinds, or_else}
use Rattle.clap.specs.Faults.{walk_fault, settle_fault, defaults_fault, level_fault}
use Rattle.clap.specs.Takes.{is_given as is_used}
use Rattle.command_words.specs.Given.{Word, Line, Given, is_given, given, value_of}
use Rattle.command_words.proofs.Rules.{cases, true_false, flag, option, place_rules, rules_of, row, place_found, index_found, has_row-rows, at_row-none, bytes_eq-refl}
use Rattle.command_words.proofs.Steps.{IsFault, Ends, at, sub, fault}
use Rattle.command_words.proofs.Endings.{AreClean, PlaceAt, walks}

no_default_place : (rows : List Row) (place : Option Word) → defaults_fault rows (place_rules place) ≡ []
unfolding defaults_fault
no_default_place rows None = refl
no_default_place rows (Some p) = cases (has_row p rows) (λ e. rw e refl) (λ e. rw e refl)

-- a default never fails
no_default_fault : (rows : List Row) (os : List (Word × Bool)) (place : Option Word) → defaults_fault rows (map option os ++ place_rules place) ≡ []
unfolding defaults_fault
no_default_fault rows [] place = no_default_place rows place
no_default_fault rows ((x, true) ∷ os) place = cases (has_row x rows)
    (λ e. rw e (no_default_fault rows os place))
    (λ e. rw e (no_default_fault rows os place))
no_default_fault rows ((x, false) ∷ os) place = cases (has_row x rows)
    (λ e. rw e (no_default_fault rows os place))
    (λ e. rw e (no_default_fault (with_values x AsWritten DefaultValue (codes "false" ∷ []) rows) os place))

-- no argument is wanted
none_wanted : (rows : List Row) (os : List (Word × Bool)) (place : Option Word) → list_any (λ a. a.required && not (is_used a.id rows)) (map option os ++ place_rules place) ≡ false
none_wanted rows [] None = refl
none_wanted rows [] (Some p) = refl
none_wanted rows ((x, true) ∷ os) place = none_wanted rows os place
none_wanted rows ((x, false) ∷ os) place = none_wanted rows os place

pub or_else-nil : (a : Kinds) → or_else a [] ≡ a
or_else-nil [] = refl
or_else-nil (k ∷ ks) = refl

-- the level fails where the walk does
level_is : (name : Word) (l : Line) (words : List Word)
    → level_fault (sub name (rules_of l)) [] nothing_held words false [] ≡ fault name (rules_of l) (at nothing_held idle 1) words
level_is name l words =
    let end : Held = (walk (rules_of l) [] nothing_held words).held in
    rw (no_default_fault (settled (rules_of l) end).rows l.options l.place, none_wanted (finished (rules_of l) end) l.options l.place)
    (ap (or_else (walk_fault (sub name (rules_of l)) [] (walk_from nothing_held) words)) (or_else-nil (settle_fault (rules_of l) false end)))

-- the place has a name of its own
abbrev pub IsApart : Line → Type 0
IsApart l = (p : Word) → l.place ≡ Some p → find (λ o. bytes_eq o.0 p) l.options ≡ None

place_first : (os : List (Word × Bool)) (place : Option Word) → ((p : Word) → place ≡ Some p → find (λ o. bytes_eq o.0 p) os ≡ None)
    → PlaceAt (rules_of (record { options = os; place = place })) place 1
place_first os None apart = index_found (record { options = os; place = None }) 1
place_first os (Some p) apart = (index_found (record { options = os; place = Some p }) 1, index_found (record { options = os; place = Some p }) 2, place_found os p (apart p refl))

-- what a level comes to
abbrev pub LevelIs : Word → Line → List Word → Option Given → Type 0
LevelIs name l words None = IsFault (level_fault (sub name (rules_of l)) [] nothing_held words false [])
LevelIs name l words (Some given) = (level_fault (sub name (rules_of l)) [] nothing_held words false [] ≡ [])
    × (rows_after (rules_of l) [] words ≡ fold with_default (map row given) (rules_of l))

from_ends : (name : Word) (l : Line) (words : List Word) (o : Option Given) → Ends name (rules_of l) (at nothing_held idle 1) words o → LevelIs name l words o
from_ends name l words None h = subst IsFault (sym (level_is name l words)) h
from_ends name l words (Some given) h = (level_is name l words ∙ h.0, ap (λ (rows : List Row). fold with_default rows (rules_of l)) h.1)

pub level : (name : Word) (l : Line) (words : List Word) → IsApart l → AreClean words → LevelIs name l words (given l words)
level name l words apart clean = from_ends name l words (given l words)
    (walks name l words clean nothing_held [] None l.place 1 (refl, refl, refl) (place_first l.options l.place apart))

-- ---- what the getters read

first_of-append : (x : Word) (rows : List Row) (r : Row) → bytes_eq r.id x ≡ false → first_of x (rows ++ r ∷ []) ≡ first_of x rows
first_of-append x [] r e = rw e refl
first_of-append x (q ∷ rows) r e = cases (bytes_eq q.id x) (λ f. rw f refl) (λ f. rw f (first_of-append x rows r e))

first_of-row : (x : Word) (given : Given) → first_of x (map row given) ≡ value_of x given
first_of-row x [] = refl
first_of-row x ((n, v) ∷ rest) = cases (bytes_eq n x) (λ e. rw e refl) (λ e. rw e (first_of-row x rest))

-- without flags there is no default
place_kept : (rows : List Row) (place : Option Word) → fold with_default rows (place_rules place) ≡ rows
place_kept rows None = refl
place_kept rows (Some p) = cases (has_row p rows) (λ e. rw e refl) (λ e. rw e refl)

value_kept : (rows : List Row) (x : Word) → with_default rows (option (x, true)) ≡ rows
value_kept rows x = cases (has_row x rows) (λ e. rw e refl) (λ e. rw e refl)

flag_kept : (rows : List Row) (x : Word) → has_row x rows ≡ true → with_default rows (flag x) ≡ rows
flag_kept rows x h = rw h refl

unflagged : (rows : List Row) (os : List (Word × Bool)) (place : Option Word) → list_all (λ o. o.1) os ≡ true → fold with_default rows (map option os ++ place_rules place) ≡ rows
unflagged rows [] place h = place_kept rows place
unflagged rows ((x, true) ∷ os) place h = ap (λ (r : List Row). fold with_default r (map option os ++ place_rules place)) (value_kept rows x) ∙ unflagged rows os place h
unflagged rows ((x, false) ∷ os) place h = absurd (true_false (sym h))

-- what a getter gives of a line without flags
pub plain_value : (l : Line) (given : Given) (x : Word) → list_all (λ o. o.1) l.options ≡ true → first_of x (kept l given) ≡ value_of x given
plain_value l given x h = ap (first_of x) (unflagged (map row given) l.options l.place h) ∙ first_of-row x given

no_value : (x : Word) (given : Given) → is_given x given ≡ false → value_of x given ≡ None
no_value x [] h = refl
no_value x ((n, v) ∷ rest) h = cases (bytes_eq n x)
    (λ e. absurd (true_false (sym (ap (λ (b : Bool). b || is_given x rest) e) ∙ h)))
    (λ e. rw e (no_value x rest (sym (ap (λ (b : Bool). b || is_given x rest) e) ∙ h)))

last_first : (x : Word) (given : Given) (r : Row) → is_given x given ≡ false → bytes_eq r.id x ≡ true → first_of x (map row given ++ r ∷ []) ≡ slice_get r.values 0
last_first x [] r h e = rw e refl
last_first x ((n, v) ∷ rest) r h e = cases (bytes_eq n x)
    (λ f. absurd (true_false (sym (ap (λ (b : Bool). b || is_given x rest) f) ∙ h)))
    (λ f. rw f (last_first x rest r (sym (ap (λ (b : Bool). b || is_given x rest) f) ∙ h) e))

abbrev pub off : Word → Row
off x = record { id = x; values = codes "false" ∷ []; count = None; source = Some DefaultValue; reading = AsWritten }

flag_row : (x : Word) (given : Given) → is_given x given ≡ false → with_default (map row given) (flag x) ≡ map row given ++ off x ∷ []
flag_row x given h =
    let none : has_row x (map row given) ≡ false = has_row-rows x given ∙ h in
    rw none (at_row-none x (more_values DefaultValue (codes "false" ∷ [])) (off x ∷ []) (map row given) none)

-- of one with a flag in front: another name's value, and the flag
pub beside_flag : (f : Word) (os : List (Word × Bool)) (place : Option Word) (given : Given) (x : Word) → list_all (λ o. o.1) os ≡ true → bytes_eq f x ≡ false
    → first_of x (kept (record { options = (f, false) ∷ os; place = place }) given) ≡ value_of x given
beside_flag f os place given x h other = cases (is_given f given)
    (λ e. let has : has_row f (map row given) ≡ true = has_row-rows f given ∙ e in
    ap (λ (rows : List Row). first_of x (fold with_default rows (map option os ++ place_rules place))) (flag_kept (map row given) f has) ∙ (ap (first_of x) (unflagged (map row given) os place h) ∙ first_of-row x given))
    (λ e. ap (λ (rows : List Row). first_of x (fold with_default rows (map option os ++ place_rules place))) (flag_row f given e)
    ∙ (ap (first_of x) (unflagged (map row given ++ off f ∷ []) os place h) ∙ (first_of-append x (map row given) (off f) other ∙ first_of-row x given)))

pub flag_value : (f : Word) (os : List (Word × Bool)) (place : Option Word) (given : Given) → list_all (λ o. o.1) os ≡ true
    → is_set_as (first_of f (kept (record { options = (f, false) ∷ os; place = place }) given)) ≡ is_set f given
flag_value f os place given h = cases (is_given f given)
    (λ e. let has : has_row f (map row given) ≡ true = has_row-rows f given ∙ e in
    ap (λ (rows : List Row). is_set_as (first_of f (fold with_default rows (map option os ++ place_rules place)))) (flag_kept (map row given) f has) ∙ (ap is_set_as (ap (first_of f) (unflagged (map row given) os place h) ∙ first_of-row f given)))
    (λ e. ap (λ (rows : List Row). is_set_as (first_of f (fold with_default rows (map option os ++ place_rules place)))) (flag_row f given e)
    ∙ (ap (λ (rows : List Row). is_set_as (first_of f rows)) (unflagged (map row given ++ off f ∷ []) os place h)
    ∙ (ap is_set_as (last_first f given (off f) e (bytes_eq-refl f)) ∙ sym (ap is_set_as (no_value f given e)))))
