-- clap's walk over the words behind a subcommand ends as `given` says.
use Rattle.std.proofs.Common.{◌≡◌, ℕ, ◌+◌, Bool, true, false, List, [], ◌∷◌, ◌++◌, map, min, Option, Some, None, refl, ap, sym, ◌∙◌, rules, subst, inl, inr}
use Rattle.std.specs.Prelude.{option_map, option_and_then, find, ◌⊎◌}
use Rattle.std.specs.Str.{bytes_eq}
use Rattle.std.specs.Option.{option_map_or}
use Rattle.clap.specs.Lexer.{usize_max}
use Rattle.clap.specs.Walk.{Rule, Row, Held, Waiting, idle, option as waits_for, arg_by_id, arg_by_index, settled, is_pending, has_row, to_positional}
use Rattle.clap.specs.Faults.{settle_fault, use_fault, positional_fault, stray_fault, walk_fault}
use Rattle.command_words.specs.Given.{Word, Line, Given, is_given, is_plain, name_in, value_in, given_from, with_given, set, word_met, option_met}
use Rattle.command_words.proofs.Rules.{cases, valued, flag, option, in_place, rules_of, row, value_added, flag_added, long_found, id_found, named, bytes_eq-refl, has_row-rows}
use Rattle.command_words.proofs.Steps.{IsFault, Ends, at, sub, stops, goes_on, second_fault, plain_turn, plain_walk, plain_turn_waits, plain_walk_waits, long, long_fails, long_stuck, long_turn, fault}

-- a word that clap may be given: without hyphens, or with two and more
abbrev pub IsClean : Word → Type 0
IsClean word = (is_plain word ≡ true) ⊎ ((y : ℕ) × (ys : Word) × (word ≡ long y ys))

abbrev pub AreClean : List Word → Type 0
AreClean [] = Unit {0}
AreClean (word ∷ words) = IsClean word × AreClean words

-- where the place's word goes
abbrev pub PlaceAt : List Rule → Option Word → ℕ → Type 0
PlaceAt rules None position = arg_by_index rules position ≡ None
PlaceAt rules (Some p) position = (arg_by_index rules position ≡ Some (in_place p))
    × (arg_by_index rules (min (position + 1) usize_max) ≡ None) × (arg_by_id rules p ≡ Some (in_place p))

-- what clap holds, where so much was given
abbrev pub Holds : Line → Held → Given → Option Word → Type 0
Holds l h given None = (settle_fault (rules_of l) false h ≡ []) × ((settled (rules_of l) h).rows ≡ map row given) × (h.skip ≡ 0)
Holds l h given (Some x) = (h ≡ record { rows = map row given; pending = Some (x, []); skip = 0 }) × (arg_by_id (rules_of l) x ≡ Some (valued (Some x) None x))

abbrev pub waiting_as : Option Word → Waiting
waiting_as None = idle
waiting_as (Some x) = waits_for x

abbrev pub pends : Given → Word → Word → Held
pends given x v = record { rows = map row given; pending = Some (x, v ∷ []); skip = 0 }

-- the place takes one value
in_place_fault : (rules : List Rule) (p : Word) (h : Held) → positional_fault rules false (in_place p) h ≡ settle_fault rules false h
in_place_fault rules p h = cases (is_pending (in_place p) h.pending) (λ e. rw e refl) (λ e. rw e refl)

in_place_walk : (rules : List Rule) (p word : Word) (h : Held) (position : ℕ) (rows : List Row) → (settled rules h).rows ≡ rows → h.skip ≡ 0
    → to_positional rules (Some (in_place p)) word (at h idle position) h ≡ at (record { rows = rows; pending = Some (p, word ∷ []); skip = 0 }) idle (min (position + 1) usize_max)
in_place_walk rules p word h position rows rows_are skip = cases (is_pending (in_place p) h.pending) (λ e. rw (e, rows_are, skip) refl) (λ e. rw (e, rows_are, skip) refl)

-- what is pending can't be used: each word fails, and the end does
stuck : (name : Word) (l : Line) (h : Held) (free : Option Word) (position : ℕ) (words : List Word) → AreClean words → PlaceAt (rules_of l) free position
    → IsFault (settle_fault (rules_of l) false h) → IsFault (fault name (rules_of l) (at h idle position) words)
unfolding walk_fault
stuck name l h free position [] clean place bad = bad
stuck name l h None position (word ∷ words) (inl plain, clean) place bad =
    stops name (rules_of l) (at h idle position) word words (subst IsFault (sym (plain_turn name (rules_of l) h position word plain
    ∙ ap (λ (o : Option Rule). option_map_or (λ a. positional_fault (rules_of l) false a h) o (stray_fault (sub name (rules_of l)))) place)) tt)
stuck name l h (Some p) position (word ∷ words) (inl plain, clean) place bad =
    stops name (rules_of l) (at h idle position) word words (subst IsFault (sym (plain_turn name (rules_of l) h position word plain
    ∙ (ap (λ (o : Option Rule). option_map_or (λ a. positional_fault (rules_of l) false a h) o (stray_fault (sub name (rules_of l)))) place.0 ∙ in_place_fault (rules_of l) p h))) bad)
stuck name l h free position (word ∷ words) (inr (y, ys, is), clean) place bad =
    subst (λ (w : Word). IsFault (fault name (rules_of l) (at h idle position) (w ∷ words))) (sym is) (stops name (rules_of l) (at h idle position) (long y ys) words (long_stuck name l h idle position y ys bad))

-- The value that came last: it counts, or it was given before.
pending_ends : (name : Word) (l : Line) (given : Given) (waiting : Option Word) (lo : Option Word) (ix : Option ℕ) (x v : Word) (free : Option Word) (position : ℕ) (words : List Word)
    → AreClean words → PlaceAt (rules_of l) free position → arg_by_id (rules_of l) x ≡ Some (valued lo ix x)
    → (Holds l (pends given x v) (given ++ (x, v) ∷ []) None → Ends name (rules_of l) (at (pends given x v) idle position) words (given_from l (record { given = given ++ (x, v) ∷ []; waiting = None; free = free }) words))
    → Ends name (rules_of l) (at (pends given x v) idle position) words (option_and_then (λ after. given_from l after words) (with_given x v (record { given = given; waiting = waiting; free = free })))
pending_ends name l given waiting lo ix x v free position words clean place id rest =
    let has : has_row x (map row given) ≡ is_given x given = has_row-rows x given in
    cases (is_given x given)
    (λ e. rw e (stuck name l (pends given x v) free position words clean place (rw (id, has, e) tt)))
    (λ e. rw e (rest (rw (id, has, e) refl, rw id (value_added lo ix x v given e), refl)))

-- the rest of the words, from what an option leaves
abbrev pub More : Word → Line → Option Word → ℕ → List Word → Type 0
More name l free position words = (h : Held) (given : Given) (waiting : Option Word) → Holds l h given waiting
    → Ends name (rules_of l) (at h (waiting_as waiting) position) words (given_from l (record { given = given; waiting = waiting; free = free }) words)

abbrev pub added : Given → Held
added given = record { rows = map row given; pending = None; skip = 0 }

long_ends : (name : Word) (l : Line) (y : ℕ) (ys : Word) (words : List Word) (h : Held) (given : Given) (free : Option Word) (position : ℕ)
    → Holds l h given None → More name l free position words
    → (o : Option (Word × Bool)) (v : Option Word) → find (λ o. bytes_eq o.0 (name_in (y ∷ ys))) l.options ≡ o → value_in (y ∷ ys) ≡ v
    → Ends name (rules_of l) (at h idle position) (long y ys ∷ words)
    (option_and_then (λ after. given_from l after words) (option_met (record { given = given; waiting = None; free = free }) (name_in (y ∷ ys)) (option_map (λ o. o.1) o) v))
long_ends name l y ys words h given free position holds more None v is value =
    stops name (rules_of l) (at h idle position) (long y ys) words (long_fails name l h idle position y ys (rw is tt))
long_ends name l y ys words h given free position holds more (Some (x, true)) (Some v) is value =
    let is' : find (λ o. bytes_eq o.0 (name_in (y ∷ ys))) l.options ≡ Some (name_in (y ∷ ys), true) = is ∙ ap (λ (n : Word). Some (n, true)) (named l.options (name_in (y ∷ ys)) (x, true) is) in
    let has : has_row (name_in (y ∷ ys)) (map row given) ≡ is_given (name_in (y ∷ ys)) given = has_row-rows (name_in (y ∷ ys)) given in
    cases (is_given (name_in (y ∷ ys)) given)
    (λ e. rw e (stops name (rules_of l) (at h idle position) (long y ys) words (long_fails name l h idle position y ys (rw (is', value) (second_fault (settle_fault (rules_of l) false h) (use_fault false (option (name_in (y ∷ ys), true)) (v ∷ []) (settled (rules_of l) h).rows) (rw (holds.1, has, e) tt))))))
    (λ e. rw e (
    let turn = long_turn name l h (added (given ++ (name_in (y ∷ ys), v) ∷ [])) idle position y ys (Some (option (name_in (y ∷ ys), true))) (Some v)
    (long_found l (name_in (y ∷ ys)) ∙ ap (option_map option) is') value (rw (holds.0, holds.1, has, e) refl) (rw (holds.1, holds.2, value_added (Some (name_in (y ∷ ys))) None (name_in (y ∷ ys)) v given e) refl) in
    goes_on name (rules_of l) (at h idle position) (at (added (given ++ (name_in (y ∷ ys), v) ∷ [])) idle position) (long y ys) words _ turn.0 turn.1
    (more (added (given ++ (name_in (y ∷ ys), v) ∷ [])) (given ++ (name_in (y ∷ ys), v) ∷ []) None (refl, refl, refl))))
long_ends name l y ys words h given free position holds more (Some (x, true)) None is value =
    let is' : find (λ o. bytes_eq o.0 (name_in (y ∷ ys))) l.options ≡ Some (name_in (y ∷ ys), true) = is ∙ ap (λ (n : Word). Some (n, true)) (named l.options (name_in (y ∷ ys)) (x, true) is) in
    let after : Held = record { rows = map row given; pending = Some (name_in (y ∷ ys), []); skip = 0 } in
    let turn = long_turn name l h after (waits_for (name_in (y ∷ ys))) position y ys (Some (option (name_in (y ∷ ys), true))) None
    (long_found l (name_in (y ∷ ys)) ∙ ap (option_map option) is') value holds.0 (rw (holds.1, holds.2) refl) in
    goes_on name (rules_of l) (at h idle position) (at after (waits_for (name_in (y ∷ ys))) position) (long y ys) words _ turn.0 turn.1
    (more after given (Some (name_in (y ∷ ys))) (refl, id_found l (name_in (y ∷ ys)) (name_in (y ∷ ys), true) is'))
long_ends name l y ys words h given free position holds more (Some (x, false)) (Some v) is value =
    stops name (rules_of l) (at h idle position) (long y ys) words (long_fails name l h idle position y ys (rw (is, value) tt))
long_ends name l y ys words h given free position holds more (Some (x, false)) None is value =
    let is' : find (λ o. bytes_eq o.0 (name_in (y ∷ ys))) l.options ≡ Some (name_in (y ∷ ys), false) = is ∙ ap (λ (n : Word). Some (n, false)) (named l.options (name_in (y ∷ ys)) (x, false) is) in
    let has : has_row (name_in (y ∷ ys)) (map row given) ≡ is_given (name_in (y ∷ ys)) given = has_row-rows (name_in (y ∷ ys)) given in
    cases (is_given (name_in (y ∷ ys)) given)
    (λ e. rw e (stops name (rules_of l) (at h idle position) (long y ys) words (long_fails name l h idle position y ys (rw (is', value) (second_fault (settle_fault (rules_of l) false h) (use_fault false (flag (name_in (y ∷ ys))) [] (settled (rules_of l) h).rows) (rw (holds.1, has, e) tt))))))
    (λ e. rw e (
    let turn = long_turn name l h (added (given ++ (name_in (y ∷ ys), set) ∷ [])) idle position y ys (Some (option (name_in (y ∷ ys), false))) None
    (long_found l (name_in (y ∷ ys)) ∙ ap (option_map option) is') value (rw (holds.0, holds.1, has, e) refl) (rw (holds.1, holds.2, flag_added (name_in (y ∷ ys)) given e) refl) in
    goes_on name (rules_of l) (at h idle position) (at (added (given ++ (name_in (y ∷ ys), set) ∷ [])) idle position) (long y ys) words _ turn.0 turn.1
    (more (added (given ++ (name_in (y ∷ ys), set) ∷ [])) (given ++ (name_in (y ∷ ys), set) ∷ []) None (refl, refl, refl))))

pub walks : (name : Word) (l : Line) (words : List Word) → AreClean words
    → (h : Held) (given : Given) (waiting free : Option Word) (position : ℕ) → Holds l h given waiting → PlaceAt (rules_of l) free position
    → Ends name (rules_of l) (at h (waiting_as waiting) position) words (given_from l (record { given = given; waiting = waiting; free = free }) words)
unfolding given_from walk_fault
walks name l [] clean h given None free position holds place = (holds.0, holds.1)
walks name l [] clean h given (Some x) free position holds place = rw (holds.0, holds.1) tt
walks name l (word ∷ words) (inl plain, clean) h given None None position holds place = rw plain
    (stops name (rules_of l) (at h idle position) word words (subst IsFault (sym (plain_turn name (rules_of l) h position word plain
    ∙ ap (λ (o : Option Rule). option_map_or (λ a. positional_fault (rules_of l) false a h) o (stray_fault (sub name (rules_of l)))) place)) tt))
walks name l (word ∷ words) (inl plain, clean) h given None (Some p) position holds place = rw plain
    (goes_on name (rules_of l) (at h idle position) (at (pends given p word) idle (min (position + 1) usize_max)) word words _
    (plain_turn name (rules_of l) h position word plain ∙ (ap (λ (o : Option Rule). option_map_or (λ a. positional_fault (rules_of l) false a h) o (stray_fault (sub name (rules_of l)))) place.0 ∙ (in_place_fault (rules_of l) p h ∙ holds.0)))
    (plain_walk (rules_of l) h position word plain ∙ (ap (λ (o : Option Rule). to_positional (rules_of l) o word (at h idle position) h) place.0 ∙ in_place_walk (rules_of l) p word h position (map row given) holds.1 holds.2))
    (pending_ends name l given None None (Some 1) p word None (min (position + 1) usize_max) words clean place.1 place.2
    (λ holds'. walks name l words clean (pends given p word) (given ++ (p, word) ∷ []) None None (min (position + 1) usize_max) holds' place.1)))
walks name l (word ∷ words) (inl plain, clean) h given (Some x) free position holds place = rw plain
    (goes_on name (rules_of l) (at h (waits_for x) position) (at (pends given x word) idle position) word words _
    (plain_turn_waits name (rules_of l) h x position word plain)
    (plain_walk_waits (rules_of l) h x position word plain ∙ rw (holds.0, holds.1, bytes_eq-refl x) refl)
    (pending_ends name l given (Some x) (Some x) None x word free position words clean place holds.1
    (λ holds'. walks name l words clean (pends given x word) (given ++ (x, word) ∷ []) None free position holds' place)))
walks name l (word ∷ words) (inr (y, ys, is), clean) h given None free position holds place =
    subst (λ (w : Word). Ends name (rules_of l) (at h idle position) (w ∷ words) (option_and_then (λ after. given_from l after words) (word_met l (record { given = given; waiting = None; free = free }) w))) (sym is)
    (long_ends name l y ys words h given free position holds (λ h' given' waiting' holds'. walks name l words clean h' given' waiting' free position holds' place)
    (find (λ o. bytes_eq o.0 (name_in (y ∷ ys))) l.options) (value_in (y ∷ ys)) refl refl)
walks name l (word ∷ words) (inr (y, ys, is), clean) h given (Some x) free position holds place =
    subst (λ (w : Word). Ends name (rules_of l) (at h (waits_for x) position) (w ∷ words) (option_and_then (λ after. given_from l after words) (word_met l (record { given = given; waiting = Some x; free = free }) w))) (sym is)
    (stops name (rules_of l) (at h (waits_for x) position) (long y ys) words (long_stuck name l h (waits_for x) position y ys (rw (holds.0, holds.1) tt)))
