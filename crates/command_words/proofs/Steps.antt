-- How clap's walk goes over the words behind a subcommand.
use Rattle.std.proofs.Common.{◌≡◌, ℕ, Bool, true, false, not, List, [], ◌∷◌, map, Option, Some, None, codes, refl, ap, sym, ◌∙◌, rules, subst}
use Rattle.std.specs.Prelude.{option_map, find, ◌==◌, fold}
use Rattle.std.specs.Option.{option_map_or}
use Rattle.std.specs.Str.{bytes_eq}
use Rattle.clap.specs.Lexer.{long_of, short_of}
use Rattle.clap.specs.Walk.{Rule, Held, Walk, Waiting, idle, next, option as waits_for, arg_by_id, arg_by_long, arg_by_index, settled, positional, after_flag, long_met, to_positional, option_word, walked}
use Rattle.clap.specs.Simple.{Shape, new_shape}
use Rattle.clap.specs.Kinds.{Kinds, or_else}
use Rattle.clap.specs.Faults.{settle_fault, walk_fault, turn_fault, long_fault, positional_fault, stray_fault}
use Rattle.command_words.specs.Given.{Word, Line, Given, is_plain, name_in, value_in}
use Rattle.command_words.proofs.Rules.{cases, true_false, valued, option, rules_of, found, row, long_found}

-- a subcommand, once built
abbrev pub sub : Word → List Rule → Shape
sub name rules = record (new_shape name) { rules = rules; disable_help_flag = true; disable_help_subcommand = true; is_built = true }

abbrev pub IsFault : Kinds → Type 0
IsFault [] = ⊥
IsFault (k ∷ ks) = Unit {0}

pub first_fault : (a b : Kinds) → IsFault a → IsFault (or_else a b)
first_fault [] b h = absurd h
first_fault (k ∷ ks) b h = tt

pub second_fault : (a b : Kinds) → IsFault b → IsFault (or_else a b)
second_fault [] b h = h
second_fault (k ∷ ks) b h = tt

abbrev pub at : Held → Waiting → ℕ → Walk
at h waiting position = record { held = h; waiting = waiting; position = position; is_trailing = false; stopped = None }

-- what fails in the walk, or in the use of what is pending at its end
abbrev pub fault : Word → List Rule → Walk → List Word → Kinds
fault name rules w words = or_else (walk_fault (sub name rules) [] w words) (settle_fault rules false (fold (walked rules []) w words).held)

-- the walk ends as the reading does
abbrev pub Ends : Word → List Rule → Walk → List Word → Option Given → Type 0
Ends name rules w words None = IsFault (fault name rules w words)
Ends name rules w words (Some given) = (fault name rules w words ≡ []) × ((settled rules (fold (walked rules []) w words).held).rows ≡ map row given)

-- the first word fails
pub stops : (name : Word) (rules : List Rule) (w : Walk) (word : Word) (words : List Word) → IsFault (turn_fault (sub name rules) [] w word) → IsFault (fault name rules w (word ∷ words))
unfolding walk_fault
stops name rules w word words h = first_fault _ _ (first_fault (turn_fault (sub name rules) [] w word) _ h)

-- the first word is taken
pub goes_on : (name : Word) (rules : List Rule) (w after : Walk) (word : Word) (words : List Word) (given : Option Given)
    → turn_fault (sub name rules) [] w word ≡ [] → walked rules [] w word ≡ after → Ends name rules after words given → Ends name rules w (word ∷ words) given
unfolding walk_fault
goes_on name rules w after word words None clear step h =
    let here : IsFault (fault name rules (walked rules [] w word) words) = subst (λ (x : Walk). IsFault (fault name rules x words)) (sym step) h in
    subst (λ (t : Kinds). IsFault (or_else (or_else t (walk_fault (sub name rules) [] (walked rules [] w word) words)) (settle_fault rules false (fold (walked rules []) (walked rules [] w word) words).held))) (sym clear) here
goes_on name rules w after word words (Some given) clear step h =
    let here : Ends name rules (walked rules [] w word) words (Some given) = subst (λ (x : Walk). Ends name rules x words (Some given)) (sym step) h in
    (ap (λ (t : Kinds). or_else (or_else t (walk_fault (sub name rules) [] (walked rules [] w word) words)) (settle_fault rules false (fold (walked rules []) (walked rules [] w word) words).held)) clear ∙ here.0, here.1)

-- ---- a word without hyphens

pub plain_is : (word : Word) → is_plain word ≡ true → (bytes_eq word (codes "--") ≡ false) × (long_of word ≡ None) × (short_of word ≡ None)
plain_is [] h = (refl, refl, refl)
plain_is (b ∷ bs) h = cases (b == 45)
    (λ e. absurd (true_false (sym h ∙ ap not e)))
    (λ e. (rw e refl, rw e refl, rw e refl))

pub plain_turn : (name : Word) (rules : List Rule) (h : Held) (position : ℕ) (word : Word) → is_plain word ≡ true
    → turn_fault (sub name rules) [] (at h idle position) word ≡ option_map_or (λ a. positional_fault rules false a h) (arg_by_index rules position) (stray_fault (sub name rules))
plain_turn name rules h position word e = let p = plain_is word e in rw (p.0, p.1, p.2) refl

pub plain_walk : (rules : List Rule) (h : Held) (position : ℕ) (word : Word) → is_plain word ≡ true
    → walked rules [] (at h idle position) word ≡ to_positional rules (arg_by_index rules position) word (at h idle position) h
unfolding walked
plain_walk rules h position word e = let p = plain_is word e in rw (p.0, p.1, p.2) refl

pub plain_turn_waits : (name : Word) (rules : List Rule) (h : Held) (x : Word) (position : ℕ) (word : Word) → is_plain word ≡ true
    → turn_fault (sub name rules) [] (at h (waits_for x) position) word ≡ []
plain_turn_waits name rules h x position word e = let p = plain_is word e in rw (p.0, p.1, p.2) refl

pub plain_walk_waits : (rules : List Rule) (h : Held) (x : Word) (position : ℕ) (word : Word) → is_plain word ≡ true
    → walked rules [] (at h (waits_for x) position) word ≡ at (option_word (arg_by_id rules x) x word h).0 (option_word (arg_by_id rules x) x word h).1 position
unfolding walked
plain_walk_waits rules h x position word e = let p = plain_is word e in rw (p.0, p.1, p.2) refl

-- ---- a word with two hyphens and more

abbrev pub long : ℕ → Word → Word
long y ys = 45 ∷ 45 ∷ y ∷ ys

-- It fails where what is pending can't be used.
stray_option : (name : Word) (rules : List Rule) (o : Option (Word × Bool)) (v : Option Word) (h : Held)
    → IsFault (settle_fault rules false h) → IsFault (long_fault rules false (option_map option o) v h)
stray_option name rules None v h bad = tt
stray_option name rules (Some (x, true)) (Some v) h bad = first_fault _ _ bad
stray_option name rules (Some (x, true)) None h bad = bad
stray_option name rules (Some (x, false)) (Some v) h bad = tt
stray_option name rules (Some (x, false)) None h bad = first_fault _ _ bad

pub long_fails : (name : Word) (l : Line) (h : Held) (waiting : Waiting) (position y : ℕ) (ys : Word)
    → IsFault (long_fault (rules_of l) false (found l (name_in (y ∷ ys))) (value_in (y ∷ ys)) h)
    → IsFault (turn_fault (sub name (rules_of l)) [] (at h waiting position) (long y ys))
long_fails name l h idle position y ys bad = first_fault _ _ (subst (λ (o : Option Rule). IsFault (long_fault (rules_of l) false o (value_in (y ∷ ys)) h)) (sym (long_found l (name_in (y ∷ ys)))) bad)
long_fails name l h (waits_for x) position y ys bad = first_fault _ _ (subst (λ (o : Option Rule). IsFault (long_fault (rules_of l) false o (value_in (y ∷ ys)) h)) (sym (long_found l (name_in (y ∷ ys)))) bad)
long_fails name l h positional position y ys bad = first_fault _ _ (subst (λ (o : Option Rule). IsFault (long_fault (rules_of l) false o (value_in (y ∷ ys)) h)) (sym (long_found l (name_in (y ∷ ys)))) bad)

pub long_stuck : (name : Word) (l : Line) (h : Held) (waiting : Waiting) (position y : ℕ) (ys : Word)
    → IsFault (settle_fault (rules_of l) false h) → IsFault (turn_fault (sub name (rules_of l)) [] (at h waiting position) (long y ys))
long_stuck name l h waiting position y ys bad = long_fails name l h waiting position y ys
    (stray_option name (rules_of l) (find (λ o. bytes_eq o.0 (name_in (y ∷ ys))) l.options) (value_in (y ∷ ys)) h bad)

-- where it is taken, and what it leaves
pub long_turn : (name : Word) (l : Line) (h after : Held) (w : Waiting) (position y : ℕ) (ys : Word) (o : Option Rule) (v : Option Word)
    → arg_by_long (rules_of l) (name_in (y ∷ ys)) ≡ o → value_in (y ∷ ys) ≡ v
    → long_fault (rules_of l) false o v h ≡ []
    → after_flag (rules_of l) idle (long y ys) (long_met (rules_of l) o v h).0 (long_met (rules_of l) o v h).1 ≡ (after, next w)
    → (turn_fault (sub name (rules_of l)) [] (at h idle position) (long y ys) ≡ []) × (walked (rules_of l) [] (at h idle position) (long y ys) ≡ at after w position)
unfolding walked
long_turn name l h after w position y ys o v found valued clear met = rw (found, valued, clear, met) (refl, refl)
