-- clap takes a command line exactly where `reads` reads it.
use Rattle.std.proofs.Common.{◌≡◌, true, false, List, [], ◌∷◌, ◌++◌, map, Option, Some, None, codes, refl, ap, sym, ◌∙◌, subst, inl, inr, append_assoc}
use Rattle.std.specs.Prelude.{option_map, option_and_then, find, fold, ◌⊎◌}
use Rattle.std.specs.Str.{bytes_eq}
use Rattle.std.proofs.lemmas.List.{append-nil}
use Rattle.clap.specs.Walk.{Row, Walk, walk_from, nothing_held, walk, walked, with_default, rows_after, stop_after, answers_to, Names}
use Rattle.clap.specs.Simple.{App, Shape, label_of, entered, rows_at, new_shape, built, is_simple}
use Rattle.clap.specs.Kinds.{Kinds}
use Rattle.clap.specs.Faults.{walk_fault, defaults_fault, level_fault, is_simple_and_free, built_fault}
use Rattle.command_words.specs.Given.{Word, Line, Given, given}
use Rattle.command_words.specs.Table.{Table, table, subcommand, given_behind, reads}
use Rattle.command_words.specs.Commands.{bare, with_commands}
use Rattle.command_words.proofs.Rules.{cases, rules_of, row, bytes_eq-true}
use Rattle.command_words.proofs.Steps.{IsFault, sub, long, plain_is}
use Rattle.command_words.proofs.Endings.{AreClean, IsClean}
use Rattle.command_words.proofs.Levels.{IsApart, LevelIs, level, or_else-nil}

-- the program's command, once built
abbrev pub top : Shape
top = record (new_shape (codes "cluster_server")) { is_leaf = false; disable_help_flag = true; disable_help_subcommand = true; is_built = true }

abbrev pub sub_of : Word × Line → Shape
sub_of (name, l) = sub name (rules_of l)

abbrev pub program : Table → App
program t = record { top = top; subs = map sub_of t }

pub table_built : built (with_commands bare table) ≡ program table
table_built = refl

pub table_free : is_simple_and_free (with_commands bare table) ≡ true
table_free = refl

pub table_simple : is_simple (with_commands bare table) ≡ true
table_simple = refl

-- ---- the subcommand's name

abbrev pub names : Table → Names
names t = map label_of (map sub_of t)

name_met : (t : Table) (word : Word) → option_map (λ s. s.0) (find (answers_to word) (names t)) ≡ option_map (λ p. p.0) (subcommand t word)
name_met [] word = refl
name_met ((n, l) ∷ t) word = cases (bytes_eq n word) (λ e. rw e refl) (λ e. rw e (name_met t word))

sub_met : (t : Table) (word : Word) (p : Word × Line) → subcommand t word ≡ Some p → find (λ s. answers_to word (label_of s)) (map sub_of t) ≡ Some (sub_of p)
sub_met [] word p h = absurd (cc)
sub_met ((n, l) ∷ t) word p h = cases (bytes_eq n word)
    (λ e. let h' : Some (n, l) ≡ Some p = (rw e at h) in rw e (ap (option_map sub_of) h'))
    (λ e. rw e (sub_met t word p (rw e at h)))

own_name : (t : Table) (word : Word) (p : Word × Line) → subcommand t word ≡ Some p → p.0 ≡ word
own_name [] word p h = absurd (cc)
own_name (q ∷ t) word p h = cases (bytes_eq q.0 word)
    (λ e. let h' : Some q ≡ Some p = (rw e at h) in let same : q ≡ p = cc in ap (λ (x : Word × Line). x.0) (sym same) ∙ bytes_eq-true q.0 word e)
    (λ e. own_name t word p (rw e at h))

-- ---- the words behind it go to it

abbrev pub stopped : Word → List Word → Walk
stopped n words = record (walk_from nothing_held) { stopped = Some (n, words) }

stopped_walk : (t : Table) (n : Word) (front words : List Word) → fold (walked [] (names t)) (stopped n front) words ≡ stopped n (front ++ words)
unfolding walked
stopped_walk t n front [] = ap (stopped n) (sym (append-nil front))
stopped_walk t n front (word ∷ words) = stopped_walk t n (front ++ word ∷ []) words ∙ ap (stopped n) (append_assoc front (word ∷ []) words)

stopped_fault : (t : Table) (n : Word) (front words : List Word) → walk_fault top (names t) (stopped n front) words ≡ []
unfolding walk_fault walked
stopped_fault t n front [] = refl
stopped_fault t n front (word ∷ words) = stopped_fault t n (front ++ word ∷ []) words

-- ---- the whole

abbrev pub top_fault : Table → List Word → Kinds
top_fault t words = built_fault (program t) nothing_held words

abbrev pub top_sub : Table → List Word → Option (Word × List Row)
top_sub t words = entered (program t) (stop_after [] (names t) words)

abbrev pub TopIs : Table → List Word → Option (Word × Given) → Type 0
TopIs t words None = IsFault (top_fault t words) ⊎ (top_sub t words ≡ None)
TopIs t words (Some p) = (top_fault t words ≡ []) × ((l : Line) × (subcommand t p.0 ≡ Some (p.0, l)) × (top_sub t words ≡ Some (p.0, fold with_default (map row p.1) (rules_of l))))

none_met : (t : Table) (word : Word) (words : List Word) → IsClean word → subcommand t word ≡ None → IsFault (top_fault t (word ∷ words))
unfolding walk_fault
none_met t word words (inl plain) none =
    let name : option_map (λ s. s.0) (find (answers_to word) (names t)) ≡ None = name_met t word ∙ ap (option_map (λ (p : Word × Line). p.0)) none in
    let p = plain_is word plain in
    rw (name, p.0, p.1, p.2) tt
none_met t word words (inr (y, ys, is)) none =
    let name : option_map (λ s. s.0) (find (answers_to (long y ys)) (names t)) ≡ None = name_met t (long y ys) ∙ ap (option_map (λ (p : Word × Line). p.0)) (ap (subcommand t) (sym is) ∙ none) in
    subst (λ (w : Word). IsFault (top_fault t (w ∷ words))) (sym is) (rw name tt)

met_walk : (t : Table) (word : Word) (words : List Word) (p : Word × Line) → subcommand t word ≡ Some p → walk [] (names t) nothing_held (word ∷ words) ≡ stopped p.0 words
unfolding walked
met_walk t word words p is =
    let name : option_map (λ s. s.0) (find (answers_to word) (names t)) ≡ Some p.0 = name_met t word ∙ ap (option_map (λ (p : Word × Line). p.0)) is in
    rw name (stopped_walk t p.0 [] words)

met_clear : (t : Table) (word : Word) (words : List Word) (p : Word × Line) → subcommand t word ≡ Some p → walk_fault top (names t) (walk_from nothing_held) (word ∷ words) ≡ []
unfolding walk_fault walked
met_clear t word words p is =
    let name : option_map (λ s. s.0) (find (answers_to word) (names t)) ≡ Some p.0 = name_met t word ∙ ap (option_map (λ (p : Word × Line). p.0)) is in
    rw name (cases (bytes_eq p.0 (codes "help")) (λ e. rw e (stopped_fault t p.0 [] words)) (λ e. rw e (stopped_fault t p.0 [] words)))

own_sub : (t : Table) (word : Word) (p : Word × Line) → subcommand t word ≡ Some p → subcommand t p.0 ≡ Some p
own_sub t word p is = ap (subcommand t) (own_name t word p is) ∙ is

met_fault : (t : Table) (word : Word) (words : List Word) (p : Word × Line) → subcommand t word ≡ Some p
    → top_fault t (word ∷ words) ≡ level_fault (sub_of p) [] nothing_held words false []
unfolding defaults_fault
met_fault t word words p is =
    rw (met_clear t word words p is, met_walk t word words p is, sub_met t p.0 p (own_sub t word p is)) (or_else-nil (level_fault (sub_of p) [] nothing_held words false []))

met_sub : (t : Table) (word : Word) (words : List Word) (p : Word × Line) → subcommand t word ≡ Some p
    → top_sub t (word ∷ words) ≡ Some (p.0, rows_after (rules_of p.1) [] words)
met_sub t word words p is = ap (λ (w : Walk). entered (program t) w.stopped) (met_walk t word words p is)
    ∙ ap (option_map (λ (s : Shape). rows_at s words)) (sub_met t p.0 p (own_sub t word p is))

-- each line's place has a name of its own
abbrev pub AreApart : Table → Type 0
AreApart t = (word : Word) (p : Word × Line) → subcommand t word ≡ Some p → IsApart p.1

from_level : (t : Table) (word : Word) (words : List Word) (p : Word × Line) (o : Option Given) → subcommand t word ≡ Some p → LevelIs p.0 p.1 words o → TopIs t (word ∷ words) (option_map (λ g. (p.0, g)) o)
from_level t word words p None is h = inl (subst IsFault (sym (met_fault t word words p is)) h)
from_level t word words p (Some g) is h = (met_fault t word words p is ∙ h.0, (p.1, own_sub t word p is, met_sub t word words p is ∙ ap (λ (rows : List Row). Some (p.0, rows)) h.1))

from_found : (t : Table) (apart : AreApart t) (word : Word) (words : List Word) (o : Option (Word × Line)) → subcommand t word ≡ o → IsClean word → AreClean words → TopIs t (word ∷ words) (option_and_then (given_behind words) o)
from_found t apart word words None is clean more = inl (none_met t word words clean is)
from_found t apart word words (Some p) is clean more = from_level t word words p (given p.1 words) is (level p.0 p.1 words (apart word p is) more)

-- what a command line comes to; the first word is the program's name
pub tops : (t : Table) → AreApart t → (program : Word) (words : List Word) → AreClean words → TopIs t words (reads t (program ∷ words))
unfolding walk_fault defaults_fault
tops t apart program [] clean = inr refl
tops t apart program (word ∷ words) clean = from_found t apart word words (subcommand t word) refl clean.0 clean.1
