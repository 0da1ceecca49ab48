-- Which words may stand behind which subcommand.
use Rattle.std.specs.Prelude.{Bool, true, false, List, [], ◌∷◌, Option, Some, None, codes, option_map, option_and_then, find}
use Rattle.std.specs.Str.{bytes_eq}
use Rattle.command_words.specs.Given.{Word, Line, Given, given}

abbrev pub line : List (Word × Bool) → Option Word → Line
line options place = record { options = options; place = place }

abbrev pub journal : Word × Bool
journal = (codes "journal", true)

abbrev pub session_line : Line
session_line = line ((codes "admin", false) ∷ journal ∷ []) (Some (codes "NAME"))

abbrev pub work_line : Line
work_line = line (journal ∷ []) None

abbrev pub solve_line : Line
solve_line = line ((codes "iterations", true) ∷ (codes "nodes", true) ∷ (codes "work", true) ∷ []) None

abbrev pub load_line : Line
load_line = line [] (Some (codes "SEED"))

abbrev pub serve_line : Line
serve_line = line ((codes "keys", true) ∷ (codes "port", true) ∷ journal ∷ (codes "nodes", true) ∷ (codes "joblimit", true) ∷ (codes "hardlimit", true) ∷ (codes "workers", true) ∷ []) None

abbrev pub Table : Type 0
Table = List (Word × Line)

abbrev pub table : Table
table = (codes "session", session_line) ∷ (codes "work", work_line) ∷ (codes "replay", line [] None)
    ∷ (codes "solve", solve_line) ∷ (codes "verify", line [] None) ∷ (codes "limits", line [] None)
    ∷ (codes "load", load_line) ∷ (codes "serve", serve_line) ∷ []

abbrev pub subcommand : Table → Word → Option (Word × Line)
subcommand t word = find (λ p. bytes_eq p.0 word) t

-- the subcommand's name, and what the words behind it give
abbrev pub given_behind : List Word → Word × Line → Option (Word × Given)
given_behind words p = option_map (λ g. (p.0, g)) (given p.1 words)

-- The first word is the program's name, the second the subcommand.
abbrev pub reads : Table → List Word → Option (Word × Given)
reads t [] = None
reads t (program ∷ []) = None
reads t (program ∷ command ∷ words) = option_and_then (given_behind words) (subcommand t command)
