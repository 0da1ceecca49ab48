-- The commands by which clap reads the table.
use Rattle.std.specs.Prelude.{ℕ, ◌≡◌, MatchOption, Result, Ok, Err, fold, Bool, true, false, List, [], ◌∷◌, ◌++◌, map, Option, Some, None, codes, ◌||◌, ◌&&◌, nat_eq, nat_lt, length}
use Rattle.std.specs.List.{starts_with}
use Rattle.clap.specs.Walk.{Rule, Row, with_default}
use Rattle.clap.specs.declared.parser.matches.ArgMatches.{ArgMatches}
use Rattle.base_names.specs.declared.memory.OrMemory.{OrMemory}
use Rattle.base_names.specs.declared.memory.OrMemory.TheVariants.{Fault, NoMemory}
use Rattle.command_words.specs.declared.asked.WordsFault.{WordsFault}
use Rattle.clap.specs.declared.builder.action.ArgAction.TheVariants.{Set}
use Rattle.clap.specs.declared.builder.value_parser.ValueParser.TheVariants as vp
use Rattle.clap.specs.declared.builder.value_parser.Reading.TheVariants.{AsWritten}
use Rattle.clap.specs.declared.parser.matches.ValueSource.TheVariants.{CommandLine}
use Rattle.clap.specs.Simple.{App, Shape, new_rule, new_shape, subcommand_rows_of, with_subcommand}
use Rattle.clap.specs.declared.builder.action.ArgAction.TheVariants.{SetTrue}
use Rattle.command_words.specs.Given.{Word, Line, Given, is_plain}
use Rattle.command_words.specs.Table.{Table, table, subcommand, reads}

abbrev pub option_arg : Word × Bool → Rule
option_arg (name, true) = record (new_rule name) { long = Some name }
option_arg (name, false) = record (new_rule name) { long = Some name; action = Some SetTrue }

abbrev pub place_args : Option Word → List Rule
place_args None = []
place_args (Some name) = new_rule name ∷ []

abbrev pub command_of : Word × Line → Shape
command_of (name, l) = record (new_shape name) { rules = map option_arg l.options ++ place_args l.place }

-- the program's command without subcommands; it has no words for help
abbrev pub bare : App
bare = record { top = record (new_shape (codes "cluster_server")) { disable_help_flag = true; disable_help_subcommand = true }; subs = [] }

abbrev pub with_commands : App → Table → App
with_commands a [] = a
with_commands a (p ∷ t) = with_commands (with_subcommand a (command_of p)) t

-- ---- what clap makes of them, and keeps

-- an argument with one value, once built
abbrev pub valued : Option Word → Option ℕ → Word → Rule
valued long index name = record {
  id = name;
  long = long;
  aliases = [];
  short = None;
  short_aliases = [];
  index = index;
  action = Some Set;
  range = Some (record { start_inclusive = 1; end_inclusive = 1 });
  value_names = 0;
  defaults = [];
  missing = [];
  trailing_var_arg = false;
  parser = Some vp.String;
  ignore_case = false;
  required = false;
  is_simple = true;
  is_free = true;
}

-- a flag, once built
abbrev pub flag : Word → Rule
flag name = record {
  id = name;
  long = Some name;
  aliases = [];
  short = None;
  short_aliases = [];
  index = None;
  action = Some SetTrue;
  range = Some (record { start_inclusive = 0; end_inclusive = 0 });
  value_names = 0;
  defaults = codes "false" ∷ [];
  missing = codes "true" ∷ [];
  trailing_var_arg = false;
  parser = Some vp.Bool;
  ignore_case = false;
  required = false;
  is_simple = true;
  is_free = true;
}

abbrev pub option : Word × Bool → Rule
option (name, true) = valued (Some name) None name
option (name, false) = flag name

abbrev pub in_place : Word → Rule
in_place name = valued None (Some 1) name

abbrev pub place_rules : Option Word → List Rule
place_rules None = []
place_rules (Some name) = in_place name ∷ []

abbrev pub rules_of : Line → List Rule
rules_of l = map option l.options ++ place_rules l.place

-- what clap keeps of what was given
abbrev pub row : Word × Word → Row
row (name, value) = record { id = name; values = value ∷ []; count = None; source = Some CommandLine; reading = AsWritten }

-- the rows of a subcommand's matches
abbrev pub kept : Line → Given → List Row
kept l given = fold with_default (map row given) (rules_of l)

-- what was parsed is what was read
abbrev pub IsRead : ArgMatches → Word × Given → Type 0
IsRead m p = (l : Line) × (subcommand table p.0 ≡ Some (p.0, l)) × (subcommand_rows_of m ≡ Some (p.0, kept l p.1))

abbrev pub IsParsedAs : Result ArgMatches (OrMemory WordsFault) → List Word → Type 0
IsParsedAs (Ok m) words = MatchOption (reads table words) (subcommand_rows_of m ≡ None) (IsRead m)
IsParsedAs (Err (Fault _)) words = reads table words ≡ None
IsParsedAs (Err NoMemory) words = Unit {0}

-- a word that clap may be given: without hyphens, or with two and more
abbrev pub is_clean : Word → Bool
is_clean word = is_plain word || (starts_with nat_eq word (codes "--") && nat_lt 2 (length word))
