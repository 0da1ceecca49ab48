-- What the first byte of a run leaves of the tests that say what it is.
use Rattle.std.specs.Prelude.{ℕ, Bool, false, ◌||◌, List, ◌==◌, codes, Option, Some, None, unwrap_or, Ok, Err, if◌then◌else◌}
use Rattle.std.specs.Char.{is_ascii_digit, to_ascii_lowercase}
use Rattle.model_data.specs.Names.{is_one_of}
use Rattle.model_data.specs.Words.{binary_words, bounds_words, constraints_words, infinite_words, maximize_words, minimize_words, subject_words, such_words, unsupported_words}
use Rattle.base_names.specs.declared.refusal.FaultWord.TheVariants.{Unsupported}
use Rattle.lp_defs.specs.declared.token.SectionWord.{SectionWord}
use Rattle.lp_defs.specs.declared.token.SectionWord.TheVariants.{Binary, Bounds, Constraints, Maximize, Minimize, Subject, Such}
use Rattle.lp_defs.specs.declared.token.TokenKind.TheVariants.{Infinite, Section}
use Rattle.lp_defs.specs.Kinds.{Kind, ends_in_colon, front_of, is_any_word, label_of, name_of, section_of}

-- a byte that a sign, a colon, a comparison or a bracket begins with
abbrev pub begins_symbol : ℕ → Bool
begins_symbol byte = is_one_of (codes "+-:<=>[") byte

-- a digit or a point
abbrev pub begins_unsigned : ℕ → Bool
begins_unsigned byte = is_ascii_digit byte || 46 == byte

-- a letter that a word with a meaning of its own begins with
abbrev pub begins_word : ℕ → Bool
begins_word byte = is_one_of (codes "befgimps") (to_ascii_lowercase byte)

abbrev pub word_if : Bool → SectionWord → Option Kind
word_if is_word word = if is_word then Some (Ok (Section word)) else None

abbrev pub unsupported_section : List ℕ → Option Kind
unsupported_section run = if is_any_word unsupported_words run then Some (Err Unsupported) else None

-- the section words that begin with M, S and B
abbrev pub section_in_m : List ℕ → Option Kind
section_in_m run =
    if is_any_word minimize_words run then Some (Ok (Section Minimize))
    else (if is_any_word maximize_words run then Some (Ok (Section Maximize))
    else unsupported_section run)

abbrev pub section_in_s : List ℕ → Option Kind
section_in_s run =
    if is_any_word subject_words run then Some (Ok (Section Subject))
    else (if is_any_word such_words run then Some (Ok (Section Such))
    else (if is_any_word constraints_words run then Some (Ok (Section Constraints))
    else unsupported_section run))

abbrev pub section_in_b : List ℕ → Option Kind
section_in_b run =
    if is_any_word bounds_words run then Some (Ok (Section Bounds))
    else word_if (is_any_word binary_words run) Binary

abbrev pub label_or_name : List ℕ → Kind
label_or_name run = if ends_in_colon run then label_of (front_of run) else name_of run

abbrev pub word_or_name : List ℕ → Kind
word_or_name run = if is_any_word infinite_words run then Ok (Infinite false) else unwrap_or (section_of run) (label_or_name run)
