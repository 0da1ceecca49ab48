-- What a run is: the kind of a token, or a fault. The kinds are tried in this order; words are read without regard to case.
use Rattle.std.specs.Prelude.{ℕ, ◌-◌, Bool, true, false, ◌||◌, List, [], ◌∷◌, length, take, ◌==◌, nat_le, codes, slice_index, Option, Some, None, is_some, unwrap_or, Result, Ok, Err, if◌then◌else◌}
use Rattle.std.specs.Char.{is_ascii_digit}
use Rattle.std.specs.List.{list_any}
use Rattle.std.specs.Str.{bytes_eq, str_eq_ignore_ascii_case}
use Rattle.frac128.specs.Fraction.{Fraction}
use Rattle.frac_text.specs.Reading.{behind_sign, is_negative, reading}
use Rattle.frac_text.specs.declared.fault.NumFault.{NumFault}
use Rattle.frac_text.specs.declared.fault.NumFault.TheVariants.{NotNumber, TooWide as too_wide}
use Rattle.base_names.specs.declared.refusal.FaultWord.{FaultWord}
use Rattle.base_names.specs.declared.refusal.FaultWord.TheVariants.{NameLength, Number as bad_number, Unsupported, Word}
use Rattle.model_data.specs.Names.{is_one_of}
use Rattle.model_data.specs.Words.{binary_words, bounds_words, constraints_words, end_words, free_words, general_words, maximize_words, minimize_words, subject_words, such_words}
pub use Rattle.model_data.specs.Words.{infinite_words, unsupported_words}
use Rattle.model_data.specs.declared.limits.TheConstants.{MAX_NAME_LEN}
use Rattle.model_data.specs.declared.model.Sense.TheVariants.{Equal, Greater, Less}
use Rattle.lp_defs.specs.declared.token.SectionWord.TheVariants.{Binary, Bounds, Constraints, End, Free, General, Maximize, Minimize, Subject, Such}
use Rattle.lp_defs.specs.declared.token.TokenKind.{TokenKind}
use Rattle.lp_defs.specs.declared.token.TokenKind.TheVariants.{Colon, Comparison, Infinite, Label, Name, Number, Section, Sign, TooWide}

abbrev pub Kind : Type 0
Kind = Result TokenKind FaultWord

abbrev pub is_any : List (List ℕ) → List ℕ → Bool
is_any words run = list_any (λ word. bytes_eq word run) words

-- without regard to case
abbrev pub is_any_word : List (List ℕ) → List ℕ → Bool
is_any_word words run = list_any (λ word. str_eq_ignore_ascii_case word run) words

-- it begins with one of the bytes
abbrev pub begins_with : List ℕ → List ℕ → Bool
begins_with bytes [] = false
begins_with bytes (byte ∷ _) = is_one_of bytes byte

-- signs, colons, comparisons, and what begins with a bracket
unfoldable pub symbol_of : List ℕ → Option Kind
symbol_of run =
    if is_any (codes "+" ∷ []) run then Some (Ok (Sign false))
    else (if is_any (codes "-" ∷ []) run then Some (Ok (Sign true))
    else (if is_any (codes ":" ∷ []) run then Some (Ok Colon)
    else (if is_any (codes "<" ∷ codes "<=" ∷ codes "=<" ∷ []) run then Some (Ok (Comparison Less))
    else (if is_any (codes ">" ∷ codes ">=" ∷ codes "=>" ∷ []) run then Some (Ok (Comparison Greater))
    else (if is_any (codes "=" ∷ []) run then Some (Ok (Comparison Equal))
    else (if is_any (codes "->" ∷ []) run then Some (Err Unsupported)
    else (if begins_with (codes "[") run then Some (Err Unsupported)
    else None)))))))

abbrev pub number_kind : Result Fraction NumFault → Kind
number_kind (Ok value) = Ok (Number value)
number_kind (Err NotNumber) = Err bad_number
number_kind (Err (too_wide negative huge)) = Ok (TooWide negative huge)

abbrev pub is_infinite : List ℕ → Bool
is_infinite run = is_any_word infinite_words (behind_sign run)

abbrev pub begins_number : List ℕ → Bool
begins_number [] = false
begins_number (byte ∷ _) = is_ascii_digit byte || is_one_of (codes ".+-") byte

-- infinite numbers, and what begins with a digit, a point or a sign
unfoldable pub quantity_of : List ℕ → Option Kind
quantity_of run =
    if is_infinite run then Some (Ok (Infinite (is_negative run)))
    else (if begins_number run then Some (number_kind (reading run))
    else None)

-- section words
unfoldable pub section_of : List ℕ → Option Kind
section_of run =
    if is_any_word minimize_words run then Some (Ok (Section Minimize))
    else (if is_any_word maximize_words run then Some (Ok (Section Maximize))
    else (if is_any_word subject_words run then Some (Ok (Section Subject))
    else (if is_any_word such_words run then Some (Ok (Section Such))
    else (if is_any_word constraints_words run then Some (Ok (Section Constraints))
    else (if is_any_word bounds_words run then Some (Ok (Section Bounds))
    else (if is_any_word general_words run then Some (Ok (Section General))
    else (if is_any_word binary_words run then Some (Ok (Section Binary))
    else (if is_any_word free_words run then Some (Ok (Section Free))
    else (if is_any_word end_words run then Some (Ok (Section End))
    else (if is_any_word unsupported_words run then Some (Err Unsupported)
    else None))))))))))

abbrev pub colon : ℕ
colon = 58

abbrev pub ends_in_colon : List ℕ → Bool
ends_in_colon run = slice_index run (length run - 1) == colon

-- the bytes before the last one
abbrev pub front_of : List ℕ → List ℕ
front_of run = take (length run - 1) run

-- a name, where no other kind fits
unfoldable pub name_of : List ℕ → Kind
name_of run =
    if (is_one_of run colon || begins_with (codes "*^<>=()],") run) then Err Word
    else (if nat_le (length run) MAX_NAME_LEN then Ok Name
    else Err NameLength)

abbrev pub as_label : Kind → Kind
as_label (Ok kind) = Ok Label
as_label (Err fault) = Err fault

-- a word with a meaning of its own
abbrev pub is_word_of_its_own : List ℕ → Bool
is_word_of_its_own run = is_some (section_of run) || is_any_word infinite_words run

-- What stands before the colon is judged as a run of its own, and has to be a name.
unfoldable pub label_of : List ℕ → Kind
label_of front = if is_word_of_its_own front then Err Word else as_label (name_of front)

unfoldable pub kind_of : List ℕ → Kind
kind_of run = unwrap_or (symbol_of run) (unwrap_or (quantity_of run) (unwrap_or (section_of run) (if ends_in_colon run then label_of (front_of run) else name_of run)))
