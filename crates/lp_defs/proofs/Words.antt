-- The words with a meaning of their own: those that the kinds look for are those that no name may be.
use Rattle.std.proofs.Common.{◌≡◌, refl, ◌∙◌, ap, Bool, true, false, cond, ◌||◌, List, [], ◌∷◌, ◌++◌, ℕ, Option, Some, None, is_some, Ok, Err}
use Rattle.std.specs.Str.{str_eq_ignore_ascii_case}
use Rattle.std.proofs.lemmas.List.Folds.{list_any-append}
use Rattle.base_names.specs.declared.refusal.FaultWord.TheVariants.{Unsupported}
use Rattle.model_data.specs.Names.{is_reserved}
use Rattle.model_data.specs.Words.{binary_words, bounds_words, constraints_words, end_words, free_words, general_words, infinite_words, maximize_words, minimize_words, subject_words, such_words, unsupported_words}
use Rattle.lp_defs.specs.declared.token.SectionWord.TheVariants.{Binary, Bounds, Constraints, End, Free, General, Maximize, Minimize, Subject, Such}
use Rattle.lp_defs.specs.declared.token.TokenKind.TheVariants.{Section}
use Rattle.lp_defs.specs.Kinds.{Kind, is_any_word, is_word_of_its_own, section_of}

pub record Entry : Type 0 where
  pub words : List (List ℕ)
  pub kind : Kind

abbrev pub found_in : List Entry → List ℕ → Option Kind
found_in [] run = None
found_in (entry ∷ more) run = cond (is_any_word entry.words run) (Some entry.kind) (found_in more run)

abbrev pub all_words : List Entry → List (List ℕ)
all_words [] = infinite_words
all_words (entry ∷ more) = entry.words ++ all_words more

abbrev pub sections : List Entry
sections =
    (record { words = minimize_words; kind = Ok (Section Minimize) })
    ∷ (record { words = maximize_words; kind = Ok (Section Maximize) })
    ∷ (record { words = subject_words; kind = Ok (Section Subject) })
    ∷ (record { words = such_words; kind = Ok (Section Such) })
    ∷ (record { words = constraints_words; kind = Ok (Section Constraints) })
    ∷ (record { words = bounds_words; kind = Ok (Section Bounds) })
    ∷ (record { words = general_words; kind = Ok (Section General) })
    ∷ (record { words = binary_words; kind = Ok (Section Binary) })
    ∷ (record { words = free_words; kind = Ok (Section Free) })
    ∷ (record { words = end_words; kind = Ok (Section End) })
    ∷ (record { words = unsupported_words; kind = Err Unsupported })
    ∷ []

either_way : (b inf : Bool) (kind : Kind) (more : Option Kind) → (b || (is_some more || inf)) ≡ (is_some (cond b (Some kind) more) || inf)
either_way true inf kind more = refl
either_way false inf kind more = refl

pub found_in-all_words : (entries : List Entry) (run : List ℕ) → is_any_word (all_words entries) run ≡ (is_some (found_in entries run) || is_any_word infinite_words run)
found_in-all_words [] run = refl
found_in-all_words (entry ∷ more) run =
    list_any-append (λ word. str_eq_ignore_ascii_case word run) entry.words (all_words more)
    ∙ (ap (λ b. is_any_word entry.words run || b) (found_in-all_words more run)
    ∙ either_way (is_any_word entry.words run) (is_any_word infinite_words run) entry.kind (found_in more run))

pub is_reserved-word : (run : List ℕ) → is_reserved run ≡ is_word_of_its_own run
unfolding section_of
is_reserved-word run = found_in-all_words sections run

pub section_of-found : (run : List ℕ) → section_of run ≡ found_in sections run
unfolding section_of
section_of-found run = refl
