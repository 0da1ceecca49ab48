-- The words with a meaning of their own in a model's text, by their meaning. They are read in letters of any case.
use Rattle.std.specs.Prelude.{ℕ, List, [], ◌∷◌, ◌++◌, codes}

abbrev pub minimize_words : List (List ℕ)
minimize_words = codes "minimize" ∷ codes "minimise" ∷ codes "minimum" ∷ codes "min" ∷ []

abbrev pub maximize_words : List (List ℕ)
maximize_words = codes "maximize" ∷ codes "maximise" ∷ codes "maximum" ∷ codes "max" ∷ []

-- the first word of `subject to`
abbrev pub subject_words : List (List ℕ)
subject_words = codes "subject" ∷ []

-- the first word of `such that`
abbrev pub such_words : List (List ℕ)
such_words = codes "such" ∷ []

-- these stand alone
abbrev pub constraints_words : List (List ℕ)
constraints_words = codes "st" ∷ codes "st." ∷ codes "s.t." ∷ []

abbrev pub bounds_words : List (List ℕ)
bounds_words = codes "bounds" ∷ codes "bound" ∷ []

abbrev pub general_words : List (List ℕ)
general_words = codes "general" ∷ codes "generals" ∷ codes "gen" ∷ []

abbrev pub binary_words : List (List ℕ)
binary_words = codes "binary" ∷ codes "binaries" ∷ codes "bin" ∷ []

abbrev pub free_words : List (List ℕ)
free_words = codes "free" ∷ []

abbrev pub end_words : List (List ℕ)
end_words = codes "end" ∷ []

-- sections that are left out
abbrev pub unsupported_words : List (List ℕ)
unsupported_words = codes "semi-continuous" ∷ codes "semis" ∷ codes "semi" ∷ codes "sos" ∷ codes "pwlobj" ∷ codes "multi-objectives" ∷ codes "scenario" ∷ []

abbrev pub infinite_words : List (List ℕ)
infinite_words = codes "inf" ∷ codes "infinity" ∷ []

-- all of them
abbrev pub reserved_words : List (List ℕ)
reserved_words =
    minimize_words ++ maximize_words ++ subject_words ++ such_words ++ constraints_words
    ++ bounds_words ++ general_words ++ binary_words ++ free_words ++ end_words
    ++ unsupported_words ++ infinite_words
