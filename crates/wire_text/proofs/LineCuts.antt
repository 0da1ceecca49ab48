-- What cutting a word off the front of a line does to the words of the line.
use Rattle.std.proofs.Common.{◌≡◌, ◌<◌, ℕ, Bool, true, false, List, [], ◌∷◌, ◌++◌, length, take, drop, All, refl, sym, ap, ◌∙◌, add-zero, zero, suc, arith}
use Rattle.std.specs.Prelude.{slice_index, filter, not}
use Rattle.std.proofs.Math.Bool.{beq}
use Rattle.std.proofs.lemmas.Bool.{false≢true}
use Rattle.std.proofs.lemmas.List.{take-append-drop, get_or-drop, append-nil, length-drop}
use Rattle.std.proofs.lemmas.List.Elements.{All-head, All-tail}
use Rattle.std.proofs.lemmas.List.Splits.{slice_split-cons_yes, slice_split_at, slice_split_none}
use Rattle.wire_text.specs.Line.{is_blank, is_word, words_of}

pub words_of-blank : (byte : ℕ) (line : List ℕ) → is_blank byte ≡ true → words_of (byte ∷ line) ≡ words_of line
words_of-blank byte line blank = ap (filter is_word) (slice_split-cons_yes is_blank byte line blank)

-- blanks at the front count for nothing
words_of-blanks : (blanks line : List ℕ) → All (λ byte. is_blank byte ≡ true) blanks → words_of (blanks ++ line) ≡ words_of line
words_of-blanks [] line all = refl
words_of-blanks (byte ∷ blanks) line all =
    words_of-blank byte (blanks ++ line) (All-head (λ byte. is_blank byte ≡ true) byte blanks all) ∙ words_of-blanks blanks line (All-tail (λ byte. is_blank byte ≡ true) byte blanks all)

-- a longest run of bytes that are no blanks is the first word
pub words_of-word : (byte : ℕ) (bytes rest : List ℕ) → All (λ byte. is_blank byte ≡ false) (byte ∷ bytes) → (0 < length rest → is_blank (slice_index rest 0) ≡ true) → words_of ((byte ∷ bytes) ++ rest) ≡ (byte ∷ bytes) ∷ words_of rest
words_of-word byte bytes [] all ends =
    let whole : (byte ∷ bytes) ++ [] ≡ byte ∷ bytes = append-nil (byte ∷ bytes) in
    ap words_of whole ∙ ap (filter is_word) (slice_split_none is_blank (byte ∷ bytes) all)
words_of-word byte bytes (blank ∷ rest) all ends =
    let is : is_blank blank ≡ true = ends (omega arith) in
    ap (filter is_word) (slice_split_at is_blank (byte ∷ bytes) blank rest all is) ∙ ap (λ words. (byte ∷ bytes) ∷ words) (sym (words_of-blank blank rest is))

-- a line from behind its first blanks on has the same words
pub words_of-behind : (n : ℕ) (line : List ℕ) → All (λ byte. is_blank byte ≡ true) (take n line) → words_of (drop n line) ≡ words_of line
words_of-behind n line all = sym (words_of-blanks (take n line) (drop n line) all) ∙ ap words_of (take-append-drop n line)

-- a line that begins with no blank is cut behind its first word
words_of-cut : (n : ℕ) (line : List ℕ) → 0 < length line → is_blank (slice_index line 0) ≡ false → All (λ byte. is_blank byte ≡ false) (take n line) → (n < length line → is_blank (slice_index line n) ≡ true) → words_of line ≡ take n line ∷ words_of (drop n line)
words_of-cut n [] some begins all ends = absurd (omega arith)
words_of-cut zero (byte ∷ bytes) some begins all ends = absurd (false≢true (sym begins ∙ ends some))
words_of-cut (suc n) (byte ∷ bytes) some begins all ends =
    let after : 0 < length (drop n bytes) → is_blank (slice_index (drop n bytes) 0) ≡ true = λ more. ap is_blank (get_or-drop n bytes 0 0) ∙ ap (λ i. is_blank (slice_index bytes i)) (add-zero n) ∙ ends (omega (arith, length-drop n bytes)) in
    ap words_of (sym (take-append-drop (suc n) (byte ∷ bytes))) ∙ words_of-word byte (take n bytes) (drop n bytes) all after

-- what stands behind the first blanks begins with none
first_of_word : (n : ℕ) (line rest : List ℕ) → rest ≡ drop n line → (n < length line → is_blank (slice_index line n) ≡ false) → 0 < length rest → is_blank (slice_index rest 0) ≡ false
first_of_word n line rest is begins some =
    ap (λ bytes. is_blank (slice_index bytes 0)) is ∙ (ap is_blank (get_or-drop n line 0 0) ∙ (ap (λ i. is_blank (slice_index line i)) (add-zero n) ∙ begins (omega (arith, length-drop n line, ap length is))))

-- a line is cut behind its first blanks and then behind its first word
pub words_of-first : (n m : ℕ) (line rest : List ℕ) → rest ≡ drop n line → All (λ byte. is_blank byte ≡ true) (take n line) → (n < length line → is_blank (slice_index line n) ≡ false) → 0 < length rest → All (λ byte. is_blank byte ≡ false) (take m rest) → (m < length rest → is_blank (slice_index rest m) ≡ true) → words_of line ≡ take m rest ∷ words_of (drop m rest)
words_of-first n m line rest is blanks begins some all ends =
    sym (words_of-behind n line blanks) ∙ (ap words_of (sym is) ∙ words_of-cut m rest some (first_of_word n line rest is begins some) all ends)

-- what is left behind the first word is shorter than the line
pub shorter-behind : (n m : ℕ) (line rest : List ℕ) → rest ≡ drop n line → (n < length line → is_blank (slice_index line n) ≡ false) → 0 < length rest → (m < length rest → is_blank (slice_index rest m) ≡ true) → length (drop m rest) < length line
shorter-behind n zero line rest is begins some ends = absurd (false≢true (sym (first_of_word n line rest is begins some) ∙ ends some))
shorter-behind n (suc m) line rest is begins some ends = omega (arith, length-drop (suc m) rest, length-drop n line, ap length is)

pub nil_from_length : (xs : List ℕ) → length xs ≡ 0 → xs ≡ []
nil_from_length [] none = refl
nil_from_length (x ∷ xs) none = absurd (omega arith)

pub same_from_beq : (a b : Bool) → beq a b ≡ true → a ≡ b
same_from_beq true true h = refl
same_from_beq true false h = absurd cc
same_from_beq false true h = absurd cc
same_from_beq false false h = refl

pub other_from_beq : (a b : Bool) → beq a b ≡ false → a ≡ not b
other_from_beq true true h = absurd cc
other_from_beq true false h = refl
other_from_beq false true h = refl
other_from_beq false false h = absurd cc
