-- The line of a command is read as it, and a command that is read has a line.
use Rattle.std.proofs.Common.{◌≡◌, ℕ, ◌<◌, Bool, true, false, List, [], ◌∷◌, ◌++◌, length, Option, Some, None, Result, Ok, Err, refl, sym, ap, ◌∙◌, subst, arith}
use Rattle.std.specs.Prelude.{cond, filter, not, slice_index, if◌then◌else◌}
use Rattle.std.specs.List.{list_all, onto_first, slice_split}
use Rattle.std.proofs.lemmas.Bool.{and_from, and_parts, false≢true}
use Rattle.std.proofs.lemmas.List.Folds.{list_all-append}
use Rattle.base_names.specs.declared.refusal.Refusal.{Refusal}
use Rattle.base_names.specs.declared.refusal.Refusal.TheVariants.{LINE}
use Rattle.frac128.specs.Checked.{◌>>=◌}
use Rattle.model_core.specs.declared.change.NamedTerm.{NamedTerm}
use Rattle.wire_laws.specs.Written.{HasLine, HasWord, HaveWords, Values, behind_blanks, call_of, is_one_word, joined, line_for, term_words, word_for, words_for, words_of_call}
use Rattle.wire_laws.proofs.Bytes.{is_plain, plain_all}
use Rattle.wire_laws.proofs.Told.{told-has_word}
use Rattle.wire_laws.proofs.Verbs.{called_again, called_words, has_line, made_by, make}
use Rattle.wire_laws.proofs.Words.{one_word, word_read}
use Rattle.wire_text.specs.Commands.{are_pairs, command_of, command_of_words, fit, is_line, is_such, made, terms_told}
use Rattle.wire_text.specs.Forms.{Arguments, Makes, called, form_of, nothing, pairs, ◌then◌}
use Rattle.wire_text.specs.Kinds.{Kind, Value, batch, comparison, kind, lower, name, number, parameter, size, tag, told, upper, whole}
use Rattle.wire_text.specs.Line.{is_blank, is_word, words_of}
use Rattle.wire_text.specs.Reading.{read_behind, verb_at}
use Rattle.wire_text.specs.declared.command.Command.{Command}
use Rattle.wire_text.specs.declared.verb.Verb.{Verb}
use Rattle.wire_text.proofs.LineCuts.{words_of-blank, words_of-word}
use Rattle.wire_text.proofs.Verbs.{command_of_words-called, command_of_words-verb_at, said_at, verb_at-some}

-- what stands behind a word is nothing, or begins with a blank
blank_behind : (words : List (List ℕ)) → 0 < length (behind_blanks words) → is_blank (slice_index (behind_blanks words) 0) ≡ true
blank_behind [] some = absurd (omega arith)
blank_behind (word ∷ words) some = refl

first_cut : (word : List ℕ) (words : List (List ℕ)) → is_one_word word ≡ true → words_of (word ++ behind_blanks words) ≡ word ∷ words_of (behind_blanks words)
first_cut [] words one = absurd (false≢true one)
first_cut (byte ∷ bytes) words one = words_of-word byte bytes (behind_blanks words) (plain_all (byte ∷ bytes) one) (blank_behind words)

behind_cut : (words : List (List ℕ)) → list_all is_one_word words ≡ true → words_of (behind_blanks words) ≡ words
behind_cut [] all = refl
behind_cut (word ∷ words) all =
    let parts = and_parts _ _ all in
    words_of-blank 32 (word ++ behind_blanks words) refl
    ∙ (first_cut word words parts.0 ∙ ap (λ ws. word ∷ ws) (behind_cut words parts.1))

-- the words of a line that was joined of words
joined_cut : (words : List (List ℕ)) → list_all is_one_word words ≡ true → words_of (joined words) ≡ words
joined_cut [] all = refl
joined_cut (word ∷ words) all =
    let parts = and_parts _ _ all in
    first_cut word words parts.0 ∙ ap (λ ws. word ∷ ws) (behind_cut words parts.1)

-- the words for values are words
terms_one : (terms : List NamedTerm) → HaveWords pairs terms → list_all is_one_word (term_words terms) ≡ true
terms_one [] h = refl
terms_one (t ∷ terms) h =
    and_from _ _ (one_word number t.coef h.0.0) (and_from _ _ (one_word name t.name h.0.1) (terms_one terms h.1))

values_one : (arguments : Arguments) (values : Values arguments) → HaveWords arguments values → list_all is_one_word (words_for arguments values) ≡ true
values_one nothing values h = refl
values_one pairs terms h = terms_one terms h
values_one (argument then rest) values h = and_from _ _ (one_word argument values.0 h.0) (values_one rest values.1 h.1)

-- a word that tells something is of its kind
such-told : (argument : Kind) (word : List ℕ) (v : Value argument) → told argument word ≡ Ok v → is_such argument word ≡ true
such-told name word v h = refl
such-told parameter word v h = refl
such-told number word v h = ap (λ r. not (is_line r)) h
such-told whole word v h = ap (λ r. not (is_line r)) h
such-told lower word v h = ap (λ r. not (is_line r)) h
such-told upper word v h = ap (λ r. not (is_line r)) h
such-told comparison word v h = ap (λ r. not (is_line r)) h
such-told kind word v h = ap (λ r. not (is_line r)) h
such-told tag word v h = ap (λ r. not (is_line r)) h
such-told size word v h = ap (λ r. not (is_line r)) h
such-told batch word v h = ap (λ r. not (is_line r)) h

-- they fit the arguments
terms_fit : (terms : List NamedTerm) → HaveWords pairs terms → are_pairs (term_words terms) ≡ true
terms_fit [] h = refl
terms_fit (t ∷ terms) h =
    and_from _ _ (and_from _ _ (such-told number (word_for number t.coef) t.coef (word_read number t.coef h.0.0)) refl) (terms_fit terms h.1)

values_fit : (arguments : Arguments) (values : Values arguments) → HaveWords arguments values → fit arguments (words_for arguments values) ≡ true
values_fit nothing values h = refl
values_fit pairs terms h = terms_fit terms h
values_fit (argument then rest) values h =
    and_from _ _ (such-told argument (word_for argument values.0) values.0 (word_read argument values.0 h.0)) (values_fit rest values.1 h.1)

-- and tell the values
terms_read : (terms : List NamedTerm) → HaveWords pairs terms → terms_told (term_words terms) ≡ Ok terms
terms_read [] h = refl
terms_read (t ∷ terms) h =
    let rest = terms_told (term_words terms) in
    ap (λ r. r >>= λ c. told name t.name >>= λ n. rest >>= λ found. Ok (record { name = n; coef = c } ∷ found)) (word_read number t.coef h.0.0)
    ∙ (ap (λ r. r >>= λ n. rest >>= λ found. Ok (record { name = n; coef = t.coef } ∷ found)) (word_read name t.name h.0.1)
    ∙ ap (λ r. r >>= λ found. Ok (t ∷ found)) (terms_read terms h.1))

values_read : (arguments : Arguments) (makes : Makes arguments) (values : Values arguments) → HaveWords arguments values → made arguments makes (words_for arguments values) ≡ Ok (make arguments makes values)
values_read nothing makes values h = refl
values_read pairs makes terms h = ap (λ r. r >>= λ found. Ok (makes found)) (terms_read terms h)
values_read (argument then rest) makes values h =
    ap (λ r. r >>= λ value. made rest (makes value) (words_for rest values.1)) (word_read argument values.0 h.0)
    ∙ values_read rest (makes values.0) values.1 h.1

call_read : (v : Verb) (values : Values (form_of v).arguments) → HaveWords (form_of v).arguments values → read_behind v (words_for (form_of v).arguments values) ≡ Ok (made_by v values)
call_read v values h =
    let words = words_for (form_of v).arguments values in
    ap (λ b. if b then made (form_of v).arguments (form_of v).makes words else Err LINE) (values_fit (form_of v).arguments values h)
    ∙ values_read (form_of v).arguments (form_of v).makes values h

call_one : (v : Verb) (values : Values (form_of v).arguments) → HaveWords (form_of v).arguments values → list_all is_one_word (called v ++ words_for (form_of v).arguments values) ≡ true
call_one v values h =
    list_all-append is_one_word (called v) (words_for (form_of v).arguments values) ∙ and_from _ _ (called_words v) (values_one (form_of v).arguments values h)

pub line_read : (command : Command) → HasLine command → command_of (line_for command) ≡ Ok command
line_read command h =
    let c = call_of command in
    ap command_of_words (joined_cut (words_of_call c) (call_one c.asks c.values h.words))
    ∙ (command_of_words-called c.asks (words_for (form_of c.asks).arguments c.values)
    ∙ (call_read c.asks c.values h.words ∙ ap Ok (called_again command h.untagged)))

-- The parts between the blanks of a line have none.
with_byte : (byte : ℕ) (blank : Bool) (parts : List (List ℕ)) → is_blank byte ≡ blank → list_all is_plain parts ≡ true → list_all is_plain (cond blank ([] ∷ parts) (onto_first byte parts)) ≡ true
with_byte byte true parts is all = all
with_byte byte false [] is all = and_from _ _ (and_from _ _ (ap not is) refl) refl
with_byte byte false (part ∷ parts) is all =
    let each = and_parts _ _ all in
    and_from _ _ (and_from _ _ (ap not is) each.0) each.1

parts_plain : (line : List ℕ) → list_all is_plain (slice_split is_blank line) ≡ true
parts_plain [] = refl
parts_plain (byte ∷ line) = with_byte byte (is_blank byte) (slice_split is_blank line) refl (parts_plain line)

words_one : (parts : List (List ℕ)) → list_all is_plain parts ≡ true → list_all is_one_word (filter is_word parts) ≡ true
words_one [] all = refl
words_one (part ∷ parts) all =
    let each = and_parts _ _ all in
    by_word (is_word part) refl each.0 (words_one parts each.1)
  where
    by_word : (b : Bool) → is_word part ≡ b → is_plain part ≡ true → list_all is_one_word (filter is_word parts) ≡ true → list_all is_one_word (cond b (part ∷ filter is_word parts) (filter is_word parts)) ≡ true
    by_word true is plain later = and_from _ _ (and_from _ _ is plain) later
    by_word false is plain later = later

-- Words that tell values are told by values that have words.
record Makes_of (arguments : Arguments) (makes : Makes arguments) (command : Command) : Type 0 where
  values : Values arguments
  words : HaveWords arguments values
  is : make arguments makes values ≡ command

some_terms : (words : List (List ℕ)) (terms : List NamedTerm) → list_all is_one_word words ≡ true → terms_told words ≡ Ok terms → HaveWords pairs terms
some_terms [] terms all h = let same : [] ≡ terms = cc in subst (HaveWords pairs) same tt
some_terms (coef ∷ []) terms all h = absurd cc
some_terms (coef ∷ variable ∷ words) terms all h =
    let one = and_parts _ _ all in
    let more = and_parts _ _ one.1 in
    by_told (told number coef) (told name variable) (terms_told words) (λ c. told-has_word number coef c one.0) (λ n. told-has_word name variable n more.0) (λ ts. some_terms words ts more.1) h
  where
    by_told : (c : Result (Value number) Refusal) (n : Result (Value name) Refusal) (rest : Result (List NamedTerm) Refusal)
        → ((x : Value number) → c ≡ Ok x → HasWord number x) → ((x : Value name) → n ≡ Ok x → HasWord name x) → ((ts : List NamedTerm) → rest ≡ Ok ts → HaveWords pairs ts)
        → (c >>= λ x. n >>= λ y. rest >>= λ ts. Ok (record { name = y; coef = x } ∷ ts)) ≡ Ok terms → HaveWords pairs terms
    by_told (Err refusal) n rest number_has name_has rest_has h = absurd cc
    by_told (Ok x) (Err refusal) rest number_has name_has rest_has h = absurd cc
    by_told (Ok x) (Ok y) (Err refusal) number_has name_has rest_has h = absurd cc
    by_told (Ok x) (Ok y) (Ok ts) number_has name_has rest_has h =
        let first : NamedTerm = record { name = y; coef = x } in
        let same : first ∷ ts ≡ terms = cc in
        subst (HaveWords pairs) same ((number_has x refl, name_has y refl), rest_has ts refl)

values_of : (arguments : Arguments) (makes : Makes arguments) (words : List (List ℕ)) (command : Command) → list_all is_one_word words ≡ true → made arguments makes words ≡ Ok command → Makes_of arguments makes command
values_of nothing makes words command all h = record { values = tt; words = tt; is = cc }
values_of pairs makes words command all h = by_terms (terms_told words) (λ terms. some_terms words terms all) h
  where
    by_terms : (found : Result (List NamedTerm) Refusal) → ((terms : List NamedTerm) → found ≡ Ok terms → HaveWords pairs terms) → (found >>= λ terms. Ok (makes terms)) ≡ Ok command → Makes_of pairs makes command
    by_terms (Ok terms) have h = record { values = terms; words = have terms refl; is = cc }
    by_terms (Err refusal) have h = absurd cc
values_of (argument then rest) makes [] command all h = absurd cc
values_of (argument then rest) makes (word ∷ words) command all h =
    let one = and_parts _ _ all in
    by_value (told argument word) (λ v. told-has_word argument word v one.0) (λ v. values_of rest (makes v) words command one.1) h
  where
    by_value : (found : Result (Value argument) Refusal) → ((v : Value argument) → found ≡ Ok v → HasWord argument v)
        → ((v : Value argument) → made rest (makes v) words ≡ Ok command → Makes_of rest (makes v) command)
        → (found >>= λ v. made rest (makes v) words) ≡ Ok command → Makes_of (argument then rest) makes command
    by_value (Ok v) have later h =
        let behind = later v h in
        record { values = (v, behind.values); words = (have v refl, behind.words); is = behind.is }
    by_value (Err refusal) have later h = absurd cc

behind_found : (v : Verb) (words : List (List ℕ)) (command : Command) → list_all is_one_word words ≡ true → read_behind v words ≡ Ok command → HasLine command
behind_found v words command all h = by_fit (fit (form_of v).arguments words) h
  where
    by_fit : (b : Bool) → (if b then made (form_of v).arguments (form_of v).makes words else Err LINE) ≡ Ok command → HasLine command
    by_fit true h =
        let found = values_of (form_of v).arguments (form_of v).makes words command all h in
        subst HasLine found.is (has_line v found.values found.words)
    by_fit false h = absurd cc

words_found : (words : List (List ℕ)) (command : Command) (at : Option (Verb × List (List ℕ))) → list_all is_one_word words ≡ true → verb_at words ≡ at → said_at at ≡ Ok command → HasLine command
words_found words command None all is h = absurd cc
words_found words command (Some found) all is h =
    let front : words ≡ called found.0 ++ found.1 = verb_at-some words found.1 found.0 is in
    let rest : list_all is_one_word found.1 ≡ true = (and_parts _ _ (sym (list_all-append is_one_word (called found.0) found.1) ∙ (ap (λ ws. list_all is_one_word ws) (sym front) ∙ all))).1 in
    behind_found found.0 found.1 command rest h

pub line_found : (line : List ℕ) (command : Command) → command_of line ≡ Ok command → HasLine command
line_found line command h =
    let words = words_of line in
    words_found words command (verb_at words) (words_one (slice_split is_blank line) (parts_plain line)) refl (sym (command_of_words-verb_at words) ∙ h)
