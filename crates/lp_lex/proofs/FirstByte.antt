-- What the first byte of a run leaves of the kinds that it can have.
use Rattle.std.proofs.Common.{◌≡◌, refl, sym, ◌∙◌, arith, ℕ, ◌<◌, ◌≤◌, Bool, true, false, ◌||◌, List, [], ◌∷◌, length, slice_index, ◌==◌, None, Some, Ok, Err, unwrap_or, if◌then◌else◌}
use Rattle.std.specs.Char.{is_ascii_digit, to_ascii_lowercase}
use Rattle.std.proofs.lemmas.Bool.Decides.{nat_tests}
use Rattle.std.proofs.lemmas.Grind.{common_steps}
use Rattle.frac_text.specs.Reading.{reading}
use Rattle.lp_defs.specs.declared.token.SectionWord.TheVariants.{End, Free, General}
use Rattle.lp_defs.specs.declared.token.TokenKind.TheVariants.{Infinite, Sign}
use Rattle.model_data.specs.Names.{is_one_of}
use Rattle.model_data.specs.Words.{end_words, free_words, general_words, infinite_words}
use Rattle.base_names.specs.declared.refusal.FaultWord.TheVariants.{Word}
use Rattle.lp_defs.specs.Kinds.{Kind, begins_number, colon, is_any_word, kind_of, name_of, number_kind, quantity_of, section_of, symbol_of}
use Rattle.lp_lex.specs.Words.{begins_symbol, begins_unsigned, begins_word, label_or_name, section_in_b, section_in_m, section_in_s, unsupported_section, word_if, word_or_name}

or_left : (a b : Bool) → (a || b) ≡ false → a ≡ false
or_left true b h = absurd cc
or_left false b h = refl

or_right : (a b : Bool) → (a || b) ≡ false → b ≡ false
or_right true b h = absurd cc
or_right false b h = h

turned : (n b : ℕ) → (n == b) ≡ false → (b == n) ≡ false
turned n b e = grind (arith, nat_tests)

differs : (n b : ℕ) → (b ≡ n → ⊥) → (n == b) ≡ false
differs n b h = grind (arith, nat_tests, h)

-- the section words by their first letter
section_m : (b : ℕ) (rest : List ℕ) → to_ascii_lowercase b ≡ 109 → section_in_m (b ∷ rest) ≡ section_of (b ∷ rest)
unfolding section_of
section_m b rest e = rw e refl

section_s : (b : ℕ) (rest : List ℕ) → to_ascii_lowercase b ≡ 115 → section_in_s (b ∷ rest) ≡ section_of (b ∷ rest)
unfolding section_of
section_s b rest e = rw e refl

section_b : (b : ℕ) (rest : List ℕ) → to_ascii_lowercase b ≡ 98 → section_in_b (b ∷ rest) ≡ section_of (b ∷ rest)
unfolding section_of
section_b b rest e = rw e refl

section_g : (b : ℕ) (rest : List ℕ) → to_ascii_lowercase b ≡ 103
    → word_if (is_any_word general_words (b ∷ rest)) General ≡ section_of (b ∷ rest)
unfolding section_of
section_g b rest e = rw e refl

section_f : (b : ℕ) (rest : List ℕ) → to_ascii_lowercase b ≡ 102
    → word_if (is_any_word free_words (b ∷ rest)) Free ≡ section_of (b ∷ rest)
unfolding section_of
section_f b rest e = rw e refl

section_e : (b : ℕ) (rest : List ℕ) → to_ascii_lowercase b ≡ 101
    → word_if (is_any_word end_words (b ∷ rest)) End ≡ section_of (b ∷ rest)
unfolding section_of
section_e b rest e = rw e refl

section_p : (b : ℕ) (rest : List ℕ) → to_ascii_lowercase b ≡ 112 → unsupported_section (b ∷ rest) ≡ section_of (b ∷ rest)
unfolding section_of
section_p b rest e = rw e refl

pub section_short : (run : List ℕ) → length run < 1 → None ≡ section_of run
unfolding section_of
section_short [] short = refl
section_short (b ∷ rest) short = absurd (omega arith)

-- no other byte begins a section word
section_none : (b : ℕ) (rest : List ℕ) → (98 == to_ascii_lowercase b) ≡ false → (101 == to_ascii_lowercase b) ≡ false
    → (102 == to_ascii_lowercase b) ≡ false → (103 == to_ascii_lowercase b) ≡ false → (109 == to_ascii_lowercase b) ≡ false
    → (112 == to_ascii_lowercase b) ≡ false → (115 == to_ascii_lowercase b) ≡ false → None ≡ section_of (b ∷ rest)
unfolding section_of
section_none b rest h98 h101 h102 h103 h109 h112 h115 = simp (h98, h101, h102, h103, h109, h112, h115)

-- a run that begins with no symbol, number or word
no_symbol : (b : ℕ) (rest : List ℕ) → begins_symbol b ≡ false → symbol_of (b ∷ rest) ≡ None
unfolding symbol_of
no_symbol b rest h =
    let e43 = or_left (43 == b) _ h in
    let r43 = or_right (43 == b) _ h in
    let e45 = or_left (45 == b) _ r43 in
    let r45 = or_right (45 == b) _ r43 in
    let e58 = or_left (58 == b) _ r45 in
    let r58 = or_right (58 == b) _ r45 in
    let e60 = or_left (60 == b) _ r58 in
    let r60 = or_right (60 == b) _ r58 in
    let e61 = or_left (61 == b) _ r60 in
    let r61 = or_right (61 == b) _ r60 in
    let e62 = or_left (62 == b) _ r61 in
    let r62 = or_right (62 == b) _ r61 in
    let e91 = or_left (91 == b) _ r62 in
    simp (e43, e45, e58, e60, e61, e62, e91)

abbrev no_sign_43 : (b : ℕ) → begins_symbol b ≡ false → (43 == b) ≡ false
no_sign_43 b h = or_left (43 == b) _ h

abbrev no_sign_45 : (b : ℕ) → begins_symbol b ≡ false → (45 == b) ≡ false
no_sign_45 b h = or_left (45 == b) _ (or_right (43 == b) _ h)

no_plus : (b : ℕ) → begins_symbol b ≡ false → (b == 43) ≡ false
no_plus b h = turned 43 b (no_sign_43 b h)

no_minus : (b : ℕ) → begins_symbol b ≡ false → (b == 45) ≡ false
no_minus b h = turned 45 b (no_sign_45 b h)

-- a digit and a point are no letter
letter_of_digit : (b : ℕ) → begins_unsigned b ≡ true → (105 == to_ascii_lowercase b) ≡ false
letter_of_digit b h = grind (arith, nat_tests, common_steps)

begins_number-unsigned : (b : ℕ) (rest : List ℕ) → begins_unsigned b ≡ true → begins_number (b ∷ rest) ≡ true
begins_number-unsigned b rest h = both (is_ascii_digit b) (46 == b) _ h where
  both : (d p q : Bool) → (d || p) ≡ true → (d || (p || q)) ≡ true
  both true p q h = refl
  both false true q h = refl
  both false false q h = absurd cc

begins_number-not : (b : ℕ) (rest : List ℕ) → begins_symbol b ≡ false → begins_unsigned b ≡ false → begins_number (b ∷ rest) ≡ false
begins_number-not b rest s h = both (is_ascii_digit b) (46 == b) (43 == b) (45 == b) h (no_sign_43 b s) (no_sign_45 b s) where
  both : (d p q r : Bool) → (d || p) ≡ false → q ≡ false → r ≡ false → (d || (p || (q || (r || false)))) ≡ false
  both true p q r h f g = absurd cc
  both false true q r h f g = absurd cc
  both false false true r h f g = absurd cc
  both false false false true h f g = absurd cc
  both false false false false h f g = refl

unsigned_quantity : (b : ℕ) (rest : List ℕ) → begins_symbol b ≡ false → begins_unsigned b ≡ true
    → quantity_of (b ∷ rest) ≡ Some (number_kind (reading (b ∷ rest)))
unfolding quantity_of
unsigned_quantity b rest s h = rw (no_plus b s, no_minus b s, letter_of_digit b h, begins_number-unsigned b rest h) refl

no_quantity : (b : ℕ) (rest : List ℕ) → begins_symbol b ≡ false → begins_unsigned b ≡ false
    → quantity_of (b ∷ rest) ≡ (if is_any_word infinite_words (b ∷ rest) then Some (Ok (Infinite false)) else None)
unfolding quantity_of
no_quantity b rest s h = rw (no_plus b s, no_minus b s, begins_number-not b rest s h) refl

no_word : (b : ℕ) → begins_word b ≡ false → (105 == to_ascii_lowercase b) ≡ false
no_word b h =
    let x = to_ascii_lowercase b in
    or_left (105 == x) _ (or_right (103 == x) _ (or_right (102 == x) _ (or_right (101 == x) _ (or_right (98 == x) _ h))))

no_infinite : (b : ℕ) (rest : List ℕ) → begins_word b ≡ false → is_any_word infinite_words (b ∷ rest) ≡ false
no_infinite b rest h = rw (no_word b h) refl

no_section : (b : ℕ) (rest : List ℕ) → begins_word b ≡ false → section_of (b ∷ rest) ≡ None
no_section b rest h =
    let x = to_ascii_lowercase b in
    let h101 = or_right (98 == x) _ h in
    let h102 = or_right (101 == x) _ h101 in
    let h103 = or_right (102 == x) _ h102 in
    let h105 = or_right (103 == x) _ h103 in
    let h109 = or_right (105 == x) _ h105 in
    let h112 = or_right (109 == x) _ h109 in
    let h115 = or_right (112 == x) _ h112 in
    sym (section_none b rest (or_left (98 == x) _ h) (or_left (101 == x) _ h101) (or_left (102 == x) _ h102) (or_left (103 == x) _ h103)
    (or_left (109 == x) _ h109) (or_left (112 == x) _ h112) (or_left (115 == x) _ h115))

-- a sign alone
pub plus_kind : (run : List ℕ) → length run ≡ 1 → slice_index run 0 ≡ 43 → Ok (Sign false) ≡ kind_of run
unfolding kind_of symbol_of
plus_kind [] one is = absurd (omega arith)
plus_kind (b ∷ []) one is = rw is refl
plus_kind (b ∷ next ∷ rest) one is = absurd (omega arith)

pub minus_kind : (run : List ℕ) → length run ≡ 1 → slice_index run 0 ≡ 45 → Ok (Sign true) ≡ kind_of run
unfolding kind_of symbol_of
minus_kind [] one is = absurd (omega arith)
minus_kind (b ∷ []) one is = rw is refl
minus_kind (b ∷ next ∷ rest) one is = absurd (omega arith)

-- the kind of a run by the class of its first byte
pub unsigned_kind : (run : List ℕ) → 1 ≤ length run → begins_symbol (slice_index run 0) ≡ false → begins_unsigned (slice_index run 0) ≡ true
    → number_kind (reading run) ≡ kind_of run
unfolding kind_of
unsigned_kind [] some s h = absurd (omega arith)
unsigned_kind (b ∷ rest) some s h = rw (no_symbol b rest s, unsigned_quantity b rest s h) refl

word_step : (is_infinite : Bool) (kind more : Kind)
    → (if is_infinite then kind else more) ≡ unwrap_or (if is_infinite then Some kind else None) more
word_step true kind more = refl
word_step false kind more = refl

pub word_kind : (run : List ℕ) → 1 ≤ length run → begins_symbol (slice_index run 0) ≡ false → begins_unsigned (slice_index run 0) ≡ false
    → word_or_name run ≡ kind_of run
unfolding kind_of
word_kind [] some s h = absurd (omega arith)
word_kind (b ∷ rest) some s h = rw (no_symbol b rest s, no_quantity b rest s h) (word_step (is_any_word infinite_words (b ∷ rest)) _ _)

pub name_kind : (run : List ℕ) → 1 ≤ length run → begins_symbol (slice_index run 0) ≡ false → begins_unsigned (slice_index run 0) ≡ false
    → begins_word (slice_index run 0) ≡ false → label_or_name run ≡ kind_of run
name_kind [] some s h w = absurd (omega arith)
name_kind (b ∷ rest) some s h w =
    let named : word_or_name (b ∷ rest) ≡ label_or_name (b ∷ rest) = rw (no_infinite b rest w, no_section b rest w) refl in
    sym named ∙ word_kind (b ∷ rest) some s h

-- the section words of a run by its first letter
abbrev first_letter : List ℕ → ℕ
first_letter run = to_ascii_lowercase (slice_index run 0)

pub section-m : (run : List ℕ) → 1 ≤ length run → first_letter run ≡ 109 → section_in_m run ≡ section_of run
section-m [] some e = absurd (omega arith)
section-m (b ∷ rest) some e = section_m b rest e

pub section-s : (run : List ℕ) → 1 ≤ length run → first_letter run ≡ 115 → section_in_s run ≡ section_of run
section-s [] some e = absurd (omega arith)
section-s (b ∷ rest) some e = section_s b rest e

pub section-b : (run : List ℕ) → 1 ≤ length run → first_letter run ≡ 98 → section_in_b run ≡ section_of run
section-b [] some e = absurd (omega arith)
section-b (b ∷ rest) some e = section_b b rest e

pub section-g : (run : List ℕ) → 1 ≤ length run → first_letter run ≡ 103
    → word_if (is_any_word general_words run) General ≡ section_of run
section-g [] some e = absurd (omega arith)
section-g (b ∷ rest) some e = section_g b rest e

pub section-f : (run : List ℕ) → 1 ≤ length run → first_letter run ≡ 102 → word_if (is_any_word free_words run) Free ≡ section_of run
section-f [] some e = absurd (omega arith)
section-f (b ∷ rest) some e = section_f b rest e

pub section-e : (run : List ℕ) → 1 ≤ length run → first_letter run ≡ 101 → word_if (is_any_word end_words run) End ≡ section_of run
section-e [] some e = absurd (omega arith)
section-e (b ∷ rest) some e = section_e b rest e

pub section-p : (run : List ℕ) → 1 ≤ length run → first_letter run ≡ 112 → unsupported_section run ≡ section_of run
section-p [] some e = absurd (omega arith)
section-p (b ∷ rest) some e = section_p b rest e

pub section-other : (run : List ℕ) → 1 ≤ length run → (first_letter run ≡ 98 → ⊥) → (first_letter run ≡ 101 → ⊥) → (first_letter run ≡ 102 → ⊥)
    → (first_letter run ≡ 103 → ⊥) → (first_letter run ≡ 109 → ⊥) → (first_letter run ≡ 112 → ⊥) → (first_letter run ≡ 115 → ⊥) → None ≡ section_of run
section-other [] some h98 h101 h102 h103 h109 h112 h115 = absurd (omega arith)
section-other (b ∷ rest) some h98 h101 h102 h103 h109 h112 h115 =
    section_none b rest (other 98 h98) (other 101 h101) (other 102 h102) (other 103 h103) (other 109 h109) (other 112 h112) (other 115 h115)
  where
    other : (n : ℕ) → (to_ascii_lowercase b ≡ n → ⊥) → (n == to_ascii_lowercase b) ≡ false
    other n h = differs n (to_ascii_lowercase b) h

-- a run with a colon is no name
pub name_with_colon : (run : List ℕ) → is_one_of run colon ≡ true → Err Word ≡ name_of run
unfolding name_of
name_with_colon run h = rw h refl
