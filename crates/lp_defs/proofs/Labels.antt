-- Labels are the lawful names with a colon.
use Rattle.std.proofs.Common.{◌≡◌, refl, sym, ◌∙◌, ap, ap₂, subst, ℕ, zero, suc, ◌-◌, Bool, true, false, cond, not, ◌&&◌, ◌||◌, List, [], ◌∷◌, ◌++◌, map, length, length-append, take, arith, ◌==◌, codes, is_some, Ok, Err, nat_le}
use Rattle.std.specs.Char.{to_ascii_lowercase}
use Rattle.std.specs.List.{list_all, list_any, slice_index}
use Rattle.std.specs.Str.{bytes_eq}
use Rattle.std.proofs.lemmas.Slice.Eq.{bytes_eq-Decides}
use Rattle.std.proofs.Math.Seq.{take-append_seam}
use Rattle.base_names.specs.declared.refusal.FaultWord.TheVariants.{NameLength, Word}
use Rattle.model_data.specs.Names.{IsName, begins_name, is_name, is_name_byte, is_one_of, is_reserved}
use Rattle.model_data.specs.Words.{reserved_words}
use Rattle.model_data.specs.declared.limits.TheConstants.{MAX_NAME_LEN}
use Rattle.lp_defs.specs.declared.token.TokenKind.TheVariants.{Label, Name}
use Rattle.lp_defs.specs.Kinds.{Kind, as_label, begins_with, colon, ends_in_colon, front_of, infinite_words, is_any, is_any_word, is_word_of_its_own, kind_of, label_of, name_of, section_of}
use Rattle.lp_defs.specs.Tokens.{is_plain, is_plain_byte}
use Rattle.lp_defs.proofs.Names.{IsUntaken, NameParts, begins_nothing, both_of, is_named, kind_is_last, last_kind, lawful, name_of-parts, neither_of, no_colon, no_colon_byte, not_true, option_none, quantity_none, symbol_none, turned, untaken, untaken_last}
use Rattle.lp_defs.proofs.Words.{is_reserved-word}

name_never : (run : List ℕ) → name_of run ≡ Ok Label → ⊥
unfolding name_of
name_never run e = by_tests (is_one_of run colon) (begins_with (codes "*^<>=()],") run) (nat_le (length run) MAX_NAME_LEN) e
  where
    by_tests : (c b s : Bool) → cond {A = Kind} (c || b) (Err Word) (cond s (Ok Name) (Err NameLength)) ≡ Ok Label → ⊥
    by_tests true b s e = cc
    by_tests false true s e = cc
    by_tests false false true e = cc
    by_tests false false false e = cc

last_is_label : (run : List ℕ) → last_kind run ≡ Ok Label → (ends_in_colon run ≡ true) × (label_of (front_of run) ≡ Ok Label)
unfolding last_kind
last_is_label run e = by_test (ends_in_colon run) e
  where
    by_test : (b : Bool) → cond b (label_of (front_of run)) (name_of run) ≡ Ok Label → (b ≡ true) × (label_of (front_of run) ≡ Ok Label)
    by_test true e = (refl, e)
    by_test false e = absurd (name_never run e)

label_parts : (front : List ℕ) → label_of front ≡ Ok Label → (is_word_of_its_own front ≡ false) × NameParts front
unfolding label_of name_of
label_parts front e =
    let p = by_tests (is_word_of_its_own front) (is_one_of front colon) (begins_with (codes "*^<>=()],") front) (nat_le (length front) MAX_NAME_LEN) e in
    (p.0, record { no_colon_in = p.1; no_mark = p.2; short = p.3 })
  where
    by_tests : (w c b s : Bool) → cond {A = Kind} w (Err Word) (as_label (cond {A = Kind} (c || b) (Err Word) (cond s (Ok Name) (Err NameLength)))) ≡ Ok Label → (w ≡ false) × (c ≡ false) × (b ≡ false) × (s ≡ true)
    by_tests true c b s e = absurd cc
    by_tests false true b s e = absurd cc
    by_tests false false true s e = absurd cc
    by_tests false false false true e = (refl, refl, refl, refl)
    by_tests false false false false e = absurd cc

plain_take : (n : ℕ) (run : List ℕ) → is_plain run ≡ true → is_plain (take n run) ≡ true
plain_take zero run h = refl
plain_take (suc n) [] h = refl
plain_take (suc n) (byte ∷ run) h = let p = both_of (is_plain_byte byte) (is_plain run) h in ap₂ ◌&&◌ p.0 (plain_take n run p.1)

label_front : (run : List ℕ) → is_plain run ≡ true → IsUntaken run → ends_in_colon run ≡ true → is_word_of_its_own (front_of run) ≡ false → NameParts (front_of run) → IsName (front_of run)
label_front [] plain u e own parts = absurd cc
label_front (byte ∷ []) plain u e own parts =
    let colon_first : (colon == byte) ≡ true = turned colon byte ∙ e in
    let alone : is_any (codes ":" ∷ []) (byte ∷ []) ≡ true = ap (λ b. (b && true) || false) colon_first in
    let no : false ≡ true = sym u.no_colon_alone ∙ alone in
    absurd cc
label_front (byte ∷ next ∷ bytes) plain u e own parts =
    let run : List ℕ = byte ∷ next ∷ bytes in
    let less : length run - 1 ≡ suc (length bytes) = omega arith in
    let front : front_of run ≡ byte ∷ take (length bytes) (next ∷ bytes) = ap (λ n. take n run) less in
    subst IsName (sym front)
    (lawful byte (take (length bytes) (next ∷ bytes)) u.no_number u.no_bracket (subst NameParts front parts)
    (plain_take (suc (length bytes)) run plain) (subst (λ (f : List ℕ). is_word_of_its_own f ≡ false) front own))

pub label-lawful : (run : List ℕ) → is_plain run ≡ true → kind_of run ≡ Ok Label → IsName (front_of run)
unfolding is_named
label-lawful run plain e =
    let named : is_named (kind_of run) ≡ true = ap is_named e in
    let last = last_is_label run (sym (kind_is_last run named) ∙ e) in
    let parts = label_parts (front_of run) last.1 in
    label_front run plain (untaken run named) last.0 parts.0 parts.1

-- a lawful name with a colon behind it
colon_in : (name : List ℕ) → is_one_of (map to_ascii_lowercase (name ++ colon ∷ [])) colon ≡ true
colon_in [] = refl
colon_in (byte ∷ name) = either_true (to_ascii_lowercase byte == colon) (colon_in name)
  where
    either_true : (b : Bool) {c : Bool} → c ≡ true → (b || c) ≡ true
    either_true true e = refl
    either_true false e = e

other_word : (word text : List ℕ) → is_one_of word colon ≡ false → is_one_of text colon ≡ true → bytes_eq word text ≡ false
other_word word text none some = by_test (bytes_eq word text) refl
  where
    by_test : (b : Bool) → bytes_eq word text ≡ b → bytes_eq word text ≡ false
    by_test false e = e
    by_test true e =
        let same : word ≡ text = (bytes_eq-Decides word text).0 e in
        let no : false ≡ true = sym none ∙ (ap (λ (w : List ℕ). is_one_of w colon) same ∙ some) in
        absurd cc

no_word : (words : List (List ℕ)) (text : List ℕ) → list_all (λ (word : List ℕ). not (is_one_of word colon)) words ≡ true → is_one_of text colon ≡ true → list_any (λ word. bytes_eq word text) words ≡ false
no_word [] text none some = refl
no_word (word ∷ words) text none some =
    let p = both_of (not (is_one_of word colon)) _ none in
    ap₂ ◌||◌ (other_word word text (not_true (is_one_of word colon) p.0) some) (no_word words text p.1 some)

last_at : (name : List ℕ) → slice_index (name ++ colon ∷ []) (length name) ≡ colon
last_at [] = refl
last_at (byte ∷ name) = last_at name

pub name-label : (name : List ℕ) → IsName name → kind_of (name ++ colon ∷ []) ≡ Ok Label
unfolding is_name last_kind label_of
name-label [] h = absurd cc
name-label (byte ∷ bytes) h =
    let name : List ℕ = byte ∷ bytes in
    let run : List ℕ = name ++ colon ∷ [] in
    let p = both_of _ (not (is_reserved name)) h in
    let q = both_of _ (nat_le (length name) MAX_NAME_LEN) p.0 in
    let r = both_of (begins_name byte) (list_all is_name_byte name) q.0 in
    let n = begins_nothing byte r.0 in
    let first = (both_of (is_name_byte byte) (list_all is_name_byte bytes) r.1).0 in
    let own : is_word_of_its_own run ≡ false = sym (is_reserved-word run) ∙ no_word reserved_words (map to_ascii_lowercase run) refl (colon_in name) in
    let w = neither_of (is_some (section_of run)) (is_any_word infinite_words run) own in
    let parts : NameParts name = record { no_colon_in = no_colon name r.1; no_mark = n.no_mark; short = q.1 } in
    let len : length run - 1 ≡ length name = omega (arith, length-append name (colon ∷ [])) in
    let ends : ends_in_colon run ≡ true = ap (λ (i : ℕ). slice_index run i == colon) len ∙ ap (λ (b : ℕ). b == colon) (last_at name) in
    let front : front_of run ≡ name = ap (λ (i : ℕ). take i run) len ∙ take-append_seam name (colon ∷ []) in
    let free : is_word_of_its_own name ≡ false = sym (is_reserved-word name) ∙ not_true (is_reserved name) p.1 in
    let label : label_of name ≡ Ok Label = ap₂ (λ (b : Bool) (k : Kind). cond {A = Kind} b (Err Word) (as_label k)) free (name_of-parts name parts) in
    untaken_last run
    (symbol_none byte (bytes ++ colon ∷ []) n (turned colon byte ∙ no_colon_byte byte first))
    (quantity_none byte (bytes ++ colon ∷ []) n w.1)
    (option_none (section_of run) w.0)
    ∙ (ap (λ b. cond b (label_of (front_of run)) (name_of run)) ends ∙ (ap label_of front ∙ label))
