-- Names are the runs that are lawful names.
use Rattle.std.proofs.Common.{inl, inr, ◌⊎◌, ◌≡◌, refl, sym, ◌∙◌, ap, ap₂, ℕ, zero, suc, ◌-◌, ◌<◌, Bool, true, false, cond, not, ◌&&◌, ◌||◌, List, [], ◌∷◌, length, arith, ◌==◌, codes, Option, Some, None, is_some, unwrap_or, Ok, Err, Result, nat_le}
use Rattle.std.specs.Char.{is_ascii_digit}
use Rattle.std.specs.List.{list_all, list_any, slice_index}
use Rattle.std.proofs.lemmas.List.Folds.{list_any-append}
use Rattle.std.proofs.lemmas.Bool.Decides.{eqb_tells}
use Rattle.frac128.specs.Fraction.{Fraction}
use Rattle.frac_text.specs.Reading.{behind_sign, is_negative, reading}
use Rattle.frac_text.specs.declared.fault.NumFault.{NumFault}
use Rattle.frac_text.specs.declared.fault.NumFault.TheVariants.{NotNumber, TooWide as too_wide}
use Rattle.base_names.specs.declared.refusal.FaultWord.TheVariants.{NameLength, Unsupported, Word}
use Rattle.model_data.specs.Names.{IsName, begins_name, is_name, is_name_byte, is_one_of, is_reserved, is_visible}
use Rattle.model_data.specs.declared.limits.TheConstants.{MAX_NAME_LEN}
use Rattle.model_data.specs.declared.model.Sense.TheVariants.{Equal, Greater, Less}
use Rattle.lp_defs.specs.declared.token.TokenKind.TheVariants.{Colon, Comparison, Infinite, Label, Name, Sign}
use Rattle.lp_defs.specs.Kinds.{Kind, as_label, begins_number, begins_with, colon, ends_in_colon, front_of, infinite_words, is_any, is_any_word, is_infinite, is_word_of_its_own, kind_of, label_of, name_of, number_kind, quantity_of, section_of, symbol_of}
use Rattle.lp_defs.specs.Tokens.{backslash, is_plain, is_plain_byte}
use Rattle.lp_defs.proofs.Words.{Entry, is_reserved-word, sections}

-- names and labels
unfoldable pub is_named : Kind → Bool
is_named (Ok Name) = true
is_named (Ok Label) = true
is_named (Ok _) = false
is_named (Err _) = false

named_in : Option Kind → Bool
named_in None = false
named_in (Some kind) = is_named kind

-- a kind that is tried, with the outcome of its test
pub record Try : Type 0 where
  pub holds : Bool
  pub kind : Kind

unfoldable pub first_of : List Try → Option Kind
first_of [] = None
first_of (one ∷ more) = cond one.holds (Some one.kind) (first_of more)

unnamed_step : (b : Bool) (kind : Kind) (more : Option Kind) → is_named kind ≡ false → named_in more ≡ false → named_in (cond b (Some kind) more) ≡ false
unfolding named_in
unnamed_step true kind more h k = h
unnamed_step false kind more h k = k

pub both_of : (a b : Bool) → (a && b) ≡ true → (a ≡ true) × (b ≡ true)
both_of true b h = (refl, h)
both_of false b h = absurd cc

pub neither_of : (a b : Bool) → (a || b) ≡ false → (a ≡ false) × (b ≡ false)
neither_of true b h = absurd cc
neither_of false b h = (refl, h)

pub not_true : (b : Bool) → not b ≡ true → b ≡ false
not_true true h = absurd cc
not_true false h = refl

unnamed : (tries : List Try) → list_all (λ (one : Try). not (is_named one.kind)) tries ≡ true → named_in (first_of tries) ≡ false
unfolding first_of named_in
unnamed [] h = refl
unnamed (one ∷ more) h =
    let p = both_of (not (is_named one.kind)) (list_all (λ (t : Try). not (is_named t.kind)) more) h in
    unnamed_step one.holds one.kind (first_of more) (not_true (is_named one.kind) p.0) (unnamed more p.1)

missed_step : (b : Bool) (kind : Kind) (more : Option Kind) → cond b (Some kind) more ≡ None → (b ≡ false) × (more ≡ None)
missed_step true kind more e = absurd cc
missed_step false kind more e = (refl, e)

missed : (tries : List Try) → first_of tries ≡ None → list_any (λ (one : Try). one.holds) tries ≡ false
unfolding first_of
missed [] e = refl
missed (one ∷ more) e =
    let p = missed_step one.holds one.kind (first_of more) e in
    ap₂ ◌||◌ p.0 (missed more p.1)

-- what is passed over on the way to a name
passed : (option : Option Kind) (rest : Kind) → named_in option ≡ false → is_named (unwrap_or option rest) ≡ true → (option ≡ None) × (is_named rest ≡ true) × (unwrap_or option rest ≡ rest)
unfolding named_in
passed None rest h e = (refl, e, refl)
passed (Some kind) rest h e = let no : false ≡ true = sym h ∙ e in absurd cc

unfoldable pub symbols : List ℕ → List Try
symbols run =
    (record { holds = is_any (codes "+" ∷ []) run; kind = Ok (Sign false) })
    ∷ (record { holds = is_any (codes "-" ∷ []) run; kind = Ok (Sign true) })
    ∷ (record { holds = is_any (codes ":" ∷ []) run; kind = Ok Colon })
    ∷ (record { holds = is_any (codes "<" ∷ codes "<=" ∷ codes "=<" ∷ []) run; kind = Ok (Comparison Less) })
    ∷ (record { holds = is_any (codes ">" ∷ codes ">=" ∷ codes "=>" ∷ []) run; kind = Ok (Comparison Greater) })
    ∷ (record { holds = is_any (codes "=" ∷ []) run; kind = Ok (Comparison Equal) })
    ∷ (record { holds = is_any (codes "->" ∷ []) run; kind = Err Unsupported })
    ∷ (record { holds = begins_with (codes "[") run; kind = Err Unsupported })
    ∷ []

symbol_unnamed : (run : List ℕ) → named_in (symbol_of run) ≡ false
unfolding symbol_of symbols first_of is_named
symbol_unnamed run = unnamed (symbols run) refl

number_unnamed : (outcome : Result Fraction NumFault) → is_named (number_kind outcome) ≡ false
unfolding is_named
number_unnamed (Ok value) = refl
number_unnamed (Err NotNumber) = refl
number_unnamed (Err (too_wide negative huge)) = refl

quantity_unnamed : (run : List ℕ) → named_in (quantity_of run) ≡ false
unfolding quantity_of is_named named_in
quantity_unnamed run =
    unnamed_step (is_infinite run) (Ok (Infinite (is_negative run))) (cond (begins_number run) (Some (number_kind (reading run))) None) refl
    (unnamed_step (begins_number run) (number_kind (reading run)) None (number_unnamed (reading run)) refl)

unfoldable pub section_tries : List Entry → List ℕ → List Try
section_tries [] run = []
section_tries (entry ∷ more) run = (record { holds = is_any_word entry.words run; kind = entry.kind }) ∷ section_tries more run

section_unnamed : (run : List ℕ) → named_in (section_of run) ≡ false
unfolding section_of section_tries first_of is_named
section_unnamed run = unnamed (section_tries sections run) refl

-- what a name or a label is not
pub record IsUntaken (run : List ℕ) : Type 0 where
  pub no_colon_alone : is_any (codes ":" ∷ []) run ≡ false
  pub no_bracket : begins_with (codes "[") run ≡ false
  pub not_infinite : is_infinite run ≡ false
  pub no_number : begins_number run ≡ false
  pub no_section : is_some (section_of run) ≡ false

unfoldable pub last_kind : List ℕ → Kind
last_kind run = cond (ends_in_colon run) (label_of (front_of run)) (name_of run)

symbol_missed : (run : List ℕ) → symbol_of run ≡ None → (is_any (codes ":" ∷ []) run ≡ false) × (begins_with (codes "[") run ≡ false)
unfolding symbol_of symbols first_of
symbol_missed run e = by_tests
    (is_any (codes "+" ∷ []) run) (is_any (codes "-" ∷ []) run) (is_any (codes ":" ∷ []) run)
    (is_any (codes "<" ∷ codes "<=" ∷ codes "=<" ∷ []) run) (is_any (codes ">" ∷ codes ">=" ∷ codes "=>" ∷ []) run)
    (is_any (codes "=" ∷ []) run) (is_any (codes "->" ∷ []) run) (begins_with (codes "[") run) (missed (symbols run) e)
  where
    by_tests : (a b c d f g h i : Bool) → (a || (b || (c || (d || (f || (g || (h || (i || false)))))))) ≡ false → (c ≡ false) × (i ≡ false)
    by_tests true b c d f g h i e = absurd cc
    by_tests false true c d f g h i e = absurd cc
    by_tests false false true d f g h i e = absurd cc
    by_tests false false false true f g h i e = absurd cc
    by_tests false false false false true g h i e = absurd cc
    by_tests false false false false false true h i e = absurd cc
    by_tests false false false false false false true i e = absurd cc
    by_tests false false false false false false false true e = absurd cc
    by_tests false false false false false false false false e = (refl, refl)

quantity_missed : (run : List ℕ) → quantity_of run ≡ None → (is_infinite run ≡ false) × (begins_number run ≡ false)
unfolding quantity_of
quantity_missed run e =
    let a = missed_step (is_infinite run) (Ok (Infinite (is_negative run))) (cond (begins_number run) (Some (number_kind (reading run))) None) e in
    let b = missed_step (begins_number run) (number_kind (reading run)) None a.1 in
    (a.0, b.0)

pub untaken : (run : List ℕ) → is_named (kind_of run) ≡ true → IsUntaken run
unfolding kind_of
untaken run e =
    let a = passed _ _ (symbol_unnamed run) e in
    let b = passed _ _ (quantity_unnamed run) a.1 in
    let c = passed _ _ (section_unnamed run) b.1 in
    let s = symbol_missed run a.0 in
    let q = quantity_missed run b.0 in
    record { no_colon_alone = s.0; no_bracket = s.1; not_infinite = q.0; no_number = q.1; no_section = ap is_some c.0 }

pub kind_is_last : (run : List ℕ) → is_named (kind_of run) ≡ true → kind_of run ≡ last_kind run
unfolding kind_of last_kind
kind_is_last run e =
    let a = passed _ _ (symbol_unnamed run) e in
    let b = passed _ _ (quantity_unnamed run) a.1 in
    let c = passed _ _ (section_unnamed run) b.1 in
    a.2 ∙ (b.2 ∙ c.2)

-- tests of several bytes
pub turned : (a b : ℕ) → (a == b) ≡ (b == a)
turned a b = by_cases (eqb_tells a b) (eqb_tells b a)
  where
    by_cases : ((a == b) ≡ true) × (a ≡ b) ⊎ (((a == b) ≡ false) × (a ≡ b → ⊥)) → ((b == a) ≡ true) × (b ≡ a) ⊎ (((b == a) ≡ false) × (b ≡ a → ⊥)) → (a == b) ≡ (b == a)
    by_cases (inl p) (inl q) = p.0 ∙ sym q.0
    by_cases (inl p) (inr q) = absurd (q.1 (sym p.1))
    by_cases (inr p) (inl q) = absurd (p.1 (sym q.1))
    by_cases (inr p) (inr q) = p.0 ∙ sym q.0

name_byte : (byte : ℕ) → is_plain_byte byte ≡ true → (byte == colon) ≡ false → is_name_byte byte ≡ true
name_byte byte plain other =
    ap₂ (λ (s c : Bool). is_visible byte && not (s || (c || false))) (turned backslash byte) (turned colon byte)
    ∙ by_tests (is_visible byte) (byte == backslash) (byte == colon) plain other
  where
    by_tests : (v s c : Bool) → (v && not s) ≡ true → c ≡ false → (v && not (s || (c || false))) ≡ true
    by_tests false s c h k = absurd cc
    by_tests true true c h k = absurd cc
    by_tests true false true h k = absurd cc
    by_tests true false false h k = refl

pub no_colon_byte : (byte : ℕ) → is_name_byte byte ≡ true → (byte == colon) ≡ false
no_colon_byte byte h = sym (turned colon byte) ∙ by_tests (is_visible byte) (backslash == byte) (colon == byte) h
  where
    by_tests : (v s c : Bool) → (v && not (s || (c || false))) ≡ true → c ≡ false
    by_tests false s c h = absurd cc
    by_tests true true c h = absurd cc
    by_tests true false true h = absurd cc
    by_tests true false false h = refl

all_name_bytes : (run : List ℕ) → is_plain run ≡ true → is_one_of run colon ≡ false → list_all is_name_byte run ≡ true
all_name_bytes [] plain none = refl
all_name_bytes (byte ∷ run) plain none =
    let p = both_of (is_plain_byte byte) (is_plain run) plain in
    let n = neither_of (byte == colon) (is_one_of run colon) none in
    ap₂ ◌&&◌ (name_byte byte p.0 n.0) (all_name_bytes run p.1 n.1)

pub no_colon : (run : List ℕ) → list_all is_name_byte run ≡ true → is_one_of run colon ≡ false
no_colon [] h = refl
no_colon (byte ∷ run) h =
    let p = both_of (is_name_byte byte) (list_all is_name_byte run) h in
    ap₂ ◌||◌ (no_colon_byte byte p.0) (no_colon run p.1)

no_colon_at : (run : List ℕ) (i : ℕ) → list_all is_name_byte run ≡ true → (slice_index run i == colon) ≡ false
no_colon_at [] i h = refl
no_colon_at (byte ∷ run) zero h = no_colon_byte byte (both_of (is_name_byte byte) (list_all is_name_byte run) h).0
no_colon_at (byte ∷ run) (suc i) h = no_colon_at run i (both_of (is_name_byte byte) (list_all is_name_byte run) h).1

-- how a name begins
begins_parts : (byte : ℕ) → is_one_of (codes ".+-[*^<>=()],") byte ≡ (is_one_of (codes ".+-") byte || (is_one_of (codes "[") byte || is_one_of (codes "*^<>=()],") byte))
begins_parts byte =
    list_any-append (λ b. b == byte) (codes ".+-") (codes "[*^<>=()],")
    ∙ ap (λ r. is_one_of (codes ".+-") byte || r) (list_any-append (λ b. b == byte) (codes "[") (codes "*^<>=()],"))

begins_as : (byte : ℕ) → (is_ascii_digit byte || is_one_of (codes ".+-") byte) ≡ false → is_one_of (codes "[") byte ≡ false → is_one_of (codes "*^<>=()],") byte ≡ false → begins_name byte ≡ true
begins_as byte number bracket other =
    let n = neither_of (is_ascii_digit byte) (is_one_of (codes ".+-") byte) number in
    ap not (ap₂ ◌||◌ n.0 (begins_parts byte ∙ ap₂ ◌||◌ n.1 (ap₂ ◌||◌ bracket other)))

pub record BeginsNothing (byte : ℕ) : Type 0 where
  pub no_digit : is_ascii_digit byte ≡ false
  pub no_sign : is_one_of (codes ".+-") byte ≡ false
  pub no_bracket : is_one_of (codes "[") byte ≡ false
  pub no_mark : is_one_of (codes "*^<>=()],") byte ≡ false

pub begins_nothing : (byte : ℕ) → begins_name byte ≡ true → BeginsNothing byte
begins_nothing byte h =
    let none : (is_ascii_digit byte || is_one_of (codes ".+-[*^<>=()],") byte) ≡ false = by_test _ h in
    let d = neither_of (is_ascii_digit byte) (is_one_of (codes ".+-[*^<>=()],") byte) none in
    let s = neither_of _ _ (sym (begins_parts byte) ∙ d.1) in
    let m = neither_of _ _ s.1 in
    record { no_digit = d.0; no_sign = s.0; no_bracket = m.0; no_mark = m.1 }
  where
    by_test : (b : Bool) → not b ≡ true → b ≡ false
    by_test true h = absurd cc
    by_test false h = refl

unsigned : (byte : ℕ) (bytes : List ℕ) → is_one_of (codes ".+-") byte ≡ false → behind_sign (byte ∷ bytes) ≡ byte ∷ bytes
unsigned byte bytes h =
    let a = neither_of _ _ h in
    let b = neither_of _ _ a.1 in
    let c = neither_of _ _ b.1 in
    ap₂ (λ (p m : Bool). cond (p || m) bytes (byte ∷ bytes)) (turned byte 43 ∙ b.0) (turned byte 45 ∙ c.0)

-- what a name's kind says
pub record NameParts (run : List ℕ) : Type 0 where
  pub no_colon_in : is_one_of run colon ≡ false
  pub no_mark : begins_with (codes "*^<>=()],") run ≡ false
  pub short : nat_le (length run) MAX_NAME_LEN ≡ true

name_parts : (run : List ℕ) → name_of run ≡ Ok Name → NameParts run
unfolding name_of
name_parts run e =
    let p = by_tests (is_one_of run colon) (begins_with (codes "*^<>=()],") run) (nat_le (length run) MAX_NAME_LEN) e in
    record { no_colon_in = p.0; no_mark = p.1; short = p.2 }
  where
    by_tests : (c b s : Bool) → cond {A = Kind} (c || b) (Err Word) (cond s (Ok Name) (Err NameLength)) ≡ Ok Name → (c ≡ false) × (b ≡ false) × (s ≡ true)
    by_tests true b s e = absurd cc
    by_tests false true s e = absurd cc
    by_tests false false true e = (refl, refl, refl)
    by_tests false false false e = absurd cc

pub name_of-parts : (run : List ℕ) → NameParts run → name_of run ≡ Ok Name
unfolding name_of
name_of-parts run p =
    ap₂ (λ (w s : Bool). cond {A = Kind} w (Err Word) (cond s (Ok Name) (Err NameLength))) (ap₂ ◌||◌ p.no_colon_in p.no_mark) p.short

pub lawful : (byte : ℕ) (bytes : List ℕ) → begins_number (byte ∷ bytes) ≡ false → begins_with (codes "[") (byte ∷ bytes) ≡ false → NameParts (byte ∷ bytes) → is_plain (byte ∷ bytes) ≡ true → is_word_of_its_own (byte ∷ bytes) ≡ false → IsName (byte ∷ bytes)
unfolding is_name
lawful byte bytes number bracket parts plain other =
    let run : List ℕ = byte ∷ bytes in
    ap₂ ◌&&◌ (ap₂ ◌&&◌ (ap₂ ◌&&◌ (begins_as byte number bracket parts.no_mark) (all_name_bytes run plain parts.no_colon_in)) parts.short)
    (ap not (is_reserved-word run ∙ other))

label_never : (front : List ℕ) → label_of front ≡ Ok Name → ⊥
unfolding label_of
label_never front e = by_tests (is_word_of_its_own front) (name_of front) e
  where
    by_tests : (w : Bool) (kind : Kind) → cond w (Err Word) (as_label kind) ≡ Ok Name → ⊥
    by_tests true kind e = cc
    by_tests false (Ok kind) e = cc
    by_tests false (Err fault) e = cc

last_is_name : (run : List ℕ) → last_kind run ≡ Ok Name → name_of run ≡ Ok Name
unfolding last_kind
last_is_name run e = by_test (ends_in_colon run) e
  where
    by_test : (b : Bool) → cond b (label_of (front_of run)) (name_of run) ≡ Ok Name → name_of run ≡ Ok Name
    by_test true e = absurd (label_never (front_of run) e)
    by_test false e = e

-- a name is lawful
pub name-lawful : (run : List ℕ) → 0 < length run → is_plain run ≡ true → kind_of run ≡ Ok Name → IsName run
unfolding is_named
name-lawful [] some plain e = absurd (omega arith)
name-lawful (byte ∷ bytes) some plain e =
    let run : List ℕ = byte ∷ bytes in
    let named : is_named (kind_of run) ≡ true = ap is_named e in
    let u = untaken run named in
    let parts = name_parts run (last_is_name run (sym (kind_is_last run named) ∙ e)) in
    let no_sign = (neither_of (is_ascii_digit byte) (is_one_of (codes ".+-") byte) u.no_number).1 in
    let finite : is_any_word infinite_words run ≡ false = sym (ap (is_any_word infinite_words) (unsigned byte bytes no_sign)) ∙ u.not_infinite in
    lawful byte bytes u.no_number u.no_bracket parts plain (ap₂ ◌||◌ u.no_section finite)

pub option_none : (option : Option Kind) → is_some option ≡ false → option ≡ None
option_none None h = refl
option_none (Some kind) h = absurd cc

pub symbol_none : (byte : ℕ) (bytes : List ℕ) → BeginsNothing byte → (colon == byte) ≡ false → symbol_of (byte ∷ bytes) ≡ None
unfolding symbol_of
symbol_none byte bytes n c =
    let s = neither_of (46 == byte) _ n.no_sign in
    let plus = neither_of (43 == byte) _ s.1 in
    let minus = neither_of (45 == byte) _ plus.1 in
    let star = neither_of (42 == byte) _ n.no_mark in
    let hat = neither_of (94 == byte) _ star.1 in
    let less = neither_of (60 == byte) _ hat.1 in
    let greater = neither_of (62 == byte) _ less.1 in
    let equal = neither_of (61 == byte) _ greater.1 in
    let h43 = plus.0 in
    let h45 = minus.0 in
    let h60 = less.0 in
    let h62 = greater.0 in
    let h61 = equal.0 in
    let h91 = n.no_bracket in
    simp (h43, h45, c, h60, h62, h61, h91)

pub quantity_none : (byte : ℕ) (bytes : List ℕ) → BeginsNothing byte → is_any_word infinite_words (byte ∷ bytes) ≡ false → quantity_of (byte ∷ bytes) ≡ None
unfolding quantity_of
quantity_none byte bytes n w =
    let run : List ℕ = byte ∷ bytes in
    ap₂ (λ (i b : Bool). cond {A = Option Kind} i (Some (Ok (Infinite (is_negative run)))) (cond b (Some (number_kind (reading run))) None))
    (ap (is_any_word infinite_words) (unsigned byte bytes n.no_sign) ∙ w)
    (ap₂ ◌||◌ n.no_digit n.no_sign)

pub untaken_last : (run : List ℕ) → symbol_of run ≡ None → quantity_of run ≡ None → section_of run ≡ None → kind_of run ≡ last_kind run
unfolding kind_of last_kind
untaken_last run s q t =
    ap (λ option. unwrap_or option (unwrap_or (quantity_of run) (unwrap_or (section_of run) (last_kind run)))) s
    ∙ (ap (λ option. unwrap_or option (unwrap_or (section_of run) (last_kind run))) q ∙ ap (λ option. unwrap_or option (last_kind run)) t)

-- a lawful name is a name
pub lawful-name : (run : List ℕ) → IsName run → kind_of run ≡ Ok Name
unfolding is_name last_kind
lawful-name [] h = absurd cc
lawful-name (byte ∷ bytes) h =
    let run : List ℕ = byte ∷ bytes in
    let p = both_of _ (not (is_reserved run)) h in
    let q = both_of _ (nat_le (length run) MAX_NAME_LEN) p.0 in
    let r = both_of (begins_name byte) (list_all is_name_byte run) q.0 in
    let n = begins_nothing byte r.0 in
    let first = (both_of (is_name_byte byte) (list_all is_name_byte bytes) r.1).0 in
    let w = neither_of (is_some (section_of run)) (is_any_word infinite_words run) (sym (is_reserved-word run) ∙ by_test (is_reserved run) p.1) in
    let parts : NameParts run = record { no_colon_in = no_colon run r.1; no_mark = n.no_mark; short = q.1 } in
    untaken_last run
    (symbol_none byte bytes n (turned colon byte ∙ no_colon_byte byte first))
    (quantity_none byte bytes n w.1)
    (option_none (section_of run) w.0)
    ∙ (ap (λ b. cond b (label_of (front_of run)) (name_of run)) (no_colon_at run (length run - 1) r.1) ∙ name_of-parts run parts)
  where
    by_test : (b : Bool) → not b ≡ true → b ≡ false
    by_test true e = absurd cc
    by_test false e = refl
