-- Runs whose bytes are all simple.
use Rattle.std.proofs.Common.{◌≡◌, refl, sym, ◌∙◌, ap, arith, ℕ, suc, ◌+◌, ◌-◌, Bool, true, false, IsTrue, cond, not, ◌&&◌, List, [], ◌∷◌, length, take, drop, slice_index, ◌==◌, None, position, nat_lt, if◌then◌else◌}
use Rattle.std.specs.List.{list_all, prefix_len}
use Rattle.std.proofs.lemmas.Bool.Decides.{nat_tests}
use Rattle.std.proofs.lemmas.Grind.{common_steps}
use Rattle.model_data.specs.Names.{is_one_of}
use Rattle.lp_defs.specs.Kinds.{colon, ends_in_colon, front_of, label_of, name_of}
use Rattle.lp_defs.specs.Tokens.{is_plain_byte, is_run_byte}
use Rattle.lp_lex.specs.Runs.{IsSimple, is_simple_byte}
use Rattle.lp_lex.specs.Words.{label_or_name}

-- a simple byte goes on with a run
pub goes_on : (byte : ℕ) → is_simple_byte byte ≡ true → is_run_byte byte ≡ true
goes_on byte h = grind (arith, nat_tests, common_steps)

front_step : (byte : ℕ) (bytes : List ℕ) (simple : Bool) → is_simple_byte byte ≡ simple
    → prefix_len is_run_byte bytes ≡ prefix_len is_simple_byte bytes + prefix_len is_run_byte (drop (prefix_len is_simple_byte bytes) bytes)
    → prefix_len is_run_byte (byte ∷ bytes)
    ≡ cond simple (1 + prefix_len is_simple_byte bytes) 0 + prefix_len is_run_byte (drop (cond simple (1 + prefix_len is_simple_byte bytes) 0) (byte ∷ bytes))
front_step byte bytes true h rest =
    let e : 1 + prefix_len is_simple_byte bytes ≡ suc (prefix_len is_simple_byte bytes) = omega arith in
    ap (λ (b : Bool). cond b (1 + prefix_len is_run_byte bytes) 0) (goes_on byte h) ∙ ap (λ (n : ℕ). 1 + n) rest
    ∙ rw e (omega arith)
front_step byte bytes false h rest = omega arith

pub front-simple : (bytes : List ℕ) → prefix_len is_run_byte bytes ≡ prefix_len is_simple_byte bytes + prefix_len is_run_byte (drop (prefix_len is_simple_byte bytes) bytes)
front-simple [] = refl
front-simple (byte ∷ bytes) = front_step byte bytes (is_simple_byte byte) refl (front-simple bytes)

all_step : (byte : ℕ) (bytes : List ℕ) (simple : Bool) → is_simple_byte byte ≡ simple → IsSimple (take (prefix_len is_simple_byte bytes) bytes)
    → IsSimple (take (cond simple (1 + prefix_len is_simple_byte bytes) 0) (byte ∷ bytes))
all_step byte bytes true h rest =
    let e : 1 + prefix_len is_simple_byte bytes ≡ suc (prefix_len is_simple_byte bytes) = omega arith in
    rw e (rw h rest)
all_step byte bytes false h rest = refl

pub all-simple : (bytes : List ℕ) → IsSimple (take (prefix_len is_simple_byte bytes) bytes)
all-simple [] = refl
all-simple (byte ∷ bytes) = all_step byte bytes (is_simple_byte byte) refl (all-simple bytes)

-- the first of simple bytes, and the others
first_is : (byte : ℕ) (bytes : List ℕ) → IsSimple (byte ∷ bytes) → is_simple_byte byte ≡ true
first_is byte bytes h = both (is_simple_byte byte) h where
  both : (b : Bool) → IsTrue (b && list_all is_simple_byte bytes) → b ≡ true
  both true h = refl
  both false h = absurd cc

others_are : (byte : ℕ) (bytes : List ℕ) → IsSimple (byte ∷ bytes) → IsSimple bytes
others_are byte bytes h = both (is_simple_byte byte) h where
  both : (b : Bool) → IsTrue (b && list_all is_simple_byte bytes) → IsSimple bytes
  both true h = h
  both false h = absurd cc

plain_byte : (byte : ℕ) → is_simple_byte byte ≡ true → is_plain_byte byte ≡ true
plain_byte byte h = both (is_plain_byte byte) (not (byte == colon)) h where
  both : (a b : Bool) → (a && b) ≡ true → a ≡ true
  both true b h = refl
  both false b h = absurd cc

colon_byte : (byte : ℕ) → is_simple_byte byte ≡ true → (byte == colon) ≡ false
colon_byte byte h = both (is_plain_byte byte) (byte == colon) h where
  both : (a b : Bool) → (a && not b) ≡ true → b ≡ false
  both true true h = absurd cc
  both true false h = refl
  both false b h = absurd cc

pub no_colon : (bytes : List ℕ) → IsSimple bytes → is_one_of bytes colon ≡ false
no_colon [] h = refl
no_colon (byte ∷ bytes) h = rw (colon_byte byte (first_is byte bytes h)) (no_colon bytes (others_are byte bytes h))

last_simple : (byte : ℕ) (bytes : List ℕ) → IsSimple (byte ∷ bytes) → (slice_index (byte ∷ bytes) (length bytes) == colon) ≡ false
last_simple byte [] h = colon_byte byte (first_is byte [] h)
last_simple byte (next ∷ bytes) h = last_simple next bytes (others_are byte (next ∷ bytes) h)

pub no_end_colon : (bytes : List ℕ) → IsSimple bytes → ends_in_colon bytes ≡ false
no_end_colon [] h = refl
no_end_colon (byte ∷ bytes) h =
    let last : length (byte ∷ bytes) - 1 ≡ length bytes = omega arith in
    ap (λ (n : ℕ). slice_index (byte ∷ bytes) n == colon) last ∙ last_simple byte bytes h

bad_len : (bytes : List ℕ) → IsSimple bytes → prefix_len (λ byte. not (not (is_plain_byte byte))) bytes ≡ length bytes
bad_len [] h = refl
bad_len (byte ∷ bytes) h =
    let rest = bad_len bytes (others_are byte bytes h) in
    rw (plain_byte byte (first_is byte bytes h)) (omega arith)

pub no_bad : (bytes : List ℕ) → IsSimple bytes → None ≡ position (λ byte. not (is_plain_byte byte)) bytes
no_bad bytes h =
    let e = bad_len bytes h in
    let full : nat_lt (length bytes) (length bytes) ≡ false = grind (arith, nat_tests) in
    rw e (rw full refl)

pub label_or_name-simple : (bytes : List ℕ) → IsSimple bytes → name_of bytes ≡ label_or_name bytes
label_or_name-simple bytes h = ap (λ (b : Bool). if b then label_of (front_of bytes) else name_of bytes) (sym (no_end_colon bytes h))
