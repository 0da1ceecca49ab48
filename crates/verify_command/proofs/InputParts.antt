-- The parts of an input: where they stand, and that there are no others.
use Rattle.std.proofs.Common.{◌≡◌, ◌≢◌, ℕ, ◌+◌, ◌^◌, ◌<◌, true, false, ◌==◌, nat_lt, List, [], ◌∷◌, ◌++◌, length, get_or, take, drop, Option, Some, None, codes, Bor, refl, ap, ap₂, subst, sym, ◌∙◌, arith, add-one}
use Rattle.std.specs.Prelude.{Bool, MatchOption, if◌then◌else◌}
use Rattle.std.specs.Char.{is_ascii_digit}
use Rattle.std.specs.List.{list_all, position, position_or_len}
use Rattle.std.specs.Str.Parse.{digits_value}
use Rattle.std.proofs.lemmas.Bool.{and_parts, lt-ltb, ne_eqb, eqb-true}
use Rattle.std.proofs.lemmas.List.{append_cancel_left, length-append, take-append-drop}
use Rattle.std.proofs.lemmas.List.Quantifiers.{position-Some}
use Rattle.std.proofs.Math.Seq.{drop-append-add, drop-cons, take-append_seam}
use Rattle.base_names.specs.Decimal.{are_digits, below, number_of}
use Rattle.base_names.proofs.Decimals.{below_at}
use Rattle.verify_command.specs.Input.{HasNoParts, HasParts, IsCounted}

-- ---- a line of digits

no_feed : (byte : ℕ) → is_ascii_digit byte ≡ true → (byte == 10) ≡ false
no_feed byte h = ne_eqb byte 10 (λ (e : byte ≡ 10). let P : ℕ → Type 0 = λ n. is_ascii_digit n ≡ true in cc (subst P e h))

feed_behind : (digits rest : List ℕ) → list_all is_ascii_digit digits ≡ true → position_or_len (λ byte. byte == 10) (digits ++ 10 ∷ rest) ≡ length digits
feed_behind [] rest h = refl
feed_behind (x ∷ xs) rest h =
    let parts = and_parts _ _ h in
    rw (no_feed x parts.0, feed_behind xs rest parts.1) (omega arith)

feed_at : (digits rest : List ℕ) → list_all is_ascii_digit digits ≡ true → position (λ byte. byte == 10) (digits ++ 10 ∷ rest) ≡ Some (length digits)
feed_at digits rest h =
    let at = feed_behind digits rest h in
    let inside : nat_lt (length digits) (length (digits ++ 10 ∷ rest)) ≡ true = lt-ltb _ _ (omega (arith, length-append digits (10 ∷ rest))) in
    rw (at, inside)

digits_have_number : (digits : List ℕ) (n : ℕ) → number_of digits ≡ Some n → are_digits digits ≡ true
digits_have_number digits n h = by_test (are_digits digits) refl h
  where
    by_test : (b : Bool) → are_digits digits ≡ b → (if b then Some (digits_value 10 digits) else None) ≡ Some n → are_digits digits ≡ true
    by_test true is h = is
    by_test false is h = absurd cc

-- digits before the first line feed, and what stands behind it
record IsLine (bytes digits rest : List ℕ) : Type 0 where
  place : position (λ byte. byte == 10) bytes ≡ Some (length digits)
  front : take (length digits) bytes ≡ digits
  back : drop (length digits + 1) bytes ≡ rest

is_line : (bytes digits rest : List ℕ) (n : ℕ) → number_of digits ≡ Some n → bytes ≡ digits ++ 10 ∷ rest → IsLine bytes digits rest
is_line bytes digits rest n number is = subst (λ text. IsLine text digits rest) (sym is) record {
  place = feed_at digits rest (and_parts _ _ (digits_have_number digits n number)).1;
  front = take-append_seam digits (10 ∷ rest);
  back = drop-append-add digits (10 ∷ rest) 1;
}

-- a text around its first line feed
around : (text : List ℕ) (place : ℕ) → position (λ byte. byte == 10) text ≡ Some place → take place text ++ 10 ∷ drop (place + 1) text ≡ text
around text place at =
    let found = position-Some (λ byte. byte == 10) text place 0 at in
    let byte : get_or text place 0 ≡ 10 = eqb-true (get_or text place 0) 10 found.1 in
    let rest : drop place text ≡ 10 ∷ drop (place + 1) text =
    drop-cons text place 0 found.0 ∙ ap₂ (λ (b : ℕ) (n : ℕ). b ∷ drop n text) byte (sym (add-one place)) in
    ap (λ (back : List ℕ). take place text ++ back) (sym rest) ∙ take-append-drop place text

-- ---- what is counted

counted_line : (bytes block text : List ℕ) → (p : IsCounted bytes block text) → IsLine bytes p.digits (block ++ text)
counted_line bytes block text p = is_line bytes p.digits (block ++ text) (length block) p.counts p.bytes_are

some_same : (m n : ℕ) → ◌≡◌ {A = Option ℕ} (Some m) (Some n) → m ≡ n
some_same m n h = cc

none_or_some : (n : ℕ) (o : Option ℕ) → o ≡ None → o ≡ Some n → ⊥
none_or_some n o h k = absurd (cc (sym h ∙ k))

pub no_line : (bytes : List ℕ) → position (λ byte. byte == 10) bytes ≡ None → (block text : List ℕ) → IsCounted bytes block text → ⊥
no_line bytes none block text p =
    let line = counted_line bytes block text p in
    none_or_some (length p.digits) (position (λ byte. byte == 10) bytes) none line.place

-- the digits of the line are the counted ones
number_there : (bytes block text : List ℕ) (end : ℕ) → position (λ byte. byte == 10) bytes ≡ Some end → (p : IsCounted bytes block text)
    → (end ≡ length p.digits) × (number_of (take end bytes) ≡ Some (length block))
number_there bytes block text end at p =
    let line = counted_line bytes block text p in
    let place : end ≡ length p.digits = some_same end (length p.digits) (sym at ∙ line.place) in
    (place, ap (λ n. number_of (take n bytes)) place ∙ (ap number_of line.front ∙ p.counts))

pub no_number : (bytes : List ℕ) (end : ℕ) → position (λ byte. byte == 10) bytes ≡ Some end → below (2 ^ 64) (number_of (take end bytes)) ≡ None → length bytes < 2 ^ 64
    → (block text : List ℕ) → IsCounted bytes block text → ⊥
no_number bytes end at none short block text p =
    let number = number_there bytes block text end at p in
    let all : length bytes ≡ length (p.digits ++ 10 ∷ (block ++ text)) = ap length p.bytes_are in
    let small : length block < 2 ^ 64 = omega (arith, all, short, length-append p.digits (10 ∷ (block ++ text)), length-append block text) in
    none_or_some (length block) (below (2 ^ 64) (number_of (take end bytes))) none (ap (below (2 ^ 64)) number.1 ∙ below_at (2 ^ 64) (length block) small)

-- a number of the line
number_read : (text : List ℕ) (len : ℕ) (number : Option ℕ) → number_of text ≡ number → below (2 ^ 64) number ≡ Some len → number_of text ≡ Some len
number_read text len None is h = absurd cc
number_read text len (Some n) is h = by_test (nat_lt n (2 ^ 64)) h
  where
    by_test : (b : Bool) → (if b then Some n else None) ≡ Some len → number_of text ≡ Some len
    by_test true e = is ∙ e
    by_test false e = absurd cc

too_short : (bytes : List ℕ) (end len : ℕ) → position (λ byte. byte == 10) bytes ≡ Some end → below (2 ^ 64) (number_of (take end bytes)) ≡ Some len → length (drop (end + 1) bytes) < len
    → (block text : List ℕ) → IsCounted bytes block text → ⊥
too_short bytes end len at read short block text p =
    let line = counted_line bytes block text p in
    let there = number_there bytes block text end at p in
    let number : len ≡ length block = some_same len (length block) (sym (number_read (take end bytes) len (number_of (take end bytes)) refl read) ∙ there.1) in
    let rest : length (drop (end + 1) bytes) ≡ length (block ++ text) = ap (λ n. length (drop (n + 1) bytes)) there.0 ∙ ap length line.back in
    absurd (omega (arith, number, rest, short, length-append block text))

counted_here : (bytes block text : List ℕ) (end len : ℕ) → position (λ byte. byte == 10) bytes ≡ Some end → below (2 ^ 64) (number_of (take end bytes)) ≡ Some len
    → drop (end + 1) bytes ≡ block ++ text → length block ≡ len → IsCounted bytes block text
counted_here bytes block text end len at read rest long = record {
  digits = take end bytes;
  counts = number_read (take end bytes) len (number_of (take end bytes)) refl read ∙ ap (λ n. Some n) (sym long);
  bytes_are = sym (around bytes end at) ∙ ap (λ behind. take end bytes ++ 10 ∷ behind) rest;
}

-- where the first bytes behind the line are the block, or there are too few
pub counted_front : (bytes behind : List ℕ) (end len : ℕ) (r : Option (Bor (List ℕ) × Bor (List ℕ))) → Some end ≡ position (λ byte. byte == 10) bytes
    → Some len ≡ below (2 ^ 64) (number_of (take end bytes)) → behind ≡ drop (end + 1) bytes
    → MatchOption r (length behind < len) (λ parts. (behind ≡ parts.0.now ++ parts.1.now) × (length parts.0.now ≡ len))
    → MatchOption r ((block text : List ℕ) → IsCounted bytes block text → ⊥) (λ parts. IsCounted bytes parts.0.now parts.1.now)
counted_front bytes behind end len None at read is short = too_short bytes end len (sym at) (sym read) (subst (λ xs. length xs < len) is short)
counted_front bytes behind end len (Some parts) at read is front = counted_here bytes parts.0.now parts.1.now end len (sym at) (sym read) (sym is ∙ front.0) front.1

-- ---- behind the word

word_behind : (xs ys : List ℕ) → codes "MODEL " ++ xs ≡ codes "MODEL " ++ ys → xs ≡ ys
word_behind xs ys = append_cancel_left (codes "MODEL ") xs ys

pub no_word : (input : List ℕ) → ((rest : List ℕ) → input ≢ codes "MODEL " ++ rest) → HasNoParts input
no_word input none block text p = none p.bytes p.input_is

not_counted : (input bytes : List ℕ) → input ≡ codes "MODEL " ++ bytes → ((block text : List ℕ) → IsCounted bytes block text → ⊥) → HasNoParts input
not_counted input bytes is none block text p =
    none block text (subst (λ behind. IsCounted behind block text) (word_behind p.bytes bytes (sym p.input_is ∙ is)) p.counted)

pub parts_behind : (input bytes : List ℕ) (r : Option (Bor (List ℕ) × Bor (List ℕ))) → input ≡ codes "MODEL " ++ bytes
    → MatchOption r ((block text : List ℕ) → IsCounted bytes block text → ⊥) (λ parts. IsCounted bytes parts.0.now parts.1.now)
    → MatchOption r (HasNoParts input) (λ parts. HasParts input parts.0.now parts.1.now)
parts_behind input bytes None is none = not_counted input bytes is none
parts_behind input bytes (Some parts) is counted = record { bytes = bytes; input_is = is; counted = counted }

-- ---- no others

same_front : (a b s t : List ℕ) → length a ≡ length b → a ++ s ≡ b ++ t → (a ≡ b) × (s ≡ t)
same_front a b s t long is =
    let fronts : a ≡ b = sym (take-append_seam a s) ∙ (ap₂ take long is ∙ take-append_seam b t) in
    (fronts, append_cancel_left b s t (ap (λ xs. xs ++ s) (sym fronts) ∙ is))

one_count : (bytes a b s t : List ℕ) → IsCounted bytes a s → IsCounted bytes b t → (a ≡ b) × (s ≡ t)
one_count bytes a b s t p q =
    let one = counted_line bytes a s p in
    let other = counted_line bytes b t q in
    let place : length p.digits ≡ length q.digits = some_same (length p.digits) (length q.digits) (sym one.place ∙ other.place) in
    let digits : p.digits ≡ q.digits = sym one.front ∙ (ap (λ n. take n bytes) place ∙ other.front) in
    let long : length a ≡ length b = some_same (length a) (length b) (sym p.counts ∙ (ap number_of digits ∙ q.counts)) in
    same_front a b s t long (sym one.back ∙ (ap (λ n. drop (n + 1) bytes) place ∙ other.back))

pub one_parts : (input a b s t : List ℕ) → HasParts input a s → HasParts input b t → (a ≡ b) × (s ≡ t)
one_parts input a b s t p q =
    one_count q.bytes a b s t (subst (λ bytes. IsCounted bytes a s) (word_behind p.bytes q.bytes (sym p.input_is ∙ q.input_is)) p.counted) q.counted
