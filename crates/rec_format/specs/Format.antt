-- Formats: how the values of a type are spelled in bytes, and how a spelling is read from the front of bytes.
use Rattle.std.specs.Prelude.{◌≡◌, ℕ, zero, suc, ◌^◌, ◌<◌, ◌==◌, Bool, IsTrue, List, [], ◌∷◌, ◌++◌, length, take, drop, flat_map, nat_le, if◌then◌else◌, All, IfSome}
use Rattle.std.specs.Prelude.{Option, Some, None, option_map, option_and_then}
use Rattle.byteorder.specs.Endian.{big_bytes, big_number}

pub record Format (A : Type 0) : Type 1 where
  -- the one spelling of a value
  pub write : A → List ℕ
  -- the value that is spelled at the front, and what stands behind it
  pub read : List ℕ → Option (A × List ℕ)
  -- which values have a spelling
  pub Fits : A → Type 0

-- a number in n bytes, the greatest first
unfoldable pub number : ℕ → Format ℕ
number n = record {
  write = big_bytes n;
  read = λ bs. if nat_le n (length bs) then Some (big_number n bs, drop n bs) else None;
  Fits = λ x. x < 256 ^ n;
}

abbrev pub beside : {A B : Type 0} → A → Option (B × List ℕ) → Option ((A × B) × List ℕ)
beside a = option_map (λ b. ((a, b.0), b.1))

-- one after the other
abbrev pub both : {A B : Type 0} → Format A → Format B → Format (A × B)
both f g = record {
  write = λ p. f.write p.0 ++ g.write p.1;
  read = λ bs. option_and_then (λ a. beside a.0 (g.read a.1)) (f.read bs);
  Fits = λ p. f.Fits p.0 × g.Fits p.1;
}

abbrev pub pick : {A B : Type 0} → (A → Option B) → A × List ℕ → Option (B × List ℕ)
pick of a = option_map (λ b. (b, a.1)) (of a.0)

-- values that stand for some of another type's: `of` gives the value of one, where it stands for any, and `from` goes back
abbrev pub picked : {A B : Type 0} → Format A → (B → Type 0) → (A → Option B) → (B → A) → Format B
picked f Lawful of from = record {
  write = λ b. f.write (from b);
  read = λ bs. option_and_then (pick of) (f.read bs);
  Fits = λ b. Lawful b × f.Fits (from b);
}

-- those of which a test holds
abbrev pub only : {A : Type 0} → (A → Bool) → A → Option A
only test x = if test x then Some x else None

abbrev pub that : {A : Type 0} → Format A → (A → Bool) → Format A
that f test = picked f (λ x. IsTrue (test x)) (only test) (λ x. x)

-- the fields of a value, as pairs
abbrev pub fields : {A B : Type 0} → Format A → (A → B) → (B → A) → Format B
fields f to from = record {
  write = λ b. f.write (from b);
  read = λ bs. option_map (λ a. (to a.0, a.1)) (f.read bs);
  Fits = λ b. f.Fits (from b);
}

abbrev pub option_write : {A : Type 0} → (A → List ℕ) → Option A → List ℕ
option_write write None = 0 ∷ []
option_write write (Some a) = 1 ∷ write a

abbrev pub some_read : {A : Type 0} → Option (A × List ℕ) → Option (Option A × List ℕ)
some_read = option_map (λ a. (Some a.0, a.1))

abbrev pub option_read : {A : Type 0} → (List ℕ → Option (A × List ℕ)) → List ℕ → Option (Option A × List ℕ)
option_read read [] = None
option_read read (b ∷ bs) = if b == 0 then Some (None, bs) else (if b == 1 then some_read (read bs) else None)

-- 0, or 1 and the value
abbrev pub optional : {A : Type 0} → Format A → Format (Option A)
optional f = record { write = option_write f.write; read = option_read f.read; Fits = λ o. IfSome o f.Fits }

abbrev pub in_front : {A : Type 0} → A → Option (List A × List ℕ) → Option (List A × List ℕ)
in_front a = option_map (λ r. (a ∷ r.0, r.1))

-- so many items, one after the other
unfoldable pub items_read : {A : Type 0} → (List ℕ → Option (A × List ℕ)) → ℕ → List ℕ → Option (List A × List ℕ)
items_read read zero bs = Some ([], bs)
items_read read (suc k) bs = option_and_then (λ a. in_front a.0 (items_read read k a.1)) (read bs)

abbrev pub counted_read : {A : Type 0} → (List ℕ → Option (A × List ℕ)) → ℕ × List ℕ → Option (List A × List ℕ)
counted_read read k = items_read read k.0 k.1

-- a count of n bytes, and its items
abbrev pub list_of : {A : Type 0} → ℕ → Format A → Format (List A)
list_of n f = record {
  write = λ xs. big_bytes n (length xs) ++ flat_map f.write xs;
  read = λ bs. option_and_then (counted_read f.read) ((number n).read bs);
  Fits = λ xs. (length xs < 256 ^ n) × All f.Fits xs;
}

-- the bytes that a length in front counts
abbrev pub cut : ℕ × List ℕ → Option (List ℕ × List ℕ)
cut k = if nat_le k.0 (length k.1) then Some (take k.0 k.1, drop k.0 k.1) else None

abbrev pub AreBytes : List ℕ → Type 0
AreBytes = All (λ b. b < 256)

-- a length of n bytes, and its bytes
abbrev pub text : ℕ → Format (List ℕ)
text n = record {
  write = λ t. big_bytes n (length t) ++ t;
  read = λ bs. option_and_then cut ((number n).read bs);
  Fits = λ t. (length t < 256 ^ n) × AreBytes t;
}

-- the value that all the bytes spell
abbrev pub at_end : {A : Type 0} → A × List ℕ → Option A
at_end (a, []) = Some a
at_end (a, b ∷ bs) = None

abbrev pub whole : {A : Type 0} → Format A → List ℕ → Option A
whole f bs = option_and_then at_end (f.read bs)

-- a reader took this value from its bytes, or there was none at their front
abbrev pub Takes : {A : Type 0} → Format A → List ℕ → Option A → List ℕ → Type 0
Takes f old (Some x) new = f.read old ≡ Some (x, new)
Takes f old None new = f.read old ≡ None

pub record OneSpelling {A : Type 0} (f : Format A) : Type 0 where
  -- what is written is read, and nothing behind it
  pub back : (x : A) (rest : List ℕ) → f.Fits x → f.read (f.write x ++ rest) ≡ Some (x, rest)
  -- what is read has a spelling, and was spelled so
  pub spelled : (bs : List ℕ) (x : A) (rest : List ℕ) → AreBytes bs → f.read bs ≡ Some (x, rest) → (bs ≡ f.write x ++ rest) × f.Fits x
