-- A byte in each place that was written.
use Rattle.std.proofs.Common.{◌≡◌, ℕ, ◌+◌, ◌-◌, ◌≤◌, ◌<◌, ◌||◌, ◌&&◌, nat_le, nat_lt, zero, suc, Bool, true, false, List, [], ◌∷◌, ◌++◌, length, map, take, drop, replicate, min, if◌then◌else◌, refl, sym, ◌∙◌, ap, ap₂, arith, length-drop, take-append-drop}
use Rattle.std.specs.List.{list_any}
use Rattle.std.proofs.lemmas.Bool.{le-leb, lt-leb, le-ltb, lt-ltb}
use Rattle.std.proofs.lemmas.List.{length-take}
use Rattle.std.proofs.Math.Bool.{or_assoc}
use Rattle.disk_model.specs.Disk.{Torn}
use Rattle.disk_model.specs.Images.{IsTornBy, filled_from, is_written}

module _ (here : ℕ → Bool) (byte : ℕ) where
  pub length-filled : (place : ℕ) (bytes : List ℕ) → length (filled_from place here byte bytes) ≡ length bytes
  length-filled place [] = refl
  length-filled place (b ∷ bytes) = ap suc (length-filled (place + 1) bytes)

  pub take-filled : (n place : ℕ) (bytes : List ℕ) → take n (filled_from place here byte bytes) ≡ filled_from place here byte (take n bytes)
  take-filled zero place bytes = refl
  take-filled (suc n) place [] = refl
  take-filled (suc n) place (b ∷ bytes) = ap (λ (l : List ℕ). (if here place then byte else b) ∷ l) (take-filled n (place + 1) bytes)

  pub drop-filled : (n place : ℕ) (bytes : List ℕ) → drop n (filled_from place here byte bytes) ≡ filled_from (place + n) here byte (drop n bytes)
  drop-filled zero place bytes = ap (λ (k : ℕ). filled_from k here byte bytes) (omega arith)
  drop-filled (suc n) place [] = refl
  drop-filled (suc n) place (b ∷ bytes) = drop-filled n (place + 1) bytes ∙ ap (λ (k : ℕ). filled_from k here byte (drop n bytes)) (omega arith)

  -- all of these places
  pub all_filled : (place : ℕ) (bytes : List ℕ) → ((i : ℕ) → place ≤ i → i < place + length bytes → here i ≡ true) → filled_from place here byte bytes ≡ replicate (length bytes) byte
  all_filled place [] all = refl
  all_filled place (b ∷ bytes) all = ap₂ (λ (x : ℕ) (l : List ℕ). x ∷ l) (ap (λ (h : Bool). if h then byte else b) (all place (omega arith) (omega arith))) (all_filled (place + 1) bytes (λ i from to. all i (omega (arith, from)) (omega (arith, to))))

-- by another test that tells the same of these places
pub same_filled : (here there : ℕ → Bool) (byte place : ℕ) (bytes : List ℕ) → ((i : ℕ) → place ≤ i → i < place + length bytes → here i ≡ there i) → filled_from place here byte bytes ≡ filled_from place there byte bytes
same_filled here there byte place [] same = refl
same_filled here there byte place (b ∷ bytes) same =
    ap₂ (λ (h : Bool) (l : List ℕ). (if h then byte else b) ∷ l) (same place (omega arith) (omega arith)) (same_filled here there byte (place + 1) bytes (λ i from to. same i (omega (arith, from)) (omega (arith, to))))

-- filled twice
pub filled_twice : (here there : ℕ → Bool) (byte place : ℕ) (bytes : List ℕ) → filled_from place there byte (filled_from place here byte bytes) ≡ filled_from place (λ i. here i || there i) byte bytes
filled_twice here there byte place [] = refl
filled_twice here there byte place (b ∷ bytes) = ap₂ (λ (x : ℕ) (l : List ℕ). x ∷ l) (one (here place) (there place)) (filled_twice here there byte (place + 1) bytes)
  where
    one : (h t : Bool) → (if t then byte else (if h then byte else b)) ≡ (if h || t then byte else b)
    one true true = refl
    one true false = refl
    one false true = refl
    one false false = refl

-- none of these places
pub none_filled : (here : ℕ → Bool) (byte place : ℕ) (bytes : List ℕ) → ((i : ℕ) → place ≤ i → i < place + length bytes → here i ≡ false) → filled_from place here byte bytes ≡ bytes
none_filled here byte place [] none = refl
none_filled here byte place (b ∷ bytes) none =
    ap₂ (λ (h : Bool) (l : List ℕ). (if h then byte else b) ∷ l) (none place (omega arith) (omega arith)) (none_filled here byte (place + 1) bytes (λ i from to. none i (omega (arith, from)) (omega (arith, to))))

-- ---- places of writes

-- one write more
pub written_more : (written : List (ℕ × ℕ)) (write : ℕ × ℕ) (i : ℕ) → is_written (written ++ write ∷ []) i ≡ (is_written written i || is_written (write ∷ []) i)
written_more [] write i = refl
written_more (first ∷ written) write i =
    let here = nat_le first.0 i && nat_lt i (first.0 + first.1) in
    ap (λ (b : Bool). here || b) (written_more written write i) ∙ sym (or_assoc here (is_written written i) (is_written (write ∷ []) i))

pub outside_before : (at len i : ℕ) → i < at → is_written ((at, len) ∷ []) i ≡ false
outside_before at len i less = ap (λ (b : Bool). b && nat_lt i (at + len) || false) (lt-leb at i less)

pub outside_behind : (at len i : ℕ) → at + len ≤ i → is_written ((at, len) ∷ []) i ≡ false
outside_behind at len i more = ap (λ (b : Bool). nat_le at i && b || false) (le-ltb i (at + len) more) ∙ neither (nat_le at i)
  where
    neither : (b : Bool) → (b && false || false) ≡ false
    neither true = refl
    neither false = refl

pub inside_it : (at len i : ℕ) → at ≤ i → i < at + len → is_written ((at, len) ∷ []) i ≡ true
inside_it at len i from to = ap₂ (λ (a b : Bool). a && b || false) (le-leb at i from) (lt-ltb i (at + len) to)

-- a byte in each place of one write, as far as it lies in the bytes
pub fill_range : (at len byte s e : ℕ) (bytes : List ℕ) → s ≡ min at e → e ≡ min (at + len) (length bytes)
    → take s bytes ++ (replicate (e - s) byte ++ drop (e - s) (drop s bytes)) ≡ filled_from 0 (is_written ((at, len) ∷ [])) byte bytes
fill_range at len byte s e bytes is_s is_e =
    let here = is_written ((at, len) ∷ []) in
    let all = filled_from 0 here byte bytes in
    let rest = drop s bytes in
    let front : take s all ≡ take s bytes = take-filled here byte s 0 bytes ∙ none_filled here byte 0 (take s bytes) (λ i from to. outside_before at len i (omega (arith, to, length-take s bytes, is_s))) in
    let tail : drop s all ≡ filled_from s here byte rest = drop-filled here byte s 0 bytes ∙ ap (λ (k : ℕ). filled_from k here byte rest) (omega arith) in
    let len_mid : length (take (e - s) rest) ≡ e - s = omega (arith, length-take (e - s) rest, length-drop s bytes, is_s, is_e) in
    let mid : take (e - s) (drop s all) ≡ replicate (e - s) byte =
    ap (take (e - s)) tail ∙ (take-filled here byte (e - s) s rest ∙ (all_filled here byte s (take (e - s) rest) (λ i from to. inside_it at len i (omega (arith, from, to, len_mid, is_s)) (omega (arith, to, len_mid, is_s, is_e))) ∙ ap (λ (n : ℕ). replicate n byte) len_mid)) in
    let len_last : length (drop (e - s) rest) ≡ length bytes - s - (e - s) = length-drop (e - s) rest ∙ ap (λ (n : ℕ). n - (e - s)) (length-drop s bytes) in
    let last : drop (e - s) (drop s all) ≡ drop (e - s) rest =
    ap (drop (e - s)) tail ∙ (drop-filled here byte (e - s) s rest ∙ none_filled here byte (s + (e - s)) (drop (e - s) rest) (λ i from to. outside_behind at len i (omega (arith, from, to, len_last, is_s, is_e)))) in
    sym (sym (take-append-drop s all) ∙ (ap (λ (l : List ℕ). l ++ drop s all) front
    ∙ ap (λ (l : List ℕ). take s bytes ++ l) (sym (take-append-drop (e - s) (drop s all)) ∙ (ap (λ (l : List ℕ). l ++ drop (e - s) (drop s all)) mid ∙ ap (λ (l : List ℕ). replicate (e - s) byte ++ l) last))))

-- a byte in each place of one write more
pub fill_more : (written : List (ℕ × ℕ)) (write : ℕ × ℕ) (byte : ℕ) (bytes : List ℕ)
    → filled_from 0 (is_written (write ∷ [])) byte (filled_from 0 (is_written written) byte bytes) ≡ filled_from 0 (is_written (written ++ write ∷ [])) byte bytes
fill_more written write byte bytes =
    filled_twice (is_written written) (is_written (write ∷ [])) byte 0 bytes
    ∙ same_filled (λ i. is_written written i || is_written (write ∷ []) i) (is_written (written ++ write ∷ [])) byte 0 bytes (λ i from to. sym (written_more written write i))

pub fill_none : (byte : ℕ) (bytes : List ℕ) → bytes ≡ filled_from 0 (is_written []) byte bytes
fill_none byte bytes = sym (none_filled (is_written []) byte 0 bytes (λ i from to. refl))

-- ---- what a stop leaves is an image

-- the same places filled before a write that was torn and behind it
pub torn_filled : (here there : ℕ → Bool) (at n byte : ℕ) (old new : List ℕ) → ((i : ℕ) → i < at → here i ≡ there i) → ((i : ℕ) → at + n ≤ i → here i ≡ there i) → Torn at n old new → Torn at n (filled_from 0 here byte old) (filled_from 0 there byte new)
torn_filled here there at n byte old new before behind torn = record {
  before = take-filled there byte at 0 new ∙ (ap (filled_from 0 there byte) torn.before ∙ (sym (same_filled here there byte 0 (take at old) (λ i from to. before i (omega (arith, to, length-take at old)))) ∙ sym (take-filled here byte at 0 old)));
  after = drop-filled there byte (at + n) 0 new ∙ (ap (filled_from (0 + (at + n)) there byte) torn.after ∙ (sym (same_filled here there byte (0 + (at + n)) (drop (at + n) old) (λ i from to. behind i (omega (arith, from)))) ∙ sym (drop-filled here byte (at + n) 0 old)));
  no_shorter = omega (arith, torn.no_shorter, length-filled here byte 0 old, length-filled there byte 0 new);
  no_longer = omega (arith, torn.no_longer, length-filled here byte 0 old, length-filled there byte 0 new);
}
