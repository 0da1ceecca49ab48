-- Each composed format has one spelling where its parts have.
use Rattle.std.proofs.Common.{◌≡◌, ℕ, zero, suc, ◌+◌, ◌*◌, ◌^◌, ◌<◌, ◌≤◌, Bool, true, false, ◌==◌, List, [], ◌∷◌, ◌++◌, length, take, drop, flat_map, slice_index, slice_index_or, Option, Some, None, refl, sym, ap, ap₂, ◌∙◌, subst, arith, append_assoc}
use Rattle.std.specs.Prelude.{nat_lt, nat_le, option_map, option_and_then, if◌then◌else◌, All, IfSome, IsTrue}
use Rattle.std.proofs.lemmas.Bool.Decides.{Decides-eqb, nat_tests}
use Rattle.std.proofs.lemmas.List.{length-append, length-take-le, take-append-drop}
use Rattle.std.proofs.Math.Seq.{drop-append_seam, take-append_seam}
use Rattle.byteorder.specs.Numbers.{length-bytes_high_first, big_number-reads_back, big_from-take, big_from-lt}
use Rattle.byteorder.specs.Endian.{big_bytes, big_number}
use Rattle.rec_format.specs.Format.{Format, number, both, beside, picked, pick, only, that, fields, optional, option_write, option_read, some_read, list_of, items_read, in_front, counted_read, text, cut, AreBytes, OneSpelling}
use Rattle.rec_format.proofs.Bytes.{one_spelling}

pub cases : {P : Type 0} (b : Bool) → (b ≡ true → P) → (b ≡ false → P) → P
cases true on off = on refl
cases false on off = off refl

-- ---- of each item

pub all_none : {A : Type 0} (P : A → Type 0) → All P []
all_none P k d within = absurd (omega arith)

pub all_first : {A : Type 0} (P : A → Type 0) (x : A) (xs : List A) → All P (x ∷ xs) → P x
all_first P x xs h = h zero x (omega arith)

pub all_rest : {A : Type 0} (P : A → Type 0) (x : A) (xs : List A) → All P (x ∷ xs) → All P xs
all_rest P x xs h k d within = h (suc k) d (omega (arith, within))

pub all_more : {A : Type 0} (P : A → Type 0) (x : A) (xs : List A) → P x → All P xs → All P (x ∷ xs)
all_more P x xs first rest zero d within = first
all_more P x xs first rest (suc k) d within = rest k d (omega (arith, within))

pub all_weaker : {A : Type 0} (P Q : A → Type 0) (xs : List A) → ((x : A) → P x → Q x) → All P xs → All Q xs
all_weaker P Q xs f h k d within = f (slice_index_or xs k d) (h k d within)

pub bytes_behind : (front rest : List ℕ) → AreBytes (front ++ rest) → AreBytes rest
bytes_behind [] rest h = h
bytes_behind (b ∷ front) rest h = bytes_behind front rest (all_rest (λ x. x < 256) b (front ++ rest) h)

pub bytes_front : (front rest : List ℕ) → AreBytes (front ++ rest) → AreBytes front
bytes_front [] rest h = all_none (λ x. x < 256)
bytes_front (b ∷ front) rest h = all_more (λ x. x < 256) b front (all_first (λ x. x < 256) b (front ++ rest) h) (bytes_front front rest (all_rest (λ x. x < 256) b (front ++ rest) h))

pub byte_at_place : (bs : List ℕ) → AreBytes bs → (i : ℕ) → slice_index bs i < 256
byte_at_place [] h i = omega arith
byte_at_place (b ∷ bs) h zero = all_first (λ x. x < 256) b bs h
byte_at_place (b ∷ bs) h (suc i) = byte_at_place bs (all_rest (λ x. x < 256) b bs h) i

pub bytes_from : (bs : List ℕ) → ((i : ℕ) → slice_index bs i < 256) → AreBytes bs
bytes_from [] h = all_none (λ x. x < 256)
bytes_from (b ∷ bs) h = all_more (λ x. x < 256) b bs (h zero) (bytes_from bs (λ i. h (suc i)))

-- ---- options

pub and_then_some : {A B : Type 0} (k : A → Option B) (o : Option A) (y : B) → option_and_then k o ≡ Some y → (x : A) × (o ≡ Some x) × (k x ≡ Some y)
and_then_some k None y h = absurd (cc)
and_then_some k (Some x) y h = (x, refl, h)

pub some_is : {A : Type 0} (x y : A) → Some x ≡ Some y → x ≡ y
some_is x y h = cc

pub map_some : {A B : Type 0} (f : A → B) (o : Option A) (y : B) → option_map f o ≡ Some y → (x : A) × (o ≡ Some x) × (f x ≡ y)
map_some f None y h = absurd (cc)
map_some f (Some x) y h = (x, refl, some_is (f x) y h)

-- ---- a number

pub number_back : (n x : ℕ) (rest : List ℕ) → x < 256 ^ n → (number n).read (big_bytes n x ++ rest) ≡ Some (x, rest)
unfolding number
number_back n x rest small =
    let len : length (big_bytes n x) ≡ n = length-bytes_high_first n x in
    let enough : nat_le n (length (big_bytes n x ++ rest)) ≡ true = (let room : n ≤ length (big_bytes n x ++ rest) = omega (arith, length-append (big_bytes n x) rest) in grind (arith, nat_tests)) in
    let value : big_number n (big_bytes n x ++ rest) ≡ x = big_number-reads_back n x rest small in
    let behind : drop n (big_bytes n x ++ rest) ≡ rest = subst (λ (k : ℕ). drop k (big_bytes n x ++ rest) ≡ rest) len (drop-append_seam (big_bytes n x) rest) in
    rw (enough, value, behind) refl

pub number_spelled : (n : ℕ) (bs : List ℕ) (x : ℕ) (rest : List ℕ) → AreBytes bs → (number n).read bs ≡ Some (x, rest) → (bs ≡ big_bytes n x ++ rest) × (x < 256 ^ n)
unfolding number
number_spelled n bs x rest small h = cases (nat_le n (length bs))
    (λ e.
    let enough : n ≤ length bs = grind (arith, nat_tests) in
    let is : (big_number n bs, drop n bs) ≡ (x, rest) = some_is _ _ (rw e at h) in
    let len : length (take n bs) ≡ n = length-take-le n bs enough in
    let whole : take n bs ++ drop n bs ≡ bs = take-append-drop n bs in
    let front : AreBytes (take n bs) = bytes_front (take n bs) (drop n bs) (subst AreBytes (sym whole) small) in
    let again : big_bytes (length (take n bs)) (big_number (length (take n bs)) (take n bs)) ≡ take n bs = one_spelling (take n bs) (byte_at_place (take n bs) front) in
    let again' : big_bytes n (big_number n (take n bs)) ≡ take n bs = subst (λ (k : ℕ). big_bytes k (big_number k (take n bs)) ≡ take n bs) len again in
    let same : big_number n (take n bs) ≡ big_number n bs = big_from-take 0 n n bs (omega arith) in
    let spelled : big_bytes n (big_number n bs) ≡ take n bs = subst (λ (m : ℕ). big_bytes n m ≡ take n bs) same again' in
    let fits : big_number n bs < 256 ^ n = big_from-lt 0 n bs (byte_at_place bs small) in
    subst (λ (p : ℕ × List ℕ). (bs ≡ big_bytes n p.0 ++ p.1) × (p.0 < 256 ^ n)) is (sym whole ∙ ap (λ (w : List ℕ). w ++ drop n bs) (sym spelled), fits))
    (λ e. absurd (let bad : None ≡ Some (x, rest) = (rw e at h) in cc))

-- which numbers fit
pub number_fits : (n x : ℕ) → x < 256 ^ n → (number n).Fits x
unfolding number
number_fits n x h = h

pub number_small : (n x : ℕ) → (number n).Fits x → x < 256 ^ n
unfolding number
number_small n x h = h

pub number_spelling : (n : ℕ) → OneSpelling (number n)
unfolding number
number_spelling n = record { back = number_back n; spelled = number_spelled n }

-- ---- one after the other

pub both_spelling : {A B : Type 0} (f : Format A) (g : Format B) → OneSpelling f → OneSpelling g → OneSpelling (both f g)
both_spelling {A = A} {B = B} f g p q = record {
  back = λ x rest fit.
      rw (append_assoc (f.write x.0) (g.write x.1) rest, p.back x.0 (g.write x.1 ++ rest) fit.0, q.back x.1 rest fit.1) refl;
  spelled = λ bs x rest small h.
      let s = and_then_some (λ a. beside a.0 (g.read a.1)) (f.read bs) (x, rest) h in
      let t = map_some (λ b. ((s.0.0, b.0), b.1)) (g.read s.0.1) (x, rest) s.2 in
      let front = p.spelled bs s.0.0 s.0.1 small s.1 in
      let back = q.spelled s.0.1 t.0.0 t.0.1 (bytes_behind (f.write s.0.0) s.0.1 (subst AreBytes front.0 small)) t.1 in
      subst (λ (r : (A × B) × List ℕ). (bs ≡ (f.write r.0.0 ++ g.write r.0.1) ++ r.1) × (f.Fits r.0.0 × g.Fits r.0.1)) t.2
      (front.0 ∙ (ap (λ (w : List ℕ). f.write s.0.0 ++ w) back.0 ∙ sym (append_assoc (f.write s.0.0) (g.write t.0.0) t.0.1)), (front.1, back.1));
}

-- ---- some of another type's values

pub picked_spelling : {A B : Type 0} (f : Format A) (Lawful : B → Type 0) (of : A → Option B) (from : B → A) → OneSpelling f
    → ((b : B) → Lawful b → of (from b) ≡ Some b)
    → ((a : A) (b : B) → f.Fits a → of a ≡ Some b → (from b ≡ a) × Lawful b)
    → OneSpelling (picked f Lawful of from)
picked_spelling {A = A} {B = B} f Lawful of from p there again = record {
  back = λ b rest fit. rw (p.back (from b) rest fit.1, there b fit.0) refl;
  spelled = λ bs b rest small h.
      let s = and_then_some (pick of) (f.read bs) (b, rest) h in
      let t = map_some (λ c. (c, s.0.1)) (of s.0.0) (b, rest) s.2 in
      let front = p.spelled bs s.0.0 s.0.1 small s.1 in
      let back = again s.0.0 t.0 front.1 t.1 in
      subst (λ (r : B × List ℕ). (bs ≡ f.write (from r.0) ++ r.1) × (Lawful r.0 × f.Fits (from r.0))) t.2
      (front.0 ∙ ap (λ (a : A). f.write a ++ s.0.1) (sym back.0), (back.1, subst f.Fits (sym back.0) front.1));
}

pub only_is : {A : Type 0} (test : A → Bool) (a b : A) → only test a ≡ Some b → (a ≡ b) × IsTrue (test b)
only_is test a b h = cases (test a)
    (λ e. let same : a ≡ b = some_is a b (rw e at h) in (same, ap test (sym same) ∙ e))
    (λ e. absurd (let bad : None ≡ Some b = (rw e at h) in cc))

pub that_spelling : {A : Type 0} (f : Format A) (test : A → Bool) → OneSpelling f → OneSpelling (that f test)
that_spelling f test p = picked_spelling f (λ x. IsTrue (test x)) (only test) (λ x. x) p
    (λ x h. rw h refl)
    (λ a b fit h. let t = only_is test a b h in (sym t.0, t.1))

pub fields_spelling : {A B : Type 0} (f : Format A) (to : A → B) (from : B → A) → OneSpelling f → ((b : B) → to (from b) ≡ b) → ((a : A) → from (to a) ≡ a) → OneSpelling (fields f to from)
fields_spelling {A = A} {B = B} f to from p there again = record {
  back = λ b rest fit. ap (option_map (λ (a : A × List ℕ). (to a.0, a.1))) (p.back (from b) rest fit) ∙ ap (λ (c : B). Some (c, rest)) (there b);
  spelled = λ bs b rest small h.
      let t = map_some (λ (a : A × List ℕ). (to a.0, a.1)) (f.read bs) (b, rest) h in
      let front = p.spelled bs t.0.0 t.0.1 small t.1 in
      subst (λ (r : B × List ℕ). (bs ≡ f.write (from r.0) ++ r.1) × f.Fits (from r.0)) t.2
      (front.0 ∙ ap (λ (a : A). f.write a ++ t.0.1) (sym (again t.0.0)), subst f.Fits (sym (again t.0.0)) front.1);
}

-- ---- an option

option_spelled : {A : Type 0} (f : Format A) → OneSpelling f → (bs : List ℕ) (x : Option A) (rest : List ℕ) → AreBytes bs → option_read f.read bs ≡ Some (x, rest)
    → (bs ≡ option_write f.write x ++ rest) × IfSome x f.Fits
option_spelled {A = A} f p [] x rest small h = absurd (cc)
option_spelled {A = A} f p (b ∷ bs) x rest small h = cases (b == 0)
    (λ e.
    let none : b ≡ 0 = (Decides-eqb b 0).0 e in
    let is : (None, bs) ≡ (x, rest) = some_is _ _ (rw e at h) in
    subst (λ (r : Option A × List ℕ). (b ∷ bs ≡ option_write f.write r.0 ++ r.1) × IfSome r.0 f.Fits) is (ap (λ (c : ℕ). c ∷ bs) none, tt))
    (λ e. cases (b == 1)
    (λ g.
    let one : b ≡ 1 = (Decides-eqb b 1).0 g in
    let t = map_some (λ a. (Some a.0, a.1)) (f.read bs) (x, rest) (rw (e, g) at h) in
    let back = p.spelled bs t.0.0 t.0.1 (all_rest (λ c. c < 256) b bs small) t.1 in
    subst (λ (r : Option A × List ℕ). (b ∷ bs ≡ option_write f.write r.0 ++ r.1) × IfSome r.0 f.Fits) t.2 (ap₂ (λ (c : ℕ) (cs : List ℕ). c ∷ cs) one back.0, back.1))
    (λ g. absurd (let bad : None ≡ Some (x, rest) = (rw (e, g) at h) in cc)))

option_back : {A : Type 0} (f : Format A) → OneSpelling f → (x : Option A) (rest : List ℕ) → IfSome x f.Fits → option_read f.read (option_write f.write x ++ rest) ≡ Some (x, rest)
option_back f p None rest h = refl
option_back f p (Some a) rest h = rw (p.back a rest h) refl

pub optional_spelling : {A : Type 0} (f : Format A) → OneSpelling f → OneSpelling (optional f)
optional_spelling f p = record { back = option_back f p; spelled = option_spelled f p }

-- ---- lists

items_back : {A : Type 0} (f : Format A) → OneSpelling f → (xs : List A) (rest : List ℕ) → All f.Fits xs → items_read f.read (length xs) (flat_map f.write xs ++ rest) ≡ Some (xs, rest)
unfolding items_read
items_back f p [] rest h = refl
items_back f p (x ∷ xs) rest h =
    rw (append_assoc (f.write x) (flat_map f.write xs) rest, p.back x (flat_map f.write xs ++ rest) (all_first f.Fits x xs h), items_back f p xs rest (all_rest f.Fits x xs h)) refl

items_spelled : {A : Type 0} (f : Format A) → OneSpelling f → (k : ℕ) (bs : List ℕ) (xs : List A) (rest : List ℕ) → AreBytes bs → items_read f.read k bs ≡ Some (xs, rest)
    → (bs ≡ flat_map f.write xs ++ rest) × (length xs ≡ k) × All f.Fits xs
unfolding items_read
items_spelled {A = A} f p zero bs xs rest small h =
    let is : ([], bs) ≡ (xs, rest) = some_is _ _ h in
    subst (λ (r : List A × List ℕ). (bs ≡ flat_map f.write r.0 ++ r.1) × (length r.0 ≡ zero) × All f.Fits r.0) is (refl, refl, all_none f.Fits)
items_spelled {A = A} f p (suc k) bs xs rest small h =
    let s = and_then_some (λ a. in_front a.0 (items_read f.read k a.1)) (f.read bs) (xs, rest) h in
    let t = map_some (λ r. (s.0.0 ∷ r.0, r.1)) (items_read f.read k s.0.1) (xs, rest) s.2 in
    let front = p.spelled bs s.0.0 s.0.1 small s.1 in
    let back = items_spelled f p k s.0.1 t.0.0 t.0.1 (bytes_behind (f.write s.0.0) s.0.1 (subst AreBytes front.0 small)) t.1 in
    subst (λ (r : List A × List ℕ). (bs ≡ flat_map f.write r.0 ++ r.1) × (length r.0 ≡ suc k) × All f.Fits r.0) t.2 (
      front.0 ∙ (ap (λ (w : List ℕ). f.write s.0.0 ++ w) back.0 ∙ sym (append_assoc (f.write s.0.0) (flat_map f.write t.0.0) t.0.1)),
      ap (λ (n : ℕ). suc n) back.1,
      all_more f.Fits s.0.0 t.0.0 front.1 back.2,
    )

pub list_spelling : {A : Type 0} (n : ℕ) (f : Format A) → OneSpelling f → OneSpelling (list_of n f)
list_spelling {A = A} n f p = record {
  back = λ xs rest fit.
      rw (append_assoc (big_bytes n (length xs)) (flat_map f.write xs) rest) (ap (option_and_then (counted_read f.read)) (number_back n (length xs) (flat_map f.write xs ++ rest) fit.0) ∙ items_back f p xs rest fit.1);
  spelled = λ bs xs rest small h.
      let s = and_then_some (counted_read f.read) ((number n).read bs) (xs, rest) h in
      let front = number_spelled n bs s.0.0 s.0.1 small s.1 in
      let back = items_spelled f p s.0.0 s.0.1 xs rest (bytes_behind (big_bytes n s.0.0) s.0.1 (subst AreBytes front.0 small)) s.2 in (
        front.0 ∙ (ap₂ (λ (m : ℕ) (w : List ℕ). big_bytes n m ++ w) (sym back.1) back.0 ∙ sym (append_assoc (big_bytes n (length xs)) (flat_map f.write xs) rest)),
        (subst (λ (m : ℕ). m < 256 ^ n) (sym back.1) front.1, back.2),
      );
}

-- ---- texts

cut_back : (t rest : List ℕ) → cut (length t, t ++ rest) ≡ Some (t, rest)
cut_back t rest =
    let room : length t ≤ length (t ++ rest) = omega (arith, length-append t rest) in
    let enough : nat_le (length t) (length (t ++ rest)) ≡ true = grind (arith, nat_tests) in
    rw (enough, take-append_seam t rest, drop-append_seam t rest) refl

pub text_spelling : (n : ℕ) → OneSpelling (text n)
text_spelling n = record {
  back = λ t rest fit.
      rw (append_assoc (big_bytes n (length t)) t rest) (ap (option_and_then cut) (number_back n (length t) (t ++ rest) fit.0) ∙ cut_back t rest);
  spelled = λ bs t rest small h.
      let s = and_then_some cut ((number n).read bs) (t, rest) h in
      let front = number_spelled n bs s.0.0 s.0.1 small s.1 in
      let small' : AreBytes s.0.1 = bytes_behind (big_bytes n s.0.0) s.0.1 (subst AreBytes front.0 small) in
      cases (nat_le s.0.0 (length s.0.1))
      (λ e.
      let enough : s.0.0 ≤ length s.0.1 = grind (arith, nat_tests) in
      let is : (take s.0.0 s.0.1, drop s.0.0 s.0.1) ≡ (t, rest) = some_is _ _ (rw e at s.2) in
      let whole : take s.0.0 s.0.1 ++ drop s.0.0 s.0.1 ≡ s.0.1 = take-append-drop s.0.0 s.0.1 in
      let len : length (take s.0.0 s.0.1) ≡ s.0.0 = length-take-le s.0.0 s.0.1 enough in
      let front' : AreBytes (take s.0.0 s.0.1) = bytes_front (take s.0.0 s.0.1) (drop s.0.0 s.0.1) (subst AreBytes (sym whole) small') in
      subst (λ (r : List ℕ × List ℕ). (bs ≡ (big_bytes n (length r.0) ++ r.0) ++ r.1) × ((length r.0 < 256 ^ n) × AreBytes r.0)) is (
        front.0 ∙ (ap₂ (λ (m : ℕ) (w : List ℕ). big_bytes n m ++ w) (sym len) (sym whole) ∙ sym (append_assoc (big_bytes n (length (take s.0.0 s.0.1))) (take s.0.0 s.0.1) (drop s.0.0 s.0.1))),
        (subst (λ (m : ℕ). m < 256 ^ n) (sym len) front.1, front'),
      ))
      (λ e. absurd (let bad : None ≡ Some (t, rest) = (rw e at s.2) in cc));
}
