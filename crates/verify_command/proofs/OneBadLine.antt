-- A text has one first bad line at most, and then it spells nothing.
use Rattle.std.proofs.Common.{◌≡◌, refl, sym, ◌∙◌, ap, subst, ℕ, ◌+◌, ◌<◌, ◌≤◌, ◌==◌, true, not, List, [], ◌∷◌, ◌++◌, length, arith, append_assoc}
use Rattle.std.specs.List.{list_all, slice_split}
use Rattle.std.proofs.lemmas.Bool.{and_parts}
use Rattle.std.proofs.lemmas.List.{append_cancel_left, length-append}
use Rattle.std.proofs.lemmas.List.Folds.{list_all-append}
use Rattle.model_data.specs.declared.solution.Cert.{Cert}
use Rattle.model_data.specs.declared.solution.Outcome.{Outcome}
use Rattle.cert_text.specs.Entries.{line}
use Rattle.cert_text.specs.Spelling.{IsBadBehind, IsBeginning, IsFirstBadLine, Spells, bad_line, is_one_line, missing_line, text_of_lines}
use Rattle.cert_text.proofs.ReadLines.{split_line}

-- ---- lines

head_same : (a b : List ℕ) (xs ys : List (List ℕ)) → a ∷ xs ≡ b ∷ ys → a ≡ b
head_same a b xs ys h = cc

first_line : (a b xs ys : List ℕ) → is_one_line a ≡ true → is_one_line b ≡ true → line a ++ xs ≡ line b ++ ys → (a ≡ b) × (xs ≡ ys)
first_line a b xs ys one other is =
    let same : a ≡ b = head_same a b (slice_split (λ byte. byte == 10) xs) (slice_split (λ byte. byte == 10) ys)
    (sym (split_line a xs one) ∙ (ap (slice_split (λ byte. byte == 10)) is ∙ split_line b ys other)) in
    (same, append_cancel_left (line b) xs ys (ap (λ l. line l ++ xs) (sym same) ∙ is))

-- a longer list of lines of the same text goes on with what stands behind the shorter one
record GoesOn (short long : List (List ℕ)) (rest rest' : List ℕ) : Type 0 where
  next : List ℕ
  more : List (List ℕ)
  lines_are : long ≡ short ++ next ∷ more
  next_is_line : is_one_line next ≡ true
  rest_is : rest ≡ line next ++ (text_of_lines more ++ rest')

one_more : (a b : List ℕ) (short long : List (List ℕ)) (rest rest' : List ℕ) → a ≡ b → (on : GoesOn short long rest rest') → GoesOn (a ∷ short) (b ∷ long) rest rest'
one_more a b short long rest rest' same on = record {
  next = on.next;
  more = on.more;
  lines_are = ap (λ ls. b ∷ ls) on.lines_are ∙ ap (λ l. l ∷ (short ++ on.next ∷ on.more)) (sym same);
  next_is_line = on.next_is_line;
  rest_is = on.rest_is;
}

goes_on : (short long : List (List ℕ)) (rest rest' : List ℕ) → list_all is_one_line short ≡ true → list_all is_one_line long ≡ true → text_of_lines short ++ rest ≡ text_of_lines long ++ rest' → length short < length long
    → GoesOn short long rest rest'
goes_on [] [] rest rest' h k is less = absurd (omega (arith, less))
goes_on [] (next ∷ more) rest rest' h k is less = record {
  next = next;
  more = more;
  lines_are = refl;
  next_is_line = (and_parts (is_one_line next) (list_all is_one_line more) k).0;
  rest_is = is ∙ append_assoc (line next) (text_of_lines more) rest';
}
goes_on (a ∷ short) [] rest rest' h k is less = absurd (omega (arith, less))
goes_on (a ∷ short) (b ∷ long) rest rest' h k is less =
    let one = and_parts (is_one_line a) (list_all is_one_line short) h in
    let other = and_parts (is_one_line b) (list_all is_one_line long) k in
    let first = first_line a b (text_of_lines short ++ rest) (text_of_lines long ++ rest') one.0 other.0
    (sym (append_assoc (line a) (text_of_lines short) rest) ∙ (is ∙ append_assoc (line b) (text_of_lines long) rest')) in
    one_more a b short long rest rest' first.0 (goes_on short long rest rest' one.1 other.1 first.1 (omega (arith, less)))

both_texts : (xs ys : List (List ℕ)) → text_of_lines (xs ++ ys) ≡ text_of_lines xs ++ text_of_lines ys
both_texts [] ys = refl
both_texts (x ∷ xs) ys = ap (λ t. line x ++ t) (both_texts xs ys) ∙ sym (append_assoc (line x) (text_of_lines xs) (text_of_lines ys))

-- a line feed is among the bytes of a line with its end
no_line : (bytes rest : List ℕ) → is_one_line (line bytes ++ rest) ≡ true → ⊥
no_line bytes rest h =
    let parts = and_parts (is_one_line bytes) (is_one_line (10 ∷ rest)) (sym (list_all-append (λ byte. not (byte == 10)) bytes (10 ∷ rest)) ∙ (ap is_one_line (sym (append_assoc bytes (10 ∷ []) rest)) ∙ h)) in
    absurd cc

-- ---- first bad lines

begins_so : (front bytes behind : List ℕ) (o : Outcome) (c : Cert) → Spells ((front ++ bytes) ++ behind) o c → IsBeginning (front ++ bytes)
begins_so front bytes behind o c spells = record { outcome = o; cert = c; behind = behind; spells = spells }

-- behind good lines stands no line with which they are a beginning
not_bad : (front rest next behind : List ℕ) → IsBadBehind front rest → is_one_line next ≡ true → rest ≡ line next ++ behind → IsBeginning (front ++ line next) → ⊥
not_bad front _ next behind (bad_line bytes more one refused) is_line is begins =
    let same = first_line bytes next more behind one is_line is in
    refused (subst (λ l. IsBeginning (front ++ line l)) (sym same.0) begins)
not_bad front _ next behind (missing_line bytes one refused) is_line is begins = no_line next behind (ap is_one_line (sym is) ∙ one)

no_longer : (text : List ℕ) (m n : ℕ) → (h : IsFirstBadLine text m) → (k : IsFirstBadLine text n) → length h.good < length k.good → ⊥
no_longer text m n h k less =
    let on = goes_on h.good k.good h.rest k.rest h.are_lines k.are_lines (sym h.text_is ∙ k.text_is) less in
    let front = text_of_lines h.good in
    let whole : text_of_lines k.good ≡ (front ++ line on.next) ++ text_of_lines on.more =
    ap text_of_lines on.lines_are ∙ (both_texts h.good (on.next ∷ on.more) ∙ sym (append_assoc front (line on.next) (text_of_lines on.more))) in
    let b = k.beginning in
    let begins : IsBeginning (front ++ line on.next) = record {
      outcome = b.outcome;
      cert = b.cert;
      behind = text_of_lines on.more ++ b.behind;
      spells = subst (λ t. Spells t b.outcome b.cert) (ap (λ t. t ++ b.behind) whole ∙ append_assoc (front ++ line on.next) (text_of_lines on.more) b.behind) b.spells;
    } in
    not_bad front h.rest on.next (text_of_lines on.more ++ k.rest) h.bad on.next_is_line on.rest_is begins

pub one_bad_line : (text : List ℕ) (m n : ℕ) → IsFirstBadLine text m → IsFirstBadLine text n → m ≡ n
one_bad_line text m n h k =
    let fewer : length h.good < length k.good → ⊥ = no_longer text m n h k in
    let more : length k.good < length h.good → ⊥ = no_longer text n m k h in
    grind (arith, h.number_is, k.number_is)

good_or_bad : (front rest : List ℕ) (o : Outcome) (c : Cert) → IsBadBehind front rest → Spells (front ++ rest) o c → ⊥
good_or_bad front _ o c (bad_line bytes more one refused) spells =
    refused record { outcome = o; cert = c; behind = more; spells = subst (λ t. Spells t o c) (sym (append_assoc front (line bytes) more)) spells }
good_or_bad front _ o c (missing_line bytes one refused) spells = refused o c spells

pub spelled_or_bad : (text : List ℕ) (n : ℕ) (o : Outcome) (c : Cert) → Spells text o c → IsFirstBadLine text n → ⊥
spelled_or_bad text n o c spells h = good_or_bad (text_of_lines h.good) h.rest o c h.bad (subst (λ t. Spells t o c) h.text_is spells)

-- ---- how many lines there are

as_long : (lines : List (List ℕ)) → length lines ≤ length (text_of_lines lines)
as_long [] = omega arith
as_long (l ∷ lines) = omega (arith, as_long lines, length-append (line l) (text_of_lines lines), length-append l (10 ∷ []))

pub bad_line_within : (text : List ℕ) (n : ℕ) → IsFirstBadLine text n → n ≤ length text + 1
bad_line_within text n h =
    let all : length text ≡ length (text_of_lines h.good ++ h.rest) = ap length h.text_is in
    omega (arith, h.number_is, as_long h.good, all, length-append (text_of_lines h.good) h.rest)
