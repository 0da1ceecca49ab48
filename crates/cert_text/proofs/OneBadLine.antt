-- A text has a first bad line exactly where it spells nothing, and then one alone.
use Rattle.std.proofs.Common.{◌≡◌, refl, sym, ◌∙◌, ap, subst, ℕ, ◌<◌, ◌≤◌, true, ⊎_elim, List, [], ◌∷◌, ◌++◌, length, Result, Ok, Err, arith, append_assoc, length-append}
use Rattle.std.specs.List.{list_all, slice_split}
use Rattle.std.proofs.lemmas.Bool.{and_parts, cases_lt}
use Rattle.std.proofs.lemmas.List.Folds.{list_all-append}
use Rattle.model_data.specs.declared.solution.Cert.{Cert}
use Rattle.model_data.specs.declared.solution.Outcome.{Outcome}
use Rattle.cert_text.specs.Entries.{line}
use Rattle.cert_text.specs.Lines.{reading}
use Rattle.cert_text.specs.Spelling.{IsBadBehind, IsBeginning, IsFirstBadLine, Spells, bad_line, is_one_line, missing_line, text_of_lines}
use Rattle.cert_text.specs.declared.proof.Proof.{Proof}
use Rattle.cert_text.proofs.FirstBadLine.{IsRight, is_end, joined, never_empty, reading_right, whole_again}
use Rattle.cert_text.proofs.ReadLines.{split_last, split_line}

-- ---- lines at the head of a text

heads : (a b : List ℕ) (xs ys : List (List ℕ)) → a ∷ xs ≡ b ∷ ys → (a ≡ b) × (xs ≡ ys)
heads a b xs ys e = (cc, cc)

same_line : (a b x y : List ℕ) → is_one_line a ≡ true → is_one_line b ≡ true → line a ++ x ≡ line b ++ y → (a ≡ b) × (x ≡ y)
same_line a b x y a_one b_one e =
    let both = heads a b (slice_split is_end x) (slice_split is_end y) (sym (split_line a x a_one) ∙ ap (slice_split is_end) e ∙ split_line b y b_one) in
    (both.0, sym (whole_again x) ∙ ap joined both.1 ∙ whole_again y)

-- bytes without a line feed don't begin with a line
no_line : (bytes b x : List ℕ) → is_one_line bytes ≡ true → is_one_line b ≡ true → bytes ≡ line b ++ x → ⊥
no_line bytes b x one b_one e =
    let both = heads bytes b [] (slice_split is_end x) (sym (split_last bytes one) ∙ ap (slice_split is_end) e ∙ split_line b x b_one) in
    never_empty x (sym both.1)

lines-more : (a : List ℕ) (lines : List (List ℕ)) (x : List ℕ) → text_of_lines (a ∷ lines) ++ x ≡ line a ++ (text_of_lines lines ++ x)
lines-more a lines x = append_assoc (line a) (text_of_lines lines) x

lines-append : (front lines : List (List ℕ)) → text_of_lines (front ++ lines) ≡ text_of_lines front ++ text_of_lines lines
lines-append [] lines = refl
lines-append (a ∷ front) lines = ap (λ t. line a ++ t) (lines-append front lines) ∙ sym (append_assoc (line a) (text_of_lines front) (text_of_lines lines))

-- the longer of two lists of lines at the head of one text goes on where the other one stops
record Longer (short long : List (List ℕ)) (left behind : List ℕ) : Type 0 where
  more : List (List ℕ)
  long_is : long ≡ short ++ more
  left_is : left ≡ text_of_lines more ++ behind

longer : (short long : List (List ℕ)) (left behind : List ℕ) → list_all is_one_line short ≡ true → list_all is_one_line long ≡ true → length short ≤ length long
    → text_of_lines short ++ left ≡ text_of_lines long ++ behind → Longer short long left behind
longer [] long left behind p q less e = record { more = long; long_is = refl; left_is = e }
longer (a ∷ short) [] left behind p q less e = absurd (omega (arith, less))
longer (a ∷ short) (b ∷ long) left behind p q less e =
    let a_one = and_parts (is_one_line a) (list_all is_one_line short) p in
    let b_one = and_parts (is_one_line b) (list_all is_one_line long) q in
    let both = same_line a b (text_of_lines short ++ left) (text_of_lines long ++ behind) a_one.0 b_one.0 (sym (lines-more a short left) ∙ e ∙ lines-more b long behind) in
    let rest = longer short long left behind a_one.1 b_one.1 (omega (arith, less)) both.1 in
    record { more = rest.more; long_is = cc; left_is = rest.left_is }

-- ---- one first bad line

-- behind the good lines no line stands with which they are a beginning
stops : (good more : List (List ℕ)) (b rest behind : List ℕ) → IsBadBehind (text_of_lines good) rest → is_one_line b ≡ true → rest ≡ line b ++ behind
    → IsBeginning (text_of_lines (good ++ b ∷ more)) → ⊥
stops good more b _ behind (bad_line bytes after one none) b_one is begins =
    let both = same_line bytes b after behind one b_one is in
    none record {
      outcome = begins.outcome;
      cert = begins.cert;
      behind = text_of_lines more ++ begins.behind;
      spells = subst (λ text. Spells text begins.outcome begins.cert) (same both.0) begins.spells;
    }
  where
    same : bytes ≡ b → text_of_lines (good ++ b ∷ more) ++ begins.behind ≡ (text_of_lines good ++ line bytes) ++ (text_of_lines more ++ begins.behind)
    same e =
        ap (λ t. t ++ begins.behind) (lines-append good (b ∷ more))
        ∙ append_assoc (text_of_lines good) (text_of_lines (b ∷ more)) begins.behind
        ∙ ap (λ t. text_of_lines good ++ t) (lines-more b more begins.behind)
        ∙ ap (λ c. text_of_lines good ++ (line c ++ (text_of_lines more ++ begins.behind))) (sym e)
        ∙ sym (append_assoc (text_of_lines good) (line bytes) (text_of_lines more ++ begins.behind))
stops good more b bytes behind (missing_line _ one none) b_one is begins = no_line bytes b behind one b_one is

not_longer : (text : List ℕ) (m n : ℕ) (p : IsFirstBadLine text m) (q : IsFirstBadLine text n) → length p.good < length q.good → ⊥
not_longer text m n p q less =
    let l = longer p.good q.good p.rest q.rest p.are_lines q.are_lines (omega (arith, less)) (sym p.text_is ∙ q.text_is) in
    by_more l.more l.long_is l.left_is
  where
    by_more : (more : List (List ℕ)) → q.good ≡ p.good ++ more → p.rest ≡ text_of_lines more ++ q.rest → ⊥
    by_more [] long left = absurd (omega (arith, less, ap length long, length-append p.good []))
    by_more (b ∷ more) long left =
        stops p.good more b p.rest (text_of_lines more ++ q.rest) p.bad (one_of long) (left ∙ lines-more b more q.rest) (subst (λ lines. IsBeginning (text_of_lines lines)) long q.beginning)
      where
        one_of : q.good ≡ p.good ++ b ∷ more → is_one_line b ≡ true
        one_of long = (and_parts (is_one_line b) (list_all is_one_line more) (and_parts (list_all is_one_line p.good) (list_all is_one_line (b ∷ more)) (sym (list_all-append is_one_line p.good (b ∷ more)) ∙ ap (list_all is_one_line) (sym long) ∙ q.are_lines)).1).0

pub one_bad_line : (text : List ℕ) (m n : ℕ) → IsFirstBadLine text m → IsFirstBadLine text n → m ≡ n
one_bad_line text m n p q =
    ⊎_elim (λ less. absurd (not_longer text m n p q less))
    (λ most. ⊎_elim (λ less. absurd (not_longer text n m q p less)) (λ least. omega (arith, most, least, p.number_is, q.number_is)) (cases_lt (length q.good) (length p.good)))
    (cases_lt (length p.good) (length q.good))

-- ---- where there is one

pub bad_spells_nothing : (text : List ℕ) (n : ℕ) (o : Outcome) (c : Cert) → IsFirstBadLine text n → Spells text o c → ⊥
bad_spells_nothing text n o c first spells = by_case first.rest first.bad (subst (λ t. Spells t o c) first.text_is spells)
  where
    by_case : (rest : List ℕ) → IsBadBehind (text_of_lines first.good) rest → Spells (text_of_lines first.good ++ rest) o c → ⊥
    by_case _ (bad_line bytes more one none) whole =
        none record { outcome = o; cert = c; behind = more; spells = subst (λ t. Spells t o c) (sym (append_assoc (text_of_lines first.good) (line bytes) more)) whole }
    by_case _ (missing_line bytes one none) whole = none o c whole

pub some_bad_line : (text : List ℕ) → ((o : Outcome) (c : Cert) → Spells text o c → ⊥) → (n : ℕ) × IsFirstBadLine text n
unfolding IsRight
some_bad_line text nothing = by_answer (reading text) (reading_right text)
  where
    by_answer : (r : Result Proof ℕ) → IsRight text r → (n : ℕ) × IsFirstBadLine text n
    by_answer (Ok p) right = absurd (nothing p.outcome p.cert right)
    by_answer (Err n) right = (n, right)
