-- What a reading gives is spelled, and where it stops is the first bad line.
use Rattle.std.proofs.Common.{◌≡◌, refl, sym, ◌∙◌, ap, subst, ℕ, suc, ◌+◌, ◌==◌, Bool, true, false, not, List, [], ◌∷◌, ◌++◌, length, map, Some, None, Result, Ok, Err, arith, append_assoc, take, drop, ◌≤◌, nat_lt}
use Rattle.std.specs.Prelude.{if◌then◌else◌}
use Rattle.std.specs.List.{join_with_byte, list_all, onto_first, position, position_or_len, slice_split}
use Rattle.std.proofs.lemmas.Bool.{and_parts, and_from, ltb-true}
use Rattle.std.proofs.lemmas.List.{append-nil}
use Rattle.std.proofs.lemmas.Bool.Decides.{nat_tests}
use Rattle.std.proofs.lemmas.List.Splits.{join_with_byte-slice_split, slice_split_first, slice_split_none}
use Rattle.std.proofs.lemmas.List.Sums.{fails_before_first}
use Rattle.base_names.specs.declared.memory.OrMemory.{OrMemory}
use Rattle.base_names.specs.declared.memory.OrMemory.TheVariants.{Fault, NoMemory}
use Rattle.model_data.specs.declared.solution.Cert.{Cert}
use Rattle.model_data.specs.declared.solution.Outcome.{Outcome}
use Rattle.cert_text.specs.Entries.{HaveNumbers, entry_text, line, text_of}
use Rattle.cert_text.specs.Lines.{IsReadAs, ending, or_bad, reading, reading_from, stage_behind}
use Rattle.cert_text.specs.Spelling.{Answers, Gives, IsBadBehind, IsBeginning, IsFirstBadLine, Spells, bad_line, entries, is_one_line, missing_line, text_of_lines}
use Rattle.cert_text.specs.declared.entry.Entry.{Entry}
use Rattle.cert_text.specs.declared.proof.CertFault.{CertFault}
use Rattle.cert_text.specs.declared.proof.Proof.{Proof}
use Rattle.cert_text.specs.declared.stage.Stage.{Stage}
use Rattle.cert_text.specs.declared.stage.Stage.TheVariants as stage
use Rattle.cert_text.proofs.EntryTexts.{text_is_line}
use Rattle.cert_text.proofs.Finishing.{can_end}
use Rattle.cert_text.proofs.ReadLines.{IsOutcome, IsRead, IsStuck, at_end, at_line, outcome_of_reading, parts_with, read_on, spelled_is_read, split_last, split_line, split_text}
use Rattle.cert_text.proofs.Runs.{ran, run}

abbrev pub is_end : ℕ → Bool
is_end byte = byte == 10

-- ---- parts joined again

-- parts with a line feed between any two of them
pub joined : List (List ℕ) → List ℕ
joined parts = join_with_byte 10 parts

pub whole_again : (text : List ℕ) → joined (slice_split is_end text) ≡ text
unfolding joined
whole_again text = join_with_byte-slice_split 10 text

joined-more : (a b : List ℕ) (parts : List (List ℕ)) → joined (a ∷ b ∷ parts) ≡ line a ++ joined (b ∷ parts)
unfolding joined
joined-more a b parts = sym (append_assoc a (10 ∷ []) (join_with_byte 10 (b ∷ parts)))

joined-last : (a : List ℕ) → joined (a ∷ []) ≡ a
unfolding joined
joined-last a = refl

joined-parts : (es : List Entry) (part : List ℕ) (parts : List (List ℕ)) → joined (parts_with es (part ∷ parts)) ≡ text_of es ++ joined (part ∷ parts)
unfolding parts_with
joined-parts [] part parts = refl
joined-parts (e ∷ []) part parts = joined-more (entry_text e) part parts ∙ ap (λ t. t ++ joined (part ∷ parts)) (sym (append-nil (line (entry_text e))))
joined-parts (e ∷ f ∷ es) part parts =
    joined-more (entry_text e) (entry_text f) (parts_with es (part ∷ parts))
    ∙ (ap (λ t. line (entry_text e) ++ t) (joined-parts (f ∷ es) part parts) ∙ sym (append_assoc (line (entry_text e)) (text_of (f ∷ es)) (joined (part ∷ parts))))

-- no part has a line feed
all_lines : (text : List ℕ) → list_all is_one_line (slice_split is_end text) ≡ true
all_lines [] = refl
all_lines (b ∷ bs) = by_test (is_end b) refl (slice_split is_end bs) (all_lines bs)
  where
    by_test : (t : Bool) → is_end b ≡ t → (parts : List (List ℕ)) → list_all is_one_line parts ≡ true → list_all is_one_line (if t then [] ∷ parts else onto_first b parts) ≡ true
    by_test true e parts h = h
    by_test false e [] h = rw e refl
    by_test false e (p ∷ parts) h =
        let two = and_parts (is_one_line p) (list_all is_one_line parts) h in
        and_from (is_one_line (b ∷ p)) (list_all is_one_line parts) (and_from (not (is_end b)) (is_one_line p) (ap not e) two.0) two.1

left_lines : (es : List Entry) (parts : List (List ℕ)) → list_all is_one_line (parts_with es parts) ≡ true → list_all is_one_line parts ≡ true
unfolding parts_with
left_lines [] parts h = h
left_lines (e ∷ es) parts h = left_lines es parts (and_parts (is_one_line (entry_text e)) (list_all is_one_line (parts_with es parts)) h).1

-- there is a part
pushed_some : (b : Bool) (x : ℕ) (parts : List (List ℕ)) → (if b then [] ∷ parts else onto_first x parts) ≡ [] → ⊥
pushed_some true x parts h = absurd cc
pushed_some false x [] h = absurd cc
pushed_some false x (p ∷ parts) h = absurd cc

pub never_empty : (xs : List ℕ) → slice_split is_end xs ≡ [] → ⊥
never_empty [] h = absurd cc
never_empty (x ∷ xs) h = pushed_some (is_end x) x (slice_split is_end xs) h

-- ---- what is read is spelled

ok_spelled : (text : List ℕ) (p : Proof) (n : ℕ) → IsRead stage.Start 1 (slice_split is_end text) (stage.Whole p) n ([] ∷ []) → Spells text p.outcome p.cert
ok_spelled text p n h =
    let whole = ran stage.Start h.read (stage.Whole p) tt h.runs in
    let same : entries p.outcome p.cert ≡ h.read = whole.reads in
    record {
      writable = whole.sound;
      numbers = subst HaveNumbers (sym same) h.numbers;
      text_is = sym (whole_again text) ∙ (ap joined h.parts ∙ (joined-parts h.read [] [] ∙ (ap (λ t. text_of h.read ++ t) (joined-last []) ∙ (append-nil (text_of h.read) ∙ ap text_of (sym same)))));
    }

-- ---- where a reading stops

lines_of : List Entry → List (List ℕ)
lines_of es = map entry_text es

lines_text : (es : List Entry) → text_of_lines (lines_of es) ≡ text_of es
unfolding lines_of
lines_text [] = refl
lines_text (e ∷ es) = ap (λ t. line (entry_text e) ++ t) (lines_text es)

lines_count : (es : List Entry) → length (lines_of es) ≡ length es
unfolding lines_of
lines_count [] = refl
lines_count (e ∷ es) = ap suc (lines_count es)

lines_lines : (es : List Entry) → HaveNumbers es → list_all is_one_line (lines_of es) ≡ true
unfolding lines_of
lines_lines [] h = refl
lines_lines (e ∷ es) h = and_from (is_one_line (entry_text e)) (list_all is_one_line (lines_of es)) (text_is_line e h.0) (lines_lines es h.1)

both_numbers : (es fs : List Entry) → HaveNumbers es → HaveNumbers fs → HaveNumbers (es ++ fs)
both_numbers [] fs h k = k
both_numbers (e ∷ es) fs h k = (h.0, both_numbers es fs h.1 k)

text_both : (es fs : List Entry) → text_of (es ++ fs) ≡ text_of es ++ text_of fs
text_both [] fs = refl
text_both (e ∷ es) fs = ap (λ t. line (entry_text e) ++ t) (text_both es fs) ∙ sym (append_assoc (line (entry_text e)) (text_of es) (text_of fs))

begins : (t : Stage) (es : List Entry) → HaveNumbers es → run stage.Start es ≡ Some t → IsBeginning (text_of es)
begins t es numbers runs =
    let is = ran stage.Start es t tt runs in
    let end = can_end t is.sound in
    let all : entries end.outcome end.cert ≡ es ++ end.rest = end.entries_are ∙ ap (λ xs. xs ++ end.rest) is.reads in
    record {
      outcome = end.outcome;
      cert = end.cert;
      behind = text_of end.rest;
      spells = record {
        writable = end.writable;
        numbers = subst HaveNumbers (sym all) (both_numbers es end.rest numbers end.numbers);
        text_is = sym (text_both es end.rest) ∙ ap text_of (sym all);
      };
    }

ok_or_err : (r : Result Proof ℕ) (p : Proof) (n : ℕ) → r ≡ Ok p → r ≡ Err n → ⊥
ok_or_err r p n h k = absurd (cc (sym h ∙ k))

pub stops : (t : Stage) (n : ℕ) (bytes : List ℕ) (parts : List (List ℕ)) → (parts ≡ [] → ⊥) → stage_behind t bytes ≡ None → reading_from t n (bytes ∷ parts) ≡ Err n
unfolding reading_from
stops t n bytes [] some none = absurd (some refl)
stops t n bytes (p ∷ parts) some none = ap (or_bad n (λ u. reading_from u (suc n) (p ∷ parts))) none

pub goes_on : (t u : Stage) (n : ℕ) (bytes : List ℕ) (parts : List (List ℕ)) → (parts ≡ [] → ⊥) → stage_behind t bytes ≡ Some u → reading_from t n (bytes ∷ parts) ≡ reading_from u (n + 1) parts
unfolding reading_from
goes_on t u n bytes [] some h = absurd (some refl)
goes_on t u n bytes (p ∷ parts) some h =
    let next_number : suc n ≡ n + 1 = omega arith in
    ap (or_bad n (λ v. reading_from v (suc n) (p ∷ parts))) h ∙ ap (λ k. reading_from u k (p ∷ parts)) next_number

pub comes_to : (t : Stage) (n : ℕ) (rest : List ℕ) → reading_from t n (rest ∷ []) ≡ ending t n rest
unfolding reading_from
comes_to t n rest = refl

-- the first line feed cuts a text
pub split_at_place : (xs : List ℕ) (i : ℕ) → position is_end xs ≡ Some i → slice_split is_end xs ≡ take i xs ∷ slice_split is_end (drop (i + 1) xs)
split_at_place xs i h = by_test (nat_lt (position_or_len is_end xs) (length xs)) refl h
  where
    by_test : (b : Bool) → nat_lt (position_or_len is_end xs) (length xs) ≡ b → (if b then Some (position_or_len is_end xs) else None) ≡ Some i → slice_split is_end xs ≡ take i xs ∷ slice_split is_end (drop (i + 1) xs)
    by_test false e h = absurd cc
    by_test true e h =
        let at : position_or_len is_end xs ≡ i = cc in
        slice_split_first is_end xs 0 (ltb-true (position_or_len is_end xs) (length xs) e) ∙ ap (λ k. take k xs ∷ slice_split is_end (drop (k + 1) xs)) at

pub split_nowhere : (xs : List ℕ) → position is_end xs ≡ None → slice_split is_end xs ≡ xs ∷ []
split_nowhere xs h = by_test (nat_lt (position_or_len is_end xs) (length xs)) refl h
  where
    by_test : (b : Bool) → nat_lt (position_or_len is_end xs) (length xs) ≡ b → (if b then Some (position_or_len is_end xs) else None) ≡ None → slice_split is_end xs ≡ xs ∷ []
    by_test true e h = absurd cc
    by_test false e h =
        let most : length xs ≤ position_or_len is_end xs = grind (arith, nat_tests, e) in
        slice_split_none is_end xs (λ k d l. fails_before_first is_end xs k d (omega (arith, most, l)))

-- a text whose entries lead to a stage that its next line can't stand behind spells nothing
line_refused : (t : Stage) (es : List Entry) (bytes behind : List ℕ) → HaveNumbers es → run stage.Start es ≡ Some t → is_one_line bytes ≡ true → stage_behind t bytes ≡ None
    → (o : Outcome) (c : Cert) → Spells ((text_of es ++ line bytes) ++ behind) o c → ⊥
line_refused t es bytes behind numbers runs one none o c spells =
    let text = (text_of es ++ line bytes) ++ behind in
    let parts : slice_split is_end text ≡ parts_with es (bytes ∷ slice_split is_end behind) = ap (slice_split is_end) (append_assoc (text_of es) (line bytes) behind) ∙ (split_text es (line bytes ++ behind) numbers ∙ ap (parts_with es) (split_line bytes behind one)) in
    let on = ap (reading_from stage.Start 1) parts ∙ read_on stage.Start t es 1 bytes (slice_split is_end behind) numbers runs in
    ok_or_err (reading text) record { outcome = o; cert = c } (1 + length es) (spelled_is_read text o c spells) (on ∙ stops t (1 + length es) bytes (slice_split is_end behind) (never_empty behind) none)

last_refused : (t : Stage) (es : List Entry) (bytes : List ℕ) → HaveNumbers es → run stage.Start es ≡ Some t → is_one_line bytes ≡ true → ending t (1 + length es) bytes ≡ Err (1 + length es)
    → (o : Outcome) (c : Cert) → Spells (text_of es ++ bytes) o c → ⊥
unfolding reading_from
last_refused t es bytes numbers runs one stuck o c spells =
    let text = text_of es ++ bytes in
    let parts : slice_split is_end text ≡ parts_with es (bytes ∷ []) = split_text es bytes numbers ∙ ap (parts_with es) (split_last bytes one) in
    ok_or_err (reading text) record { outcome = o; cert = c } (1 + length es) (spelled_is_read text o c spells)
    (ap (reading_from stage.Start 1) parts ∙ (read_on stage.Start t es 1 bytes [] numbers runs ∙ stuck))

bad_behind : (t : Stage) (es : List Entry) (n : ℕ) (left : List (List ℕ)) → HaveNumbers es → run stage.Start es ≡ Some t → n ≡ 1 + length es → list_all is_one_line left ≡ true → IsStuck t n left → IsBadBehind (text_of es) (joined left)
bad_behind t es n _ numbers runs is lines (at_end last stuck) =
    let one = (and_parts (is_one_line last) true lines).0 in
    subst (IsBadBehind (text_of es)) (sym (joined-last last))
    (missing_line last one (last_refused t es last numbers runs one (subst (λ k. ending t k last ≡ Err k) is stuck)))
bad_behind t es n _ numbers runs is lines (at_line bytes part parts none) =
    let one = (and_parts (is_one_line bytes) (list_all is_one_line (part ∷ parts)) lines).0 in
    subst (IsBadBehind (text_of es)) (sym (joined-more bytes part parts))
    (bad_line bytes (joined (part ∷ parts)) one (λ b. line_refused t es bytes b.behind numbers runs one none b.outcome b.cert b.spells))

-- parts that are left, as some first one and others
err_bad : (text : List ℕ) (n : ℕ) (t : Stage) (left : List (List ℕ)) → IsRead stage.Start 1 (slice_split is_end text) t n left → IsStuck t n left → IsFirstBadLine text n
err_bad text n t left h stuck =
    let es = h.read in
    let lines = left_lines es left (ap (list_all is_one_line) (sym h.parts) ∙ all_lines text) in
    record {
      good = lines_of es;
      rest = joined left;
      are_lines = lines_lines es h.numbers;
      text_is = sym (whole_again text) ∙ (ap joined h.parts ∙ (joined_left es t n left stuck ∙ ap (λ x. x ++ joined left) (sym (lines_text es))));
      number_is = h.number_is ∙ omega (arith, lines_count es);
      beginning = subst IsBeginning (sym (lines_text es)) (begins t es h.numbers h.runs);
      bad = subst (λ front. IsBadBehind front (joined left)) (sym (lines_text es)) (bad_behind t es n left h.numbers h.runs h.number_is lines stuck);
    }
  where
    joined_left : (es : List Entry) (t : Stage) (n : ℕ) (left : List (List ℕ)) → IsStuck t n left → joined (parts_with es left) ≡ text_of es ++ joined left
    joined_left es t n _ (at_end last stuck) = joined-parts es last []
    joined_left es t n _ (at_line bytes part parts none) = joined-parts es bytes (part ∷ parts)

-- ---- the answer to a reading

unfoldable pub IsRight : List ℕ → Result Proof ℕ → Type 0
IsRight text (Ok p) = Spells text p.outcome p.cert
IsRight text (Err n) = IsFirstBadLine text n

right_outcome : (text : List ℕ) (r : Result Proof ℕ) → IsOutcome stage.Start 1 (slice_split is_end text) r → IsRight text r
unfolding IsRight IsOutcome
right_outcome text (Ok p) h = ok_spelled text p h.0 h.1
right_outcome text (Err n) h = err_bad text n h.0 h.1 h.2 h.3

pub reading_right : (text : List ℕ) → IsRight text (reading text)
reading_right text = right_outcome text (reading text) (by_parts (slice_split is_end text) (never_empty text))
  where
    by_parts : (parts : List (List ℕ)) → (parts ≡ [] → ⊥) → IsOutcome stage.Start 1 parts (reading_from stage.Start 1 parts)
    by_parts [] some = absurd (some refl)
    by_parts (p ∷ parts) some = outcome_of_reading stage.Start 1 p parts

pub answered : (text : List ℕ) (result : Result Proof (OrMemory CertFault)) → IsReadAs (reading text) result → Answers text result
unfolding IsRight
answered text (Ok p) h = subst (IsRight text) h (reading_right text)
answered text (Err (Fault f)) h = subst (IsRight text) h (reading_right text)
answered text (Err NoMemory) h = tt

pub given : (text : List ℕ) (result : Result Proof (OrMemory CertFault)) → IsReadAs (reading text) result → (o : Outcome) (c : Cert) → Spells text o c → Gives o c result
given text (Ok p) h o c spells =
    let same : Ok p ≡ Ok record { outcome = o; cert = c } = sym h ∙ spelled_is_read text o c spells in
    let is : p ≡ record { outcome = o; cert = c } = cc in
    (ap (λ (q : Proof). q.outcome) is, ap (λ (q : Proof). q.cert) is)
given text (Err (Fault f)) h o c spells = ok_or_err (reading text) record { outcome = o; cert = c } f.line (spelled_is_read text o c spells) h
given text (Err NoMemory) h o c spells = tt

ok_same : (p q : Proof) → ◌≡◌ {A = Result Proof ℕ} (Ok p) (Ok q) → p ≡ q
ok_same p q h = cc

pub one_value : (text : List ℕ) (o p : Outcome) (c d : Cert) → Spells text o c → Spells text p d → (o ≡ p) × (c ≡ d)
one_value text o p c d h k =
    let is = ok_same record { outcome = o; cert = c } record { outcome = p; cert = d } (sym (spelled_is_read text o c h) ∙ spelled_is_read text p d k) in
    (ap (λ (q : Proof). q.outcome) is, ap (λ (q : Proof). q.cert) is)
