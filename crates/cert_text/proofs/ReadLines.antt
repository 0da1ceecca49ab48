-- A text is read line by line: what it gives, and where it stops.
use Rattle.std.proofs.Common.{◌≡◌, refl, sym, ◌∙◌, ap, ap₂, ℕ, suc, ◌+◌, ◌==◌, Bool, true, false, not, List, [], ◌∷◌, ◌++◌, length, Option, Some, None, Result, Ok, Err, arith, append_assoc, All, get_or}
use Rattle.std.specs.List.{slice_split}
use Rattle.std.proofs.lemmas.List.{append-nil}
use Rattle.std.proofs.lemmas.List.Sums.{AllPass-from_list_all}
use Rattle.std.proofs.lemmas.List.Splits.{slice_split_at, slice_split_none}
use Rattle.model_data.specs.declared.solution.Cert.{Cert}
use Rattle.model_data.specs.declared.solution.Outcome.{Outcome}
use Rattle.cert_text.specs.Entries.{HaveNumbers, entry_text, line, text_of}
use Rattle.cert_text.specs.Lines.{ending, or_bad, reading, reading_from, stage_behind}
use Rattle.cert_text.specs.Reading.{◌>>=◌, entry_of}
use Rattle.cert_text.specs.Spelling.{Spells, entries, is_one_line}
use Rattle.cert_text.specs.Stages.{next}
use Rattle.cert_text.specs.declared.entry.Entry.{Entry}
use Rattle.cert_text.specs.declared.proof.Proof.{Proof}
use Rattle.cert_text.specs.declared.stage.Stage.{Stage}
use Rattle.cert_text.specs.declared.stage.Stage.TheVariants as stage
use Rattle.cert_text.proofs.Basics.{bound}
use Rattle.cert_text.proofs.EntryTexts.{entry_of-spelled, entry_of-written, text_is_line}
use Rattle.cert_text.proofs.Runs.{run, written_run}

abbrev is_end : ℕ → Bool
is_end byte = byte == 10

-- ---- texts and their parts

-- the lines of entries, and then this
unfoldable pub parts_with : List Entry → List (List ℕ) → List (List ℕ)
parts_with [] parts = parts
parts_with (e ∷ es) parts = entry_text e ∷ parts_with es parts

no_ends : (bytes : List ℕ) → is_one_line bytes ≡ true → All (λ x. is_end x ≡ false) bytes
no_ends bytes h = λ k d l. not_true (is_end (get_or bytes k d)) (AllPass-from_list_all (λ x. not (is_end x)) bytes h k d l)
  where
    not_true : (b : Bool) → not b ≡ true → b ≡ false
    not_true true h = absurd cc
    not_true false h = refl

pub split_line : (bytes rest : List ℕ) → is_one_line bytes ≡ true → slice_split is_end (line bytes ++ rest) ≡ bytes ∷ slice_split is_end rest
split_line bytes rest h = ap (slice_split is_end) (append_assoc bytes (10 ∷ []) rest) ∙ slice_split_at is_end bytes 10 rest (no_ends bytes h) refl

pub split_last : (bytes : List ℕ) → is_one_line bytes ≡ true → slice_split is_end bytes ≡ bytes ∷ []
split_last bytes h = slice_split_none is_end bytes (no_ends bytes h)

pub split_text : (es : List Entry) (rest : List ℕ) → HaveNumbers es → slice_split is_end (text_of es ++ rest) ≡ parts_with es (slice_split is_end rest)
unfolding parts_with
split_text [] rest h = refl
split_text (e ∷ es) rest h =
    ap (slice_split is_end) (append_assoc (line (entry_text e)) (text_of es) rest)
    ∙ (split_line (entry_text e) (text_of es ++ rest) (text_is_line e h.0) ∙ ap (λ parts. entry_text e ∷ parts) (split_text es rest h.1))

-- ---- reading on

line_read : (s u : Stage) (number : ℕ) (bytes part : List ℕ) (parts : List (List ℕ)) (fs : List Entry) → stage_behind s bytes ≡ Some u
    → reading_from s number (bytes ∷ parts_with fs (part ∷ parts)) ≡ reading_from u (suc number) (parts_with fs (part ∷ parts))
unfolding reading_from parts_with
line_read s u number bytes part parts [] first = ap (or_bad number (λ v. reading_from v (suc number) (part ∷ parts))) first
line_read s u number bytes part parts (f ∷ fs) first = ap (or_bad number (λ v. reading_from v (suc number) (entry_text f ∷ parts_with fs (part ∷ parts)))) first

pub read_on : (s t : Stage) (es : List Entry) (number : ℕ) (part : List ℕ) (parts : List (List ℕ)) → HaveNumbers es → run s es ≡ Some t
    → reading_from s number (parts_with es (part ∷ parts)) ≡ reading_from t (number + length es) (part ∷ parts)
unfolding run parts_with
read_on s t [] number part parts numbers h =
    let is : s ≡ t = cc in
    let at : number ≡ number + 0 = omega arith in
    ap₂ (λ u n. reading_from u n (part ∷ parts)) is at
read_on s t (e ∷ es) number part parts numbers h = by_next (next s e) refl h (λ u later. read_on u t es (suc number) part parts numbers.1 later)
  where
    by_next : (o : Option Stage) → next s e ≡ o → (o >>= λ u. run u es) ≡ Some t
        → ((u : Stage) → run u es ≡ Some t → reading_from u (suc number) (parts_with es (part ∷ parts)) ≡ reading_from t (suc number + length es) (part ∷ parts))
        → reading_from s number (parts_with (e ∷ es) (part ∷ parts)) ≡ reading_from t (number + length (e ∷ es)) (part ∷ parts)
    by_next None first h later = absurd cc
    by_next (Some u) first h later =
        let behind : stage_behind s (entry_text e) ≡ Some u = ap (λ o. o >>= λ f. next s f) (entry_of-written e numbers.0) ∙ first in
        let at : suc number + length es ≡ number + length (e ∷ es) = omega arith in
        line_read s u number (entry_text e) part parts es behind ∙ (later u h ∙ ap (λ n. reading_from t n (part ∷ parts)) at)

-- what is spelled is read
pub spelled_is_read : (text : List ℕ) (o : Outcome) (c : Cert) → Spells text o c → reading text ≡ Ok record { outcome = o; cert = c }
unfolding reading_from
spelled_is_read text o c h =
    let end : Stage = stage.Whole record { outcome = o; cert = c } in
    let parts : slice_split is_end text ≡ parts_with (entries o c) ([] ∷ []) = ap (slice_split is_end) (h.text_is ∙ sym (append-nil (text_of (entries o c)))) ∙ split_text (entries o c) [] h.numbers in
    ap (reading_from stage.Start 1) parts ∙ read_on stage.Start end (entries o c) 1 [] [] h.numbers (written_run o c h.writable)

-- ---- what a reading has read

-- entries that were read, the stage behind them, and the parts that are left
pub record IsRead (s : Stage) (number : ℕ) (all : List (List ℕ)) (t : Stage) (reached : ℕ) (left : List (List ℕ)) : Type 0 where
  pub read : List Entry
  pub numbers : HaveNumbers read
  pub runs : run s read ≡ Some t
  pub parts : all ≡ parts_with read left
  pub number_is : reached ≡ number + length read

-- why a reading stops
pub data IsStuck (t : Stage) (number : ℕ) : List (List ℕ) → Type 0 where
  at_end : (last : List ℕ) → ending t number last ≡ Err number → IsStuck t number (last ∷ [])
  at_line : (bytes part : List ℕ) (parts : List (List ℕ)) → stage_behind t bytes ≡ None → IsStuck t number (bytes ∷ part ∷ parts)

unfoldable pub IsOutcome : Stage → ℕ → List (List ℕ) → Result Proof ℕ → Type 0
IsOutcome s number all (Ok proof) = (n : ℕ) × IsRead s number all (stage.Whole proof) n ([] ∷ [])
IsOutcome s number all (Err n) = (t : Stage) × (left : List (List ℕ)) × IsRead s number all t n left × IsStuck t n left

nothing_read : (s : Stage) (number : ℕ) (all : List (List ℕ)) → IsRead s number all s number all
unfolding run parts_with
nothing_read s number all = record { read = []; numbers = tt; runs = refl; parts = refl; number_is = omega arith }

one_read : (s u t : Stage) (number n : ℕ) (e : Entry) (bytes : List ℕ) (all left : List (List ℕ)) → entry_of bytes ≡ Some e → next s e ≡ Some u → IsRead u (suc number) all t n left → IsRead s number (bytes ∷ all) t n left
unfolding run parts_with
one_read s u t number n e bytes all left says first h =
    let is = entry_of-spelled bytes e says in
    record {
      read = e ∷ h.read;
      numbers = (is.0, h.numbers);
      runs = ap (λ o. o >>= λ v. run v h.read) first ∙ h.runs;
      parts = ap₂ (λ (a : List ℕ) (b : List (List ℕ)). a ∷ b) (sym is.1) h.parts;
      number_is = omega (arith, h.number_is);
    }

last_read : (s : Stage) (number : ℕ) (last : List ℕ) → IsOutcome s number (last ∷ []) (ending s number last)
unfolding IsOutcome
last_read (stage.Whole proof) number [] = (number, nothing_read (stage.Whole proof) number ([] ∷ []))
last_read (stage.Whole proof) number (b ∷ bs) = (stage.Whole proof, (b ∷ bs) ∷ [], nothing_read (stage.Whole proof) number ((b ∷ bs) ∷ []), at_end (b ∷ bs) refl)
last_read stage.Start number last = (stage.Start, last ∷ [], nothing_read stage.Start number (last ∷ []), at_end last refl)
last_read (stage.Outcome o) number last = (stage.Outcome o, last ∷ [], nothing_read (stage.Outcome o) number (last ∷ []), at_end last refl)
last_read (stage.Nothing o) number last = (stage.Nothing o, last ∷ [], nothing_read (stage.Nothing o) number (last ∷ []), at_end last refl)
last_read (stage.Ray o ray) number last = (stage.Ray o ray, last ∷ [], nothing_read (stage.Ray o ray) number (last ∷ []), at_end last refl)
last_read (stage.Tree o m nodes node) number last = (stage.Tree o m nodes node, last ∷ [], nothing_read (stage.Tree o m nodes node) number (last ∷ []), at_end last refl)

-- what comes behind one line more
further_read : (s u : Stage) (number : ℕ) (e : Entry) (bytes : List ℕ) (all : List (List ℕ)) (r : Result Proof ℕ) → entry_of bytes ≡ Some e → next s e ≡ Some u → IsOutcome u (suc number) all r → IsOutcome s number (bytes ∷ all) r
unfolding IsOutcome
further_read s u number e bytes all (Ok proof) says first h = (h.0, one_read s u (stage.Whole proof) number h.0 e bytes all ([] ∷ []) says first h.1)
further_read s u number e bytes all (Err n) says first h = (h.0, h.1, one_read s u h.0 number n e bytes all h.1 says first h.2, h.3)

stuck_read : (s : Stage) (number : ℕ) (bytes part : List ℕ) (parts : List (List ℕ)) → stage_behind s bytes ≡ None → IsOutcome s number (bytes ∷ part ∷ parts) (Err number)
unfolding IsOutcome
stuck_read s number bytes part parts none = (s, bytes ∷ part ∷ parts, nothing_read s number (bytes ∷ part ∷ parts), at_line bytes part parts none)

pub outcome_of_reading : (s : Stage) (number : ℕ) (part : List ℕ) (parts : List (List ℕ)) → IsOutcome s number (part ∷ parts) (reading_from s number (part ∷ parts))
unfolding reading_from
outcome_of_reading s number last [] = last_read s number last
outcome_of_reading s number bytes (part ∷ parts) = by_stage (stage_behind s bytes) refl (λ u. outcome_of_reading u (suc number) part parts)
  where
    by_stage : (o : Option Stage) → stage_behind s bytes ≡ o → ((u : Stage) → IsOutcome u (suc number) (part ∷ parts) (reading_from u (suc number) (part ∷ parts)))
        → IsOutcome s number (bytes ∷ part ∷ parts) (or_bad number (λ t. reading_from t (suc number) (part ∷ parts)) o)
    by_stage None h later = stuck_read s number bytes part parts h
    by_stage (Some u) h later =
        let says = bound (entry_of bytes) (λ e. next s e) u h in
        further_read s u number says.0 bytes (part ∷ parts) (reading_from u (suc number) (part ∷ parts)) says.1 says.2 (later u)
