-- A record has one spelling, and what is told of bytes is of all of them.
use Rattle.std.proofs.Common.{◌≡◌, ◌<◌, ◌≤◌, ◌*◌, ◌+◌, ◌^◌, suc, nat_le, length, ℕ, ◌==◌, Bool, true, false, List, [], ◌∷◌, ◌++◌, Option, Some, None, refl, sym, ap, ap₂, subst, ◌∙◌, arith}
use Rattle.std.specs.Prelude.{option_and_then, if◌then◌else◌}
use Rattle.std.proofs.lemmas.Bool.Decides.{Decides-eqb, nat_tests}
use Rattle.std.proofs.lemmas.List.{append-nil}
use Rattle.base_names.specs.declared.id.BatchId.{BatchId}
use Rattle.model_data.specs.declared.batch.AttemptOf.{AttemptOf}
use Rattle.model_data.specs.declared.batch.BatchRecord.{BatchRecord}
use Rattle.model_data.specs.declared.batch.BatchRecord.TheVariants.{Abort, Create, Discard, Finish, Lost, Next, Retry}
use Rattle.rec_format.specs.Bodies.{created, finished}
use Rattle.rec_format.specs.Format.{Format, at_end, number, whole, AreBytes, OneSpelling}
use Rattle.rec_format.specs.Ids.{attempt, attempts, batch}
use Rattle.rec_format.specs.Records.{attempt_of, batch_record, made, record_of_kind, record_read, record_write, RecordFits}
use Rattle.rec_format.proofs.Composing.{all_rest, and_then_some, cases, map_some, some_is}
use Rattle.rec_format.proofs.PartsSpelled.{attempt_spelling, attempts_spelling, batch_spelling, created_spelling, finished_spelling}

-- ---- the first byte

abbrev pair : ℕ → List ℕ → Option (ℕ × List ℕ)
pair b bs = Some (b, bs)

byte_first : (b : ℕ) (bs : List ℕ) → (number 1).read (b ∷ bs) ≡ Some (b, bs)
unfolding number
byte_first b bs =
    let value : b * 1 + 0 ≡ b = omega arith in
    let some : nat_le 1 (length (b ∷ bs)) ≡ true = (let h : 1 ≤ length (b ∷ bs) = omega arith in grind (arith, nat_tests)) in
    rw some (ap (λ (n : ℕ). pair n bs) value)

none_first : (kind : ℕ) (rest : List ℕ) → (number 1).read [] ≡ Some (kind, rest) → ⊥
unfolding number
none_first kind rest h = let bad : None ≡ Some (kind, rest) = h in absurd (cc)

first_is : (bs : List ℕ) (kind : ℕ) (rest : List ℕ) → (number 1).read bs ≡ Some (kind, rest) → bs ≡ kind ∷ rest
first_is [] kind rest h = absurd (none_first kind rest h)
first_is (b ∷ bs) kind rest h = ap (λ (p : ℕ × List ℕ). p.0 ∷ p.1) (some_is (b, bs) (kind, rest) (sym (byte_first b bs) ∙ h))

-- ---- records

of_first : (kind : ℕ) (bs : List ℕ) → record_read (kind ∷ bs) ≡ record_of_kind kind bs
of_first kind bs = ap (option_and_then (λ (k : ℕ × List ℕ). record_of_kind k.0 k.1)) (byte_first kind bs)

record_back : (r : BatchRecord) (rest : List ℕ) → RecordFits r → record_read (record_write r ++ rest) ≡ Some (r, rest)
record_back (Create id n body) rest h = of_first 1 (created.write (attempt_of id n, body) ++ rest) ∙ ap (made (λ p. Create p.0.id p.0.attempt p.1)) (created_spelling.back (attempt_of id n, body) rest h)
record_back (Abort id n) rest h = of_first 2 (attempt.write (attempt_of id n) ++ rest) ∙ ap (made (λ of. Abort of.id of.attempt)) (attempt_spelling.back (attempt_of id n) rest h)
record_back (Discard id) rest h = of_first 3 (batch.write id ++ rest) ∙ ap (made Discard) (batch_spelling.back id rest h)
record_back (Retry id n) rest h = of_first 4 (attempt.write (attempt_of id n) ++ rest) ∙ ap (made (λ of. Retry of.id of.attempt)) (attempt_spelling.back (attempt_of id n) rest h)
record_back (Finish id n found) rest h = of_first 5 (finished.write (attempt_of id n, found) ++ rest) ∙ ap (made (λ p. Finish p.0.id p.0.attempt p.1)) (finished_spelling.back (attempt_of id n, found) rest h)
record_back (Lost list) rest h = of_first 6 (attempts.write list ++ rest) ∙ ap (made Lost) (attempts_spelling.back list rest h)
record_back (Next id) rest h = of_first 7 (batch.write id ++ rest) ∙ ap (made Next) (batch_spelling.back id rest h)

abbrev Spelled : ℕ → List ℕ → BatchRecord × List ℕ → Type 0
Spelled kind bs r = (kind ∷ bs ≡ record_write r.0 ++ r.1) × RecordFits r.0

-- one kind: what its format reads is spelled so
of_kind : {A : Type 0} (f : Format A) (make : A → BatchRecord) (k kind : ℕ) (bs : List ℕ) (r : BatchRecord) (rest : List ℕ) → OneSpelling f
    → ((a : A) → record_write (make a) ≡ k ∷ f.write a) → ((a : A) → f.Fits a → RecordFits (make a))
    → (kind == k) ≡ true → AreBytes bs → made make (f.read bs) ≡ Some (r, rest) → Spelled kind bs (r, rest)
of_kind f make k kind bs r rest p writes fits is small h =
    let t = map_some (λ q. (make q.0, q.1)) (f.read bs) (r, rest) h in
    let back = p.spelled bs t.0.0 t.0.1 small t.1 in
    subst (Spelled kind bs) t.2
    (ap₂ (λ (c : ℕ) (cs : List ℕ). c ∷ cs) ((Decides-eqb kind k).0 is) back.0 ∙ ap (λ (w : List ℕ). w ++ t.0.1) (sym (writes t.0.0)), fits t.0.0 back.1)

-- this kind, or another one
kind_or : {A : Type 0} (f : Format A) (make : A → BatchRecord) (k kind : ℕ) (bs : List ℕ) (r : BatchRecord) (rest : List ℕ) (more : Option (BatchRecord × List ℕ)) → OneSpelling f
    → ((a : A) → record_write (make a) ≡ k ∷ f.write a) → ((a : A) → f.Fits a → RecordFits (make a)) → AreBytes bs
    → (more ≡ Some (r, rest) → Spelled kind bs (r, rest))
    → (if kind == k then made make (f.read bs) else more) ≡ Some (r, rest) → Spelled kind bs (r, rest)
kind_or f make k kind bs r rest more p writes fits small others h = cases (kind == k)
    (λ e. of_kind f make k kind bs r rest p writes fits e small (rw e at h))
    (λ e. others (rw e at h))

kind_spelled : (kind : ℕ) (bs : List ℕ) (r : BatchRecord) (rest : List ℕ) → AreBytes bs → record_of_kind kind bs ≡ Some (r, rest) → Spelled kind bs (r, rest)
kind_spelled kind bs r rest behind h =
    kind_or created (λ p. Create p.0.id p.0.attempt p.1) 1 kind bs r rest _ created_spelling (λ a. refl) (λ a fit. fit) behind
    (kind_or attempt (λ of. Abort of.id of.attempt) 2 kind bs r rest _ attempt_spelling (λ a. refl) (λ a fit. fit) behind
    (kind_or batch Discard 3 kind bs r rest _ batch_spelling (λ a. refl) (λ a fit. fit) behind
    (kind_or attempt (λ of. Retry of.id of.attempt) 4 kind bs r rest _ attempt_spelling (λ a. refl) (λ a fit. fit) behind
    (kind_or finished (λ p. Finish p.0.id p.0.attempt p.1) 5 kind bs r rest _ finished_spelling (λ a. refl) (λ a fit. fit) behind
    (kind_or attempts Lost 6 kind bs r rest _ attempts_spelling (λ a. refl) (λ a fit. fit) behind
    (kind_or batch Next 7 kind bs r rest _ batch_spelling (λ a. refl) (λ a fit. fit) behind
    (λ e. absurd (cc)))))))) h

record_spelled : (bs : List ℕ) (r : BatchRecord) (rest : List ℕ) → AreBytes bs → record_read bs ≡ Some (r, rest) → (bs ≡ record_write r ++ rest) × RecordFits r
record_spelled bs r rest small h =
    let s = and_then_some (λ (k : ℕ × List ℕ). record_of_kind k.0 k.1) ((number 1).read bs) (r, rest) h in
    let is : bs ≡ s.0.0 ∷ s.0.1 = first_is bs s.0.0 s.0.1 s.1 in
    let back = kind_spelled s.0.0 s.0.1 r rest (all_rest (λ b. b < 256) s.0.0 s.0.1 (subst AreBytes is small)) s.2 in
    (is ∙ back.0, back.1)

pub record_spelling : OneSpelling batch_record
record_spelling = record { back = record_back; spelled = record_spelled }

-- ---- all of the bytes

nothing_behind : {A : Type 0} (p : A × List ℕ) (x : A) → at_end p ≡ Some x → p ≡ (x, [])
nothing_behind {A = A} (a, []) x h = ap (λ (y : A). (y, [])) (some_is a x h)
nothing_behind {A = A} (a, b ∷ bs) x h = absurd (cc)

pub whole_spelled : {A : Type 0} (f : Format A) → OneSpelling f → (bs : List ℕ) (x : A) → AreBytes bs → whole f bs ≡ Some x → (bs ≡ f.write x) × f.Fits x
whole_spelled {A = A} f p bs x small h =
    let s = and_then_some at_end (f.read bs) x h in
    let back = p.spelled bs x [] small (s.1 ∙ ap (λ (q : A × List ℕ). Some q) (nothing_behind s.0 x s.2)) in
    (back.0 ∙ append-nil (f.write x), back.1)

pub whole_back : {A : Type 0} (f : Format A) → OneSpelling f → (bs : List ℕ) (x : A) → f.Fits x → bs ≡ f.write x → whole f bs ≡ Some x
whole_back f p bs x fits is =
    ap (whole f) (is ∙ sym (append-nil (f.write x))) ∙ ap (option_and_then at_end) (p.back x [] fits)

pub told_apart : (r s : BatchRecord) → RecordFits r → RecordFits s → record_write r ≡ record_write s → r ≡ s
told_apart r s fits other same = some_is r s
    (sym (whole_back batch_record record_spelling (record_write r) r fits refl) ∙ whole_back batch_record record_spelling (record_write r) s other same)

-- ---- what is told of the bytes that a record was read from

pub told_at_end : (bs new : List ℕ) (r : BatchRecord) → record_read bs ≡ Some (r, new) → (length new == 0) ≡ true → whole batch_record bs ≡ Some r
told_at_end bs [] r taken done = ap (option_and_then at_end) taken
told_at_end bs (b ∷ new) r taken done = absurd (let bad : length (b ∷ new) ≡ 0 = (Decides-eqb (length (b ∷ new)) 0).0 done in omega arith)

pub not_at_end : (bs new : List ℕ) (r : BatchRecord) → record_read bs ≡ Some (r, new) → (length new == 0) ≡ false → whole batch_record bs ≡ None
not_at_end bs [] r taken more = absurd (cc)
not_at_end bs (b ∷ new) r taken more = ap (option_and_then at_end) taken
