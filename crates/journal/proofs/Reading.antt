-- How records are read.
use Rattle.std.proofs.Common.{◌≡◌, ◌≢◌, ◌⊎◌, inl, inr, ℕ, zero, suc, ◌+◌, ◌*◌, ◌/◌, ◌%◌, ◌^◌, ◌<◌, List, [], ◌∷◌, ◌++◌, length, drop, refl, sym, ◌∙◌, ap, arith, append_assoc, slice_index, ◌≤◌, take, length-drop, take-append-drop}
use Rattle.std.proofs.lemmas.Bool.{cases_eq, cases_lt}
use Rattle.std.proofs.lemmas.Bool.Decides.{nat_tests}
use Rattle.std.proofs.lemmas.List.{append-nil, length-take-le}
use Rattle.std.specs.Int.{bytes_high_first}
use Rattle.journal.specs.Records.{AtGate, InLength, InBody, bodies_from, records, header, record_of, opened, front, AreShort, IsClosed, IsDoubtful}

-- a whole body, and the byte behind it
in_body : (body before : List ℕ) (gate : ℕ) (rest : List ℕ) → bodies_from (InBody (length body) before) (body ++ gate ∷ rest) ≡ (before ++ body) ∷ bodies_from AtGate (gate ∷ rest)
in_body [] before gate rest = ap (λ (b : List ℕ). b ∷ bodies_from AtGate (gate ∷ rest)) (sym (append-nil before))
in_body (b ∷ body) before gate rest = in_body body (before ++ b ∷ []) gate rest ∙ ap (λ (l : List ℕ). l ∷ bodies_from AtGate (gate ∷ rest)) (append_assoc before (b ∷ []) body)

number_is : (n : ℕ) (rest : List ℕ) → n < 256 ^ 4 → bodies_from (InLength 3 0) (bytes_high_first 4 n ++ rest) ≡ bodies_from (InBody n []) rest
number_is n rest small = let lt : n < 4294967296 = small in let same : ((((0 + n / 16777216 % 256) * 256 + n / 65536 % 256) * 256 + n / 256 % 256) * 256 + n % 256) ≡ n = omega arith in ap (λ (k : ℕ). bodies_from (InBody k []) rest) same

-- an open record that is whole
pub one_record : (body : List ℕ) (gate : ℕ) (rest : List ℕ) → length body < 256 ^ 4
    → bodies_from AtGate (1 ∷ (record_of body ++ gate ∷ rest)) ≡ body ∷ bodies_from AtGate (gate ∷ rest)
one_record body gate rest small =
    ap (bodies_from (InLength 3 0)) (append_assoc (bytes_high_first 4 (length body)) body (gate ∷ rest)) ∙ (number_is (length body) (body ++ gate ∷ rest) small ∙ in_body body [] gate rest)

-- open records, and then whatever the rest stands for
pub from_opened : (bodies : List (List ℕ)) (gate : ℕ) (rest : List ℕ) → AreShort bodies → bodies_from AtGate (opened bodies ++ gate ∷ rest) ≡ bodies ++ bodies_from AtGate (gate ∷ rest)
from_opened [] gate rest short = refl
from_opened (body ∷ []) gate rest short =
    ap (λ (l : List ℕ). bodies_from AtGate (1 ∷ l)) (append_assoc (record_of body) [] (gate ∷ rest)) ∙ one_record body gate rest short.0
from_opened (body ∷ next ∷ bodies) gate rest short =
    ap (λ (l : List ℕ). bodies_from AtGate (1 ∷ l)) (append_assoc (record_of body) (opened (next ∷ bodies)) (gate ∷ rest))
    ∙ (one_record body 1 ((record_of next ++ opened bodies) ++ gate ∷ rest) short.0 ∙ ap (λ (l : List (List ℕ)). body ∷ l) (from_opened (next ∷ bodies) gate rest short.1))

pub records_front : (bodies : List (List ℕ)) (gate : ℕ) (rest : List ℕ) → AreShort bodies → records (front bodies ++ gate ∷ rest) ≡ bodies ++ bodies_from AtGate (gate ∷ rest)
records_front bodies gate rest short = ap (bodies_from AtGate) (ap (drop 8) (append_assoc header (opened bodies) (gate ∷ rest))) ∙ from_opened bodies gate rest short

shut : (gate : ℕ) (rest : List ℕ) → gate ≢ 1 → bodies_from AtGate (gate ∷ rest) ≡ []
shut gate rest closed = grind (arith, nat_tests)

-- a closed gate ends them, whatever stands behind it
pub records_closed : (bodies : List (List ℕ)) (image : List ℕ) → AreShort bodies → IsClosed bodies image → records image ≡ bodies
records_closed bodies image short closed = ap records closed.1 ∙ (records_front bodies 0 closed.0 short ∙ (ap (λ (l : List (List ℕ)). bodies ++ l) (shut 0 closed.0 (omega arith)) ∙ append-nil bodies))

-- a whole record behind any gate counts or it doesn't
pub records_doubtful : (bodies : List (List ℕ)) (body image : List ℕ) → AreShort bodies → length body < 256 ^ 4 → IsDoubtful bodies body image
    → (records image ≡ bodies) ⊎ (records image ≡ bodies ++ body ∷ [])
records_doubtful bodies body image short small doubtful =
    let gate = doubtful.0 in
    let tail = record_of body ++ 0 ∷ doubtful.1 in
    let all : records image ≡ bodies ++ bodies_from AtGate (gate ∷ tail) = ap records doubtful.2 ∙ records_front bodies gate tail short in
    elim (cases_eq gate 1) [
      | inl open_gate ↦ inr (all ∙ ap (λ (l : List (List ℕ)). bodies ++ l) (ap (λ (g : ℕ). bodies_from AtGate (g ∷ tail)) open_gate ∙ (one_record body 0 doubtful.1 small ∙ ap (λ (l : List (List ℕ)). body ∷ l) (shut 0 doubtful.1 (omega arith)))))
      | inr closed ↦ inl (all ∙ (ap (λ (l : List (List ℕ)). bodies ++ l) (shut gate tail closed) ∙ append-nil bodies))
    ]

-- too few bytes for a length, or for a body and one more byte
few_in_body : (missing : ℕ) (body bytes : List ℕ) → length bytes ≤ missing → bodies_from (InBody missing body) bytes ≡ []
few_in_body missing body [] few = refl
few_in_body zero body (b ∷ bytes) few = absurd (omega arith)
few_in_body (suc missing) body (b ∷ bytes) few = few_in_body missing (body ++ b ∷ []) bytes (omega arith)

few_in_length : (missing number : ℕ) (bytes : List ℕ) → length bytes ≤ missing + 1 → bodies_from (InLength missing number) bytes ≡ []
few_in_length missing number [] few = refl
few_in_length zero number (b ∷ []) few = refl
few_in_length zero number (b ∷ c ∷ bytes) few = absurd (omega arith)
few_in_length (suc missing) number (b ∷ bytes) few = few_in_length missing (number * 256 + b) bytes (omega arith)

gate_none : (gate : ℕ) (bytes : List ℕ) → bodies_from (InLength 3 0) bytes ≡ [] → bodies_from AtGate (gate ∷ bytes) ≡ []
gate_none gate bytes none = elim (cases_eq gate 1) [
  | inl open_gate ↦ ap (λ (g : ℕ). bodies_from AtGate (g ∷ bytes)) open_gate ∙ none
  | inr closed ↦ shut gate bytes closed
]

pub few_bytes : (bytes : List ℕ) → length bytes < 6 → bodies_from AtGate bytes ≡ []
few_bytes [] few = refl
few_bytes (g ∷ []) few = gate_none g [] refl
few_bytes (g ∷ a ∷ bytes) few = elim (cases_lt (length bytes) 4) [
  | inl less ↦ gate_none g (a ∷ bytes) (few_in_length 3 0 (a ∷ bytes) (omega arith))
  | inr more ↦ absurd (omega arith)
]

pub shut_gate : (bytes : List ℕ) → slice_index bytes 0 ≢ 1 → bodies_from AtGate bytes ≡ []
shut_gate [] closed = refl
shut_gate (g ∷ bytes) closed = shut g bytes closed

pub few_behind : (bytes : List ℕ) (n : ℕ) → 6 ≤ length bytes → n ≡ slice_index bytes 1 * 16777216 + slice_index bytes 2 * 65536 + slice_index bytes 3 * 256 + slice_index bytes 4 → length bytes ≤ n + 5 → bodies_from AtGate bytes ≡ []
few_behind (g ∷ a ∷ b ∷ c ∷ d ∷ rest) n long is few =
    let same : (((0 * 256 + a) * 256 + b) * 256 + c) * 256 + d ≡ n = omega (arith, is) in
    gate_none g (a ∷ b ∷ c ∷ d ∷ rest) (ap (λ (k : ℕ). bodies_from (InBody k []) rest) same ∙ few_in_body n [] rest (omega arith))
few_behind [] n long is few = absurd (omega arith)
few_behind (g ∷ []) n long is few = absurd (omega arith)
few_behind (g ∷ a ∷ []) n long is few = absurd (omega arith)
few_behind (g ∷ a ∷ b ∷ []) n long is few = absurd (omega arith)
few_behind (g ∷ a ∷ b ∷ c ∷ []) n long is few = absurd (omega arith)

pub whole_record : (bytes : List ℕ) (n : ℕ) → ((i : ℕ) → slice_index bytes i < 256) → 6 ≤ length bytes → slice_index bytes 0 ≡ 1
    → n ≡ slice_index bytes 1 * 16777216 + slice_index bytes 2 * 65536 + slice_index bytes 3 * 256 + slice_index bytes 4 → n + 5 < length bytes
    → (bytes ≡ 1 ∷ (record_of (take n (drop 5 bytes)) ++ drop n (drop 5 bytes))) × (0 < length (drop n (drop 5 bytes))) × (length (take n (drop 5 bytes)) < 256 ^ 4)
whole_record (g ∷ a ∷ b ∷ c ∷ d ∷ rest) n small long open_gate is fits =
    let small_a : a < 256 = small 1 in
    let small_b : b < 256 = small 2 in
    let small_c : c < 256 = small 3 in
    let small_d : d < 256 = small 4 in
    let len : length (take n rest) ≡ n = length-take-le n rest (omega arith) in
    let below : n < 4294967296 = omega (arith, is) in
    let at_a : a ≡ n / 16777216 % 256 = omega (arith, is) in
    let at_b : b ≡ n / 65536 % 256 = omega (arith, is) in
    let at_c : c ≡ n / 256 % 256 = omega (arith, is) in
    let at_d : d ≡ n % 256 = omega (arith, is) in
    let tail : rest ≡ take n rest ++ drop n rest = sym (take-append-drop n rest) in (
      rw len ((λ i. open_gate i ∷ at_a i ∷ at_b i ∷ at_c i ∷ at_d i ∷ tail i)),
      omega (arith, length-drop n rest),
      rw len below,
    )
whole_record [] n small long open_gate is fits = absurd (omega arith)
whole_record (g ∷ []) n small long open_gate is fits = absurd (omega arith)
whole_record (g ∷ a ∷ []) n small long open_gate is fits = absurd (omega arith)
whole_record (g ∷ a ∷ b ∷ []) n small long open_gate is fits = absurd (omega arith)
whole_record (g ∷ a ∷ b ∷ c ∷ []) n small long open_gate is fits = absurd (omega arith)

pub record_read : (body after : List ℕ) → 0 < length after → length body < 256 ^ 4 → bodies_from AtGate (1 ∷ (record_of body ++ after)) ≡ body ∷ bodies_from AtGate after
record_read body [] some small = absurd (omega arith)
record_read body (gate ∷ rest) some small = one_record body gate rest small

pub records_shut : (bodies : List (List ℕ)) (gate : ℕ) (rest : List ℕ) → AreShort bodies → gate ≢ 1 → records (front bodies ++ gate ∷ rest) ≡ bodies
records_shut bodies gate rest short closed = records_front bodies gate rest short ∙ (ap (λ (l : List (List ℕ)). bodies ++ l) (shut gate rest closed) ∙ append-nil bodies)
