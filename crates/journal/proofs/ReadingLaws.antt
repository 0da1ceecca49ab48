-- What is read of bytes is what the format says.
use Rattle.std.proofs.Common.{◌≡◌, ◌≢◌, ◌⊎◌, inl, inr, ℕ, zero, suc, ◌+◌, ◌-◌, ◌*◌, ◌^◌, ◌≤◌, ◌<◌, List, [], ◌∷◌, ◌++◌, length, take, drop, slice_index, get_or, refl, sym, ◌∙◌, ap, subst, arith, append_assoc, length-append}
use Rattle.std.specs.Int.{bytes_high_first}
use Rattle.std.proofs.lemmas.Bool.{cases_eq, cases_lt}
use Rattle.std.proofs.lemmas.List.{append-nil, get_or-append-add}
use Rattle.journal.specs.Reading.{AreRead, StopsHere}
use Rattle.journal.specs.Records.{AtGate, AreShort, bodies_from, opened, record_of, records}
use Rattle.journal.proofs.Reading.{few_behind, few_bytes, from_opened, record_read, shut_gate, whole_record}

abbrev AreBytes : List ℕ → Type 0
AreBytes bytes = (i : ℕ) → slice_index bytes i < 256

-- a record that these bytes begin with, and one more byte
record First (bytes : List ℕ) : Type 0 where
  body : List ℕ
  after : List ℕ
  is : bytes ≡ 1 ∷ (record_of body ++ after)
  some : 0 < length after
  short : length body < 256 ^ 4

-- there is one, or nothing is read
first : (bytes : List ℕ) → AreBytes bytes → (bodies_from AtGate bytes ≡ []) ⊎ First bytes
first bytes small = elim (cases_lt (length bytes) 6) [
  | inl few ↦ inl (few_bytes bytes few)
  | inr long ↦ elim (cases_eq (slice_index bytes 0) 1) [
    | inr shut ↦ inl (shut_gate bytes shut)
    | inl open_gate ↦
        let n = slice_index bytes 1 * 16777216 + slice_index bytes 2 * 65536 + slice_index bytes 3 * 256 + slice_index bytes 4 in
        elim (cases_lt (n + 5) (length bytes)) [
          | inr less ↦ inl (few_behind bytes n long refl less)
          | inl whole ↦
              let w = whole_record bytes n small long open_gate refl whole in
              inr record { body = take n (drop 5 bytes); after = drop n (drop 5 bytes); is = w.0; some = w.1; short = w.2 }
        ]
  ]
]

nothing : (body : List ℕ) (bodies : List (List ℕ)) → ◌≡◌ {A = List (List ℕ)} (body ∷ bodies) [] → ⊥
nothing body bodies is = cc

some_more : (after : List ℕ) → 0 < length after → after ≡ [] → ⊥
some_more after some is = omega (arith, some, ap length is)

-- nothing is read where the reading stops
stopped : (bytes : List ℕ) → AreBytes bytes → StopsHere bytes → bodies_from AtGate bytes ≡ []
stopped bytes small stops = elim (first bytes small) [
  | inl none ↦ none
  | inr f ↦ absurd (some_more f.after f.some (stops f.body f.after f.short f.is))
]

-- and it stops where nothing is read
stops : (bytes : List ℕ) → bodies_from AtGate bytes ≡ [] → StopsHere bytes
stops bytes none body [] short is = refl
stops bytes none body (gate ∷ after) short is = absurd (nothing body (bodies_from AtGate (gate ∷ after)) (sym (ap (bodies_from AtGate) is ∙ record_read body (gate ∷ after) (omega arith) short) ∙ none))

-- bytes behind others
behind : (before after : List ℕ) → AreBytes (before ++ after) → AreBytes after
behind before after small i = subst (λ (b : ℕ). b < 256) (get_or-append-add before after i 0) (small (length before + i))

-- ---- what the format says is what is read

pub read_is : (bodies : List (List ℕ)) (bytes : List ℕ) → ((i : ℕ) → slice_index bytes i < 256) → AreRead bodies bytes → bodies_from AtGate bytes ≡ bodies
read_is bodies bytes small r = by bodies r.rest r.split r.short r.more r.stops
  where
    by : (bodies : List (List ℕ)) (rest : List ℕ) → bytes ≡ opened bodies ++ rest → AreShort bodies → (bodies ≢ [] → rest ≢ []) → StopsHere rest → bodies_from AtGate bytes ≡ bodies
    by [] [] split short more here = ap (bodies_from AtGate) split
    by (body ∷ bodies) [] split short more here = absurd (more (nothing body bodies) refl)
    by bodies (gate ∷ rest) split short more here =
        let none = stopped (gate ∷ rest) (behind (opened bodies) (gate ∷ rest) (subst (λ (l : List ℕ). (i : ℕ) → slice_index l i < 256) split small)) here in
        ap (bodies_from AtGate) split ∙ (from_opened bodies gate rest short ∙ (ap (λ (l : List (List ℕ)). bodies ++ l) none ∙ append-nil bodies))

-- ---- what is read is what the format says

-- by the number of bytes
read_so : (fuel : ℕ) (bytes : List ℕ) → length bytes ≤ fuel → AreBytes bytes → AreRead (bodies_from AtGate bytes) bytes
read_so zero [] few small = record { rest = []; split = refl; short = tt; more = λ some. absurd (some refl); stops = stops [] refl }
read_so zero (b ∷ bytes) few small = absurd (omega (arith, few))
read_so (suc fuel) bytes few small = elim (first bytes small) [
  | inl none ↦ subst (λ (bodies : List (List ℕ)). AreRead bodies bytes) (sym none) record { rest = bytes; split = refl; short = tt; more = λ some. absurd (some refl); stops = stops bytes none }
  | inr f ↦
      let front = 1 ∷ record_of f.body in
      let split : bytes ≡ front ++ f.after = f.is in
      let len : length bytes ≡ length front + length f.after = ap length split ∙ length-append front f.after in
      let r = read_so fuel f.after (omega (arith, few, len)) (behind front f.after (subst (λ (l : List ℕ). (i : ℕ) → slice_index l i < 256) split small)) in
      subst (λ (bodies : List (List ℕ)). AreRead bodies bytes) (sym (ap (bodies_from AtGate) f.is ∙ record_read f.body f.after f.some f.short)) record {
        rest = r.rest;
        split = split ∙ (ap (λ (l : List ℕ). front ++ l) r.split ∙ sym (append_assoc front (opened (bodies_from AtGate f.after)) r.rest));
        short = (f.short, r.short);
        more = λ _. rest_there f.after (bodies_from AtGate f.after) r.rest f.some r.split r.more;
        stops = r.stops;
      }
]
  where
    rest_there : (after : List ℕ) (bodies : List (List ℕ)) (rest : List ℕ) → 0 < length after → after ≡ opened bodies ++ rest → (bodies ≢ [] → rest ≢ []) → rest ≢ []
    rest_there after [] rest some split more = λ none. some_more after some (split ∙ none)
    rest_there after (body ∷ bodies) rest some split more = more (nothing body bodies)

pub so_read : (bytes : List ℕ) → ((i : ℕ) → slice_index bytes i < 256) → AreRead (bodies_from AtGate bytes) bytes
so_read bytes small = read_so (length bytes) bytes (omega arith) small
