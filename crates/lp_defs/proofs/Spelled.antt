-- What is spelled is read so: the objective.
use Rattle.std.proofs.Common.{◌≡◌, refl, ◌∙◌, ap, ℕ, Bool, true, false, IsTrue, ◌∷◌, [], List, Option, Some, Result, Ok, Err}
use Rattle.base_names.specs.declared.refusal.FaultWord.TheVariants.{Number as bad_number, Size}
use Rattle.frac128.specs.Checked.{◌>>=◌}
use Rattle.frac128.specs.Fraction.{Fraction}
use Rattle.model_data.specs.declared.model.Model.{Model}
use Rattle.lp_defs.specs.declared.fault.ModelFault.{ModelFault}
use Rattle.lp_defs.specs.Draft.{with_constant, with_objective}
use Rattle.lp_defs.specs.Grammar.{OptionalSign, unsigned, signed, FiniteAmount, lone, scaled, begins_with_sign, OptionalLabel, unlabelled, one_token, two_tokens, AddsToObjective, ObjectivePart, term, alone, MoreObjective, none, more, ObjectiveParts, nothing, first, Objective, ConstraintsWord, short, subject_to, such_that}
use Rattle.lp_defs.specs.Objective.{add_to_objective, lone_name, objective_amount, objective_term, after_objective_term}
use Rattle.lp_defs.specs.Quantity.{under_sign, value_of}
use Rattle.lp_defs.specs.Reading.{reading_from}
use Rattle.lp_defs.specs.Stage.{objective_start, objective_title, objective_first, objective_number, objective_next, rows_start}
use Rattle.lp_defs.specs.Symbols.{Quantity, Seen, Spot, token, no_token, sign, colon, number, label, name, or_fault}
use Rattle.lp_defs.proofs.Parts.{Reads, first_branch, goes_on}

-- a sum and what it tells, each from its own spot
pub adds : (s t : Spot) {text : List ℕ} {x : Fraction} {m told : Model} → AddsToObjective text x m told →
    add_to_objective (record { number_spot = s; coefficient = x; name_spot = t; text = text }) m ≡ Ok told
adds s t {text} {x} {m} a =
    ap (λ o. or_fault s bad_number o >>= λ sum. or_fault t Size (with_objective text sum m)) a.sum_is ∙ ap (or_fault t Size) a.told_is

named : (s t : Spot) {text : List ℕ} {x : Fraction} {m told r : Model} {ys : List Seen} {end : Spot} → AddsToObjective text x m told →
    Reads (objective_next told) ys end r →
    goes_on (objective_term (record { number_spot = s; coefficient = x; name_spot = t; text = text }) m) ys end ≡ Ok r
named s t {ys} {end} a h = ap (λ o. goes_on (o >>= λ told. Ok (objective_next told)) ys end) (adds s t a) ∙ h.ends

numbered : (s : Spot) (negative : Bool) (written : Quantity) {x : Fraction} {m r : Model} {ys : List Seen} {end : Spot} →
    value_of (under_sign negative written) ≡ Some x → Reads (objective_number s x m) ys end r →
    goes_on (objective_amount negative s written m) ys end ≡ Ok r
numbered s negative written {m} {ys} {end} e h = ap (λ o. goes_on (or_fault s bad_number o >>= λ x. Ok (objective_number s x m)) ys end) e ∙ h.ends

-- behind a number, what reads on without a name
lone_number : (s : Spot) (x : Fraction) (m : Model) {told r : Model} (ys : List Seen) {end : Spot} → with_constant x m ≡ Some told →
    Reads (objective_next told) ys end r → reading_from (objective_number s x m) ys end ≡ Ok r
unfolding reading_from
lone_number s x m [] e h = absurd (let g = h.ends in cc)
lone_number s x m (no_token f ∷ ys) e h = absurd (let g = h.ends in cc)
lone_number s x m (token t (name text) ∷ ys) e h = absurd (let g = h.ends in cc)
lone_number s x m (token t symbol ∷ ys) {end} e h =
    ap (λ o. goes_on (or_fault s bad_number o >>= λ told. after_objective_term t symbol told) ys end) e ∙ h.ends

sign_number : {xs ys : List Seen} {negative : Bool} (s : Spot) (has_sign : Bool) (written : Quantity) (m : Model) {r : Model} (end : Spot) →
    OptionalSign xs negative (token s (number has_sign written) ∷ ys) → goes_on (objective_amount negative s written m) ys end ≡ Ok r →
    reading_from (objective_first m) xs end ≡ Ok r
unfolding reading_from
sign_number s has_sign written m end unsigned h = h
sign_number s has_sign written m end signed h = h

sign_name : {xs ys : List Seen} {negative : Bool} (s : Spot) (text : List ℕ) (m : Model) {r : Model} (end : Spot) →
    OptionalSign xs negative (token s (name text) ∷ ys) → goes_on (objective_term (lone_name negative s text) m) ys end ≡ Ok r →
    reading_from (objective_first m) xs end ≡ Ok r
unfolding reading_from
sign_name s text m end unsigned h = h
sign_name s text m end signed h = h

amount_first : {xs ys : List Seen} {x : Fraction} (m : Model) {r : Model} {end : Spot} → FiniteAmount xs x ys →
    ((s : Spot) → Reads (objective_number s x m) ys end r) → reading_from (objective_first m) xs end ≡ Ok r
amount_first m {end} a h =
    let b = a.amount in
    sign_number b.spot b.has_sign b.written m end b.tokens (numbered b.spot b.negative b.written (ap value_of b.value ∙ a.value) (h b.spot))

-- a name behind its number
number_name : (s t : Spot) {text : List ℕ} {x : Fraction} {m told r : Model} {ys : List Seen} {end : Spot} → AddsToObjective text x m told →
    Reads (objective_next told) ys end r → reading_from (objective_number s x m) (token t (name text) ∷ ys) end ≡ Ok r
unfolding reading_from
number_name s t a h = named s t a h

part_first : {xs ys : List Seen} {m told r : Model} {end : Spot} → ObjectivePart xs m ys told →
    Reads (objective_next told) ys end r → Reads (objective_first m) xs end r
part_first {m} {end} (term _ text (lone {spot} o) a) h = record { ends = sign_name spot text m end o (named spot spot a h) }
part_first {m} (term x text (scaled {spot} n) a) h = record { ends = amount_first m n (λ s. record { ends = number_name s spot a h }) }
part_first {ys} {m} (alone x n e) h = record { ends = amount_first m n (λ s. record { ends = lone_number s x m ys e h }) }

-- what begins with a sign is read alike as a first and as a later term
signed_next : (xs : List Seen) {m r : Model} {end : Spot} → IsTrue (begins_with_sign xs) → Reads (objective_first m) xs end r → Reads (objective_next m) xs end r
unfolding reading_from
signed_next [] e h = absurd cc
signed_next (no_token f ∷ xs) e h = absurd cc
signed_next (token s (sign negative) ∷ xs) e h = record { ends = h.ends }
signed_next (token s (number true quantity) ∷ xs) e h = record { ends = h.ends }
signed_next (token s (number false quantity) ∷ xs) e h = absurd cc
signed_next (token s symbol ∷ xs) e h = absurd cc

parts_next : {xs ys : List Seen} {m told r : Model} {end : Spot} → MoreObjective xs m ys told → Reads (objective_next told) ys end r → Reads (objective_next m) xs end r
parts_next none h = h
parts_next {xs} (more marked part rest) h = signed_next xs marked (part_first part (parts_next rest h))

-- An end of the objective is read alike where no term stands yet.
word_first : {xs ys : List Seen} {m r : Model} {end : Spot} → ConstraintsWord xs ys → Reads (objective_next m) xs end r → Reads (objective_first m) xs end r
unfolding reading_from
word_first short h = record { ends = h.ends }
word_first (subject_to e) h = record { ends = h.ends }
word_first (such_that e) h = record { ends = h.ends }

parts_first : {xs ys zs : List Seen} {m told r : Model} {end : Spot} → ObjectiveParts xs m ys told → ConstraintsWord ys zs →
    Reads (objective_next told) ys end r → Reads (objective_first m) xs end r
parts_first nothing word h = word_first word h
parts_first (first part rest) word h = part_first part (parts_next rest h)

-- a first name that is no label
titled : (s : Spot) (text : List ℕ) (m : Model) (o : Result Model ModelFault) (xs : List Seen) (end : Spot) {r : Model} → add_to_objective (lone_name false s text) m ≡ o →
    goes_on (o >>= λ told. Ok (objective_next told)) xs end ≡ Ok r → reading_from (objective_title s text m) xs end ≡ Ok r
unfolding reading_from
titled s text m (Err e) xs end is h = absurd cc
titled s text m (Ok told) [] end is h = absurd cc
titled s text m (Ok told) (no_token f ∷ xs) end is h = absurd cc
titled s text m (Ok told) (token t colon ∷ xs) end is h = absurd cc
titled s text m (Ok told) (token t symbol ∷ xs) end is h = ap (λ o. goes_on (o >>= λ told. after_objective_term t symbol told) xs end) is ∙ h

untitled : (xs : List Seen) (m : Model) {r : Model} {end : Spot} → Reads (objective_first m) xs end r → reading_from (objective_start m) xs end ≡ Ok r
unfolding reading_from
untitled [] m h = h.ends
untitled (no_token f ∷ xs) m h = h.ends
untitled (token s (label text) ∷ xs) m h = absurd (let g = h.ends in cc)
untitled (token s (name text) ∷ xs) m {end} h = titled s text m (add_to_objective (lone_name false s text) m) xs end refl h.ends
untitled (token s symbol ∷ xs) m h = h.ends

label_start : {xs ys : List Seen} {title : Option (List ℕ)} {m r : Model} {end : Spot} → OptionalLabel xs title ys → Reads (objective_first m) ys end r → Reads (objective_start m) xs end r
unfolding reading_from
label_start {xs} {m} unlabelled h = record { ends = untitled xs m h }
label_start one_token h = record { ends = h.ends }
label_start two_tokens h = record { ends = h.ends }

word_next : {xs ys : List Seen} {m r : Model} {end : Spot} → ConstraintsWord xs ys → Reads (rows_start m) ys end r → Reads (objective_next m) xs end r
unfolding reading_from
word_next short h = record { ends = h.ends }
word_next {m} {end} (subject_to {text} {xs} e) h = record { ends = ap (λ o. goes_on o xs end) (first_branch _ (Ok (rows_start m)) _ e) ∙ h.ends }
word_next {m} {end} (such_that {text} {xs} e) h = record { ends = ap (λ o. goes_on o xs end) (first_branch _ (Ok (rows_start m)) _ e) ∙ h.ends }

pub objective_read : {xs ys zs : List Seen} {m told r : Model} {end : Spot} → Objective xs m ys told → ConstraintsWord ys zs → Reads (rows_start told) zs end r →
    Reads (objective_start m) xs end r
objective_read o word h = label_start o.has_label (parts_first o.parts word (word_next word h))
