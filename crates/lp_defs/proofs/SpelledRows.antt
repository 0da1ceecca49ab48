-- What is spelled is read so: rows.
use Rattle.std.proofs.Common.{◌≡◌, refl, sym, ◌∙◌, ap, subst, ℕ, Bool, true, false, IsTrue, IsFalse, ◌∷◌, [], List, Option, Some, Result, Ok, Err, if◌then◌else◌}
use Rattle.base_names.specs.declared.refusal.FaultWord.TheVariants.{DoubledName, Number as bad_number, Size}
use Rattle.frac128.specs.Checked.{◌>>=◌}
use Rattle.frac128.specs.Fraction.{Fraction}
use Rattle.model_data.specs.declared.model.Model.{Model}
use Rattle.model_data.specs.declared.model.Sense.{Sense}
use Rattle.lp_defs.specs.declared.fault.ModelFault.{ModelFault}
use Rattle.lp_defs.specs.Draft.{Unfinished, close_row, default_title, has_room_for_row, knows_row, new_row, with_term}
use Rattle.lp_defs.specs.Grammar.{OptionalSign, unsigned, signed, FiniteAmount, NamedTerm, lone, scaled, begins_with_sign, begins_with_comparison, OptionalLabel, unlabelled, one_token, two_tokens, AddsToRow, MoreTerms, none, more, RowTerms, nothing, first, title_or_default, MayOpen, SpellsRow}
use Rattle.lp_defs.specs.Objective.{lone_name}
use Rattle.lp_defs.specs.Quantity.{under_sign, value_of}
use Rattle.lp_defs.specs.Reading.{reading_from}
use Rattle.lp_defs.specs.Rows.{add_to_row, after_row_label, after_row_term, open_row, right_side, row_amount, row_term, settle_row_title}
use Rattle.lp_defs.specs.Stage.{row_first, row_next, row_number, row_side, row_title, rows_next, rows_start}
use Rattle.lp_defs.specs.Symbols.{Quantity, Seen, Spot, token, no_token, colon, comparison, number, keyword, label, name, fault_at, or_fault}
use Rattle.lp_defs.proofs.Parts.{Reads, first_branch, goes_on, second_branch}

pub adds : (s t : Spot) {text : List ℕ} {x : Fraction} {u told : Unfinished} → AddsToRow text x u told →
    add_to_row (record { number_spot = s; coefficient = x; name_spot = t; text = text }) u ≡ Ok told
adds s t {text} {x} {u} a =
    ap (λ o. or_fault s bad_number o >>= λ sum. or_fault t Size (with_term text sum u)) a.sum_is ∙ ap (or_fault t Size) a.told_is

named : (s t : Spot) {text : List ℕ} {x : Fraction} {u told : Unfinished} {r : Model} {ys : List Seen} {end : Spot} → AddsToRow text x u told →
    Reads (row_next told) ys end r →
    goes_on (row_term (record { number_spot = s; coefficient = x; name_spot = t; text = text }) u) ys end ≡ Ok r
named s t {ys} {end} a h = ap (λ o. goes_on (o >>= λ told. Ok (row_next told)) ys end) (adds s t a) ∙ h.ends

numbered : (head : Bool) (s : Spot) (negative : Bool) (written : Quantity) {x : Fraction} {u : Unfinished} {r : Model} {ys : List Seen} {end : Spot} →
    value_of (under_sign negative written) ≡ Some x → Reads (row_number head s x u) ys end r →
    goes_on (row_amount head negative s written u) ys end ≡ Ok r
numbered head s negative written {u} {ys} {end} e h = ap (λ o. goes_on (or_fault s bad_number o >>= λ x. Ok (row_number head s x u)) ys end) e ∙ h.ends

-- a name behind its number
number_name : (head : Bool) (s t : Spot) {text : List ℕ} {x : Fraction} {u told : Unfinished} {r : Model} {ys : List Seen} {end : Spot} → AddsToRow text x u told →
    Reads (row_next told) ys end r → Reads (row_number head s x u) (token t (name text) ∷ ys) end r
unfolding reading_from
number_name head s t a h = record { ends = named s t a h }

first_number : {xs ys : List Seen} {negative : Bool} (s : Spot) (has_sign : Bool) (written : Quantity) (u : Unfinished) {r : Model} (end : Spot) →
    OptionalSign xs negative (token s (number has_sign written) ∷ ys) → goes_on (row_amount true negative s written u) ys end ≡ Ok r →
    reading_from (row_first u) xs end ≡ Ok r
unfolding reading_from
first_number s has_sign written u end unsigned h = h
first_number s has_sign written u end signed h = h

next_number : {xs ys : List Seen} {negative : Bool} (s : Spot) (has_sign : Bool) (written : Quantity) (u : Unfinished) {r : Model} (end : Spot) →
    OptionalSign xs negative (token s (number has_sign written) ∷ ys) → IsTrue (begins_with_sign xs) →
    goes_on (row_amount false negative s written u) ys end ≡ Ok r → reading_from (row_next u) xs end ≡ Ok r
unfolding reading_from
next_number s true written u end unsigned e h = h
next_number s false written u end unsigned e h = absurd cc
next_number s has_sign written u end signed e h = h

first_name : {xs ys : List Seen} {negative : Bool} (s : Spot) (text : List ℕ) (u : Unfinished) {r : Model} (end : Spot) →
    OptionalSign xs negative (token s (name text) ∷ ys) → goes_on (row_term (lone_name negative s text) u) ys end ≡ Ok r →
    reading_from (row_first u) xs end ≡ Ok r
unfolding reading_from
first_name s text u end unsigned h = h
first_name s text u end signed h = h

next_name : {xs ys : List Seen} {negative : Bool} (s : Spot) (text : List ℕ) (u : Unfinished) {r : Model} (end : Spot) →
    OptionalSign xs negative (token s (name text) ∷ ys) → IsTrue (begins_with_sign xs) →
    goes_on (row_term (lone_name negative s text) u) ys end ≡ Ok r → reading_from (row_next u) xs end ≡ Ok r
unfolding reading_from
next_name s text u end unsigned e h = absurd cc
next_name s text u end signed e h = h

value_is : {xs ys : List Seen} {x : Fraction} (a : FiniteAmount xs x ys) → value_of (under_sign a.amount.negative a.amount.written) ≡ Some x
value_is a = ap value_of a.amount.value ∙ a.value

named_first : {xs ys : List Seen} {x : Fraction} {text : List ℕ} {u told : Unfinished} {r : Model} {end : Spot} → NamedTerm xs x text ys → AddsToRow text x u told →
    Reads (row_next told) ys end r → Reads (row_first u) xs end r
named_first {u} {end} (lone {spot} {text} o) a h = record { ends = first_name spot text u end o (named spot spot a h) }
named_first {u} {end} (scaled {spot} n) a h =
    let b = n.amount in
    record { ends = first_number b.spot b.has_sign b.written u end b.tokens (numbered true b.spot b.negative b.written (value_is n) (number_name true b.spot spot a h)) }

named_next : {xs ys : List Seen} {x : Fraction} {text : List ℕ} {u told : Unfinished} {r : Model} {end : Spot} → NamedTerm xs x text ys → IsTrue (begins_with_sign xs) →
    AddsToRow text x u told → Reads (row_next told) ys end r → Reads (row_next u) xs end r
named_next {u} {end} (lone {spot} {text} o) e a h = record { ends = next_name spot text u end o e (named spot spot a h) }
named_next {u} {end} (scaled {spot} n) e a h =
    let b = n.amount in
    record { ends = next_number b.spot b.has_sign b.written u end b.tokens e (numbered false b.spot b.negative b.written (value_is n) (number_name false b.spot spot a h)) }

terms_next : {xs ys : List Seen} {u told : Unfinished} {r : Model} {end : Spot} → MoreTerms xs u ys told → Reads (row_next told) ys end r → Reads (row_next u) xs end r
terms_next none h = h
terms_next (more marked t rest) h = named_next t.tokens marked t.adds (terms_next rest h)

terms_first : {xs ys : List Seen} {u told : Unfinished} {s : Spot} {sense : Sense} {r : Model} {end : Spot} → RowTerms xs u (token s (comparison sense) ∷ ys) told →
    Reads (row_side sense told) ys end r → Reads (row_first u) xs end r
unfolding reading_from
terms_first nothing h = record { ends = h.ends }
terms_first (first t rest) h = named_first t.tokens t.adds (terms_next rest (record { ends = h.ends }))

side_tokens : {xs ys : List Seen} {negative : Bool} (s : Spot) (has_sign : Bool) (written : Quantity) (sense : Sense) (u : Unfinished) {r : Model} (end : Spot) →
    OptionalSign xs negative (token s (number has_sign written) ∷ ys) → goes_on (right_side negative sense s written u) ys end ≡ Ok r →
    reading_from (row_side sense u) xs end ≡ Ok r
unfolding reading_from
side_tokens s has_sign written sense u end unsigned h = h
side_tokens s has_sign written sense u end signed h = h

side_read : {xs ys : List Seen} {x : Fraction} (sense : Sense) (u : Unfinished) {r : Model} {end : Spot} → FiniteAmount xs x ys →
    Reads (rows_next (close_row sense x u)) ys end r → Reads (row_side sense u) xs end r
side_read {ys} sense u {end} n h =
    let b = n.amount in
    let e = ap (λ o. goes_on (or_fault b.spot bad_number o >>= λ x. Ok (rows_next (close_row sense x u))) ys end) (value_is n) in
    record { ends = side_tokens b.spot b.has_sign b.written sense u end b.tokens (e ∙ h.ends) }

-- a row that may begin
pub opens : (s : Spot) (text : List ℕ) (m : Model) → MayOpen text m → open_row s text m ≡ Ok (new_row text m)
opens s text m o =
    second_branch (knows_row text m) (Err (fault_at s DoubledName)) (if has_room_for_row m then Ok (new_row text m) else Err (fault_at s Size)) o.is_new
    ∙ first_branch (has_room_for_row m) (Ok (new_row text m)) (Err (fault_at s Size)) o.has_room

labelled : (s : Spot) (text : List ℕ) (m : Model) (xs : List Seen) {r : Model} (end : Spot) → MayOpen text m → Reads (row_first (new_row text m)) xs end r →
    goes_on (open_row s text m >>= λ opened. Ok (row_first opened)) xs end ≡ Ok r
labelled s text m xs end o h = ap (λ p. goes_on (p >>= λ opened. Ok (row_first opened)) xs end) (opens s text m o) ∙ h.ends

-- a first name that is no label
titled : (s : Spot) (text : List ℕ) (m : Model) (o : Result Unfinished ModelFault) (xs : List Seen) (end : Spot) {r : Model} → settle_row_title s text m ≡ o →
    goes_on (o >>= λ told. Ok (row_next told)) xs end ≡ Ok r → reading_from (row_title s text m) xs end ≡ Ok r
unfolding reading_from
titled s text m (Err e) xs end is h = absurd cc
titled s text m (Ok told) [] end is h = absurd cc
titled s text m (Ok told) (no_token f ∷ xs) end is h = absurd cc
titled s text m (Ok told) (token t colon ∷ xs) end is h = absurd cc
titled s text m (Ok told) (token t symbol ∷ xs) end is h = ap (λ o. goes_on (o >>= λ told. after_row_term t symbol told) xs end) is ∙ h

-- a row without a label, by its first token
untitled : (xs : List Seen) (m : Model) {r : Model} {end : Spot} → MayOpen (default_title m) m → IsFalse (begins_with_comparison xs) →
    Reads (row_first (new_row (default_title m) m)) xs end r → reading_from (rows_next m) xs end ≡ Ok r
unfolding reading_from
untitled [] m o c h = absurd (let g = h.ends in cc)
untitled (no_token f ∷ xs) m o c h = absurd (let g = h.ends in cc)
untitled (token s (label text) ∷ xs) m o c h = absurd (let g = h.ends in cc)
untitled (token s (name text) ∷ xs) m {end} o c h =
    let u = new_row (default_title m) m in
    let e = ap (λ p. p >>= λ opened. add_to_row (lone_name false s text) opened) (opens s (default_title m) m o) in
    titled s text m (add_to_row (lone_name false s text) u) xs end e h.ends
untitled (token s (comparison sense) ∷ xs) m o c h = absurd cc
untitled (token s (keyword word) ∷ xs) m o c h = absurd (let g = h.ends in cc)
untitled (token s colon ∷ xs) m o c h = absurd (let g = h.ends in cc)
untitled (token s symbol ∷ xs) m {end} o c h =
    ap (λ p. goes_on (p >>= λ opened. after_row_label s symbol opened) xs end) (opens s (default_title m) m o) ∙ h.ends

-- what doesn't begin with a comparison is read alike as a first row and as a later one
row_start : (xs : List Seen) (m : Model) {r : Model} (end : Spot) → IsFalse (begins_with_comparison xs) → reading_from (rows_next m) xs end ≡ Ok r → reading_from (rows_start m) xs end ≡ Ok r
unfolding reading_from
row_start [] m end c h = h
row_start (no_token f ∷ xs) m end c h = h
row_start (token s (comparison sense) ∷ xs) m end c h = absurd cc
row_start (token s symbol ∷ xs) m end c h = h

-- a row that begins with its comparison
bare : (s : Spot) (sense : Sense) (xs : List Seen) (m : Model) {r : Model} {end : Spot} → MayOpen (default_title m) m →
    Reads (row_first (new_row (default_title m) m)) (token s (comparison sense) ∷ xs) end r → reading_from (rows_start m) (token s (comparison sense) ∷ xs) end ≡ Ok r
unfolding reading_from
bare s sense xs m {end} o h = ap (λ p. goes_on (p >>= λ opened. after_row_label s (comparison sense) opened) xs end) (opens s (default_title m) m o) ∙ h.ends

label_next : {xs ys : List Seen} {title : Option (List ℕ)} {m r : Model} {end : Spot} → OptionalLabel xs title ys → MayOpen (title_or_default title m) m →
    IsFalse (begins_with_comparison xs) → Reads (row_first (new_row (title_or_default title m) m)) ys end r → reading_from (rows_next m) xs end ≡ Ok r
unfolding reading_from
label_next {xs} {m} unlabelled o c h = untitled xs m o c h
label_next {m} {end} (one_token {spot} {text} {xs}) o c h = labelled spot text m xs end o h
label_next {m} {end} (two_tokens {spot} {text} {xs}) o c h = labelled spot text m xs end o h

label_start : {xs ys : List Seen} {title : Option (List ℕ)} {m r : Model} {end : Spot} → OptionalLabel xs title ys → MayOpen (title_or_default title m) m →
    Reads (row_first (new_row (title_or_default title m) m)) ys end r → reading_from (rows_start m) xs end ≡ Ok r
unfolding reading_from
label_start {xs = []} {m} {end} unlabelled o h = row_start [] m end refl (untitled [] m o refl h)
label_start {xs = no_token f ∷ xs} {m} {end} unlabelled o h = row_start (no_token f ∷ xs) m end refl (untitled (no_token f ∷ xs) m o refl h)
label_start {xs = token s (comparison sense) ∷ xs} {m} unlabelled o h = bare s sense xs m o h
label_start {xs = token s symbol ∷ xs} {m} {end} unlabelled o h = row_start (token s symbol ∷ xs) m end refl (untitled (token s symbol ∷ xs) m o refl h)
label_start {m} {end} (one_token {spot} {text} {xs}) o h = labelled spot text m xs end o h
label_start {m} {end} (two_tokens {spot} {text} {xs}) o h = labelled spot text m xs end o h

body_read : {xs ys : List Seen} {m told r : Model} {end : Spot} (w : SpellsRow xs m ys told) → Reads (rows_next told) ys end r → Reads (row_first (new_row (title_or_default w.title m) m)) w.behind_label end r
body_read {ys} {r} {end} w h = terms_first w.terms (side_read w.sense w.whole w.has_side (subst (λ m. Reads (rows_next m) ys end r) (sym w.told_is) h))

pub row_next_read : {xs ys : List Seen} {m told r : Model} {end : Spot} → SpellsRow xs m ys told → IsFalse (begins_with_comparison xs) → Reads (rows_next told) ys end r → Reads (rows_next m) xs end r
row_next_read w c h = record { ends = label_next w.has_label w.may_open c (body_read w h) }

pub row_start_read : {xs ys : List Seen} {m told r : Model} {end : Spot} → SpellsRow xs m ys told → Reads (rows_next told) ys end r → Reads (rows_start m) xs end r
row_start_read w h = record { ends = label_start w.has_label w.may_open (body_read w h) }
