-- What is spelled is read so: sections, and the whole text.
use Rattle.std.proofs.Common.{◌≡◌, refl, sym, ◌∙◌, ap, subst, ℕ, Bool, ◌∷◌, [], List, Some, Result, Ok, Err, if◌then◌else◌}
use Rattle.base_names.specs.declared.refusal.FaultWord.TheVariants.{Number as bad_number, Size}
use Rattle.frac128.specs.Checked.{◌>>=◌}
use Rattle.model_data.specs.declared.model.Direction.{Direction}
use Rattle.model_data.specs.declared.model.Model.{Model}
use Rattle.model_data.specs.declared.model.Sense.{Sense}
use Rattle.model_data.specs.declared.model.Sense.TheVariants.{Less, Greater, Equal}
use Rattle.model_data.specs.declared.model.VarKind.{VarKind}
use Rattle.lp_defs.specs.declared.fault.ModelFault.{ModelFault}
use Rattle.lp_defs.specs.declared.token.SectionWord.TheVariants.{End, Free}
use Rattle.lp_defs.specs.Draft.{blank, change_var, freed, mention, with_kind}
use Rattle.lp_defs.specs.Grammar.{OptionalSign, unsigned, signed, LimitAmount, IsRising, upward, downward, LeftBound, RightBound, Bound, free, right, left, both, BoundList, none, more, NameList, SpellsSection, bounds as bounds_section, general, binary, Sections, MoreRows, Rows, nothing, first, ObjectiveWord, minimize, maximize, SpellsModel}
use Rattle.lp_defs.specs.Quantity.{Limit, limit_of, may_bound, turned, under_sign, with_bound}
use Rattle.lp_defs.specs.Reading.{reading_from}
use Rattle.lp_defs.specs.Sections.{first_limit, last_limit}
use Rattle.lp_defs.specs.Stage.{Stage, start, objective_start, rows_start, rows_next, bounds, bound_end, bound_middle, bound_name, bound_number, bound_side, kinds}
use Rattle.lp_defs.specs.Symbols.{Quantity, Seen, Spot, token, no_token, comparison, number, keyword, name, fault_at, or_fault}
use Rattle.lp_defs.proofs.Parts.{Reads, first_branch, goes_on}
use Rattle.lp_defs.proofs.Spelled.{objective_read}
use Rattle.lp_defs.proofs.SpelledRows.{row_next_read, row_start_read}

value_is : {xs ys : List Seen} {limit : Limit} (a : LimitAmount xs limit ys) → limit_of (under_sign a.amount.negative a.amount.written) ≡ Some limit
value_is a = ap limit_of a.amount.value ∙ a.value

first_tokens : {xs ys : List Seen} {negative : Bool} (s : Spot) (has_sign : Bool) (written : Quantity) (m : Model) {r : Model} (end : Spot) →
    OptionalSign xs negative (token s (number has_sign written) ∷ ys) → goes_on (first_limit negative s written m) ys end ≡ Ok r →
    reading_from (bounds m) xs end ≡ Ok r
unfolding reading_from
first_tokens s has_sign written m end unsigned h = h
first_tokens s has_sign written m end signed h = h

last_tokens : {xs ys : List Seen} {negative : Bool} (s : Spot) (has_sign : Bool) (written : Quantity) (sense : Sense) (text : List ℕ) (m : Model) {r : Model} (end : Spot) →
    OptionalSign xs negative (token s (number has_sign written) ∷ ys) → goes_on (last_limit negative sense text s written m) ys end ≡ Ok r →
    reading_from (bound_side sense text m) xs end ≡ Ok r
unfolding reading_from
last_tokens s has_sign written sense text m end unsigned h = h
last_tokens s has_sign written sense text m end signed h = h

first_read : {xs ys : List Seen} {limit : Limit} (m : Model) {r : Model} {end : Spot} → LimitAmount xs limit ys → ((s : Spot) → Reads (bound_number s limit m) ys end r) →
    Reads (bounds m) xs end r
first_read {ys} m {end} n h =
    let b = n.amount in
    let e = ap (λ o. goes_on (or_fault b.spot bad_number o >>= λ limit. Ok (bound_number b.spot limit m)) ys end) (value_is n) in
    record { ends = first_tokens b.spot b.has_sign b.written m end b.tokens (e ∙ (h b.spot).ends) }

-- the step behind a last limit
set_or_fault : Spot → Sense → List ℕ → Model → Limit → Result Stage ModelFault
set_or_fault s sense text m limit = if may_bound sense limit then Ok (bounds (change_var text (with_bound sense limit) m)) else Err (fault_at s bad_number)

right_read : {xs ys : List Seen} {m told : Model} {sense : Sense} {text : List ℕ} {r : Model} {end : Spot} → RightBound xs m sense text ys told → Reads (bounds told) ys end r →
    Reads (bound_side sense text m) xs end r
unfolding set_or_fault
right_read {ys} {m} {sense} {text} {r} {end} w h =
    let b = w.has_limit.amount in
    let set = bounds (change_var text (with_bound sense w.limit) m) in
    let e = ap (λ o. goes_on (or_fault b.spot bad_number o >>= set_or_fault b.spot sense text m) ys end) (value_is w.has_limit) in
    let f = ap (λ o. goes_on o ys end) (first_branch (may_bound sense w.limit) (Ok set) (Err (fault_at b.spot bad_number)) w.fits) in
    let g = subst (λ told. Reads (bounds told) ys end r) (sym w.told_is) h in
    record { ends = last_tokens b.spot b.has_sign b.written sense text m end b.tokens (e ∙ f ∙ g.ends) }

left_end : {xs ys : List Seen} {m told : Model} {sense : Sense} {text : List ℕ} {r : Model} {end : Spot} → LeftBound xs m sense text ys told →
    Reads (bound_end sense text told) ys end r → Reads (bounds m) xs end r
unfolding reading_from
left_end {ys} {m} {sense} {text} {r} {end} w h = first_read m w.has_limit λ s.
    let rest = token w.name_spot (name text) ∷ ys in
    let f = ap (λ o. goes_on o rest end) (first_branch (may_bound (turned sense) w.limit) (Ok (bound_middle w.limit sense m)) (Err (fault_at s bad_number)) w.fits) in
    let e = ap (λ o. goes_on (or_fault w.name_spot Size o >>= λ known. Ok (bound_end sense text (change_var text (with_bound (turned sense) w.limit) known))) ys end) w.known_is in
    let g = subst (λ told. Reads (bound_end sense text told) ys end r) (sym w.told_is) h in
    record { ends = f ∙ (e ∙ g.ends) }

-- behind a left part alone
end_alone : (sense : Sense) (text : List ℕ) (m : Model) (xs : List Seen) {r : Model} {end : Spot} → Reads (bounds m) xs end r → reading_from (bound_end sense text m) xs end ≡ Ok r
unfolding reading_from
end_alone sense text m [] h = h.ends
end_alone sense text m (no_token f ∷ xs) h = h.ends
end_alone Less text m (token s (comparison sense) ∷ xs) h = absurd (let g = h.ends in cc)
end_alone Greater text m (token s (comparison sense) ∷ xs) h = absurd (let g = h.ends in cc)
end_alone Equal text m (token s (comparison sense) ∷ xs) h = h.ends
end_alone Less text m (token s symbol ∷ xs) h = h.ends
end_alone Greater text m (token s symbol ∷ xs) h = h.ends
end_alone Equal text m (token s symbol ∷ xs) h = h.ends

end_again : {sense : Sense} (s : Spot) (text : List ℕ) (m : Model) (xs : List Seen) {r : Model} {end : Spot} → IsRising sense → Reads (bound_side sense text m) xs end r →
    reading_from (bound_end sense text m) (token s (comparison sense) ∷ xs) end ≡ Ok r
unfolding reading_from
end_again s text m xs upward h = h.ends
end_again s text m xs downward h = h.ends

mentioned : (s : Spot) (text : List ℕ) (m : Model) {known : Model} (f : Model → Stage) (xs : List Seen) {r : Model} {end : Spot} → mention text m ≡ Some known → Reads (f known) xs end r →
    goes_on (or_fault s Size (mention text m) >>= λ known. Ok (f known)) xs end ≡ Ok r
mentioned s text m f xs {end} e h = ap (λ o. goes_on (or_fault s Size o >>= λ known. Ok (f known)) xs end) e ∙ h.ends

named_bound : (s : Spot) (text : List ℕ) (m : Model) {known : Model} (xs : List Seen) {r : Model} {end : Spot} → mention text m ≡ Some known → Reads (bound_name text known) xs end r →
    reading_from (bounds m) (token s (name text) ∷ xs) end ≡ Ok r
unfolding reading_from
named_bound s text m xs e h = mentioned s text m (λ known. bound_name text known) xs e h

freed_read : (s : Spot) (text : List ℕ) (m : Model) (xs : List Seen) {r : Model} {end : Spot} → Reads (bounds (change_var text freed m)) xs end r →
    Reads (bound_name text m) (token s (keyword Free) ∷ xs) end r
unfolding reading_from
freed_read s text m xs h = record { ends = h.ends }

compared_read : (s : Spot) (sense : Sense) (text : List ℕ) (m : Model) (xs : List Seen) {r : Model} {end : Spot} → Reads (bound_side sense text m) xs end r →
    Reads (bound_name text m) (token s (comparison sense) ∷ xs) end r
unfolding reading_from
compared_read s sense text m xs h = record { ends = h.ends }

bound_read : {xs ys : List Seen} {m told r : Model} {end : Spot} → Bound xs m ys told → Reads (bounds told) ys end r → Reads (bounds m) xs end r
bound_read {m} (free {spot} {free_spot} {text} {xs} {known} e) h = record { ends = named_bound spot text m _ e (freed_read free_spot text known xs h) }
bound_read {m} (right {spot} {sense_spot} {text} {sense} {xs} {known} e w) h = record { ends = named_bound spot text m _ e (compared_read sense_spot sense text known xs (right_read w h)) }
bound_read {ys} {told} (left {sense} {text} w) h = left_end w (record { ends = end_alone sense text told ys h })
bound_read (both {spot} {text} {ys} {between} rising w v) h = left_end w (record { ends = end_again spot text between ys rising (right_read v h) })

bound_list_read : {xs ys : List Seen} {m told r : Model} {end : Spot} → BoundList xs m ys told → Reads (bounds told) ys end r → Reads (bounds m) xs end r
bound_list_read none h = h
bound_list_read (more b rest) h = bound_read b (bound_list_read rest h)

name_read : (s : Spot) (text : List ℕ) (kind : VarKind) (m : Model) {known : Model} (xs : List Seen) {r : Model} {end : Spot} → mention text m ≡ Some known →
    Reads (kinds kind (change_var text (with_kind kind) known)) xs end r → Reads (kinds kind m) (token s (name text) ∷ xs) end r
unfolding reading_from
name_read s text kind m xs e h = record { ends = mentioned s text m (λ known. kinds kind (change_var text (with_kind kind) known)) xs e h }

names_read : {kind : VarKind} {xs ys : List Seen} {m told r : Model} {end : Spot} → NameList kind xs m ys told → Reads (kinds kind told) ys end r → Reads (kinds kind m) xs end r
names_read none h = h
names_read {kind} {m} (more {spot} {text} {xs} e rest) h = name_read spot text kind m xs e (names_read rest h)

-- Behind rows, bounds and names alike a section or `end` may follow.
pub data IsBetween : Stage → Model → Type 0 where
  rows_begin : {m : Model} → IsBetween (rows_start m) m
  rows_end : {m : Model} → IsBetween (rows_next m) m
  bounds_end : {m : Model} → IsBetween (bounds m) m
  kinds_end : {m : Model} {kind : VarKind} → IsBetween (kinds kind m) m

section_read : {stage : Stage} {xs ys : List Seen} {m told r : Model} {end : Spot} → IsBetween stage m → SpellsSection xs m ys told →
    ((next : Stage) → IsBetween next told → Reads next ys end r) → reading_from stage xs end ≡ Ok r
unfolding reading_from
section_read rows_begin (bounds_section list) h = (bound_list_read list (h _ bounds_end)).ends
section_read rows_end (bounds_section list) h = (bound_list_read list (h _ bounds_end)).ends
section_read bounds_end (bounds_section list) h = (bound_list_read list (h _ bounds_end)).ends
section_read kinds_end (bounds_section list) h = (bound_list_read list (h _ bounds_end)).ends
section_read rows_begin (general list) h = (names_read list (h _ kinds_end)).ends
section_read rows_end (general list) h = (names_read list (h _ kinds_end)).ends
section_read bounds_end (general list) h = (names_read list (h _ kinds_end)).ends
section_read kinds_end (general list) h = (names_read list (h _ kinds_end)).ends
section_read rows_begin (binary list) h = (names_read list (h _ kinds_end)).ends
section_read rows_end (binary list) h = (names_read list (h _ kinds_end)).ends
section_read bounds_end (binary list) h = (names_read list (h _ kinds_end)).ends
section_read kinds_end (binary list) h = (names_read list (h _ kinds_end)).ends

end_read : {stage : Stage} (s : Spot) (m : Model) (end : Spot) → IsBetween stage m → reading_from stage (token s (keyword End) ∷ []) end ≡ Ok m
unfolding reading_from
end_read s m end rows_begin = refl
end_read s m end rows_end = refl
end_read s m end bounds_end = refl
end_read s m end kinds_end = refl

sections_read : {xs ys : List Seen} {m told r : Model} {end : Spot} → Sections xs m ys told → ((next : Stage) → IsBetween next told → Reads next ys end r) →
    (stage : Stage) → IsBetween stage m → Reads stage xs end r
sections_read none h = h
sections_read (more section rest) h = λ stage at. record { ends = section_read at section (sections_read rest h) }

rows_next_read : {xs ys : List Seen} {m told r : Model} {end : Spot} → MoreRows xs m ys told → Reads (rows_next told) ys end r → Reads (rows_next m) xs end r
rows_next_read none h = h
rows_next_read (more c row rest) h = row_next_read row c (rows_next_read rest h)

whole_read : {xs : List Seen} {m told : Model} {s : Spot} (stage : Stage) (end : Spot) → IsBetween stage m → Sections xs m (token s (keyword End) ∷ []) told → Reads stage xs end told
whole_read {told} {s} stage end at sections = sections_read sections (λ next there. record { ends = end_read s told end there }) stage at

rest_read : {xs : List Seen} {m told with_rows : Model} {ys : List Seen} {s : Spot} (end : Spot) → Rows xs m ys with_rows → Sections ys with_rows (token s (keyword End) ∷ []) told → Reads (rows_start m) xs end told
rest_read end nothing sections = whole_read _ end rows_begin sections
rest_read end (first row rows) sections = row_start_read row (rows_next_read rows (whole_read _ end rows_end sections))

word_read : {xs ys : List Seen} {direction : Direction} {r : Model} {end : Spot} → ObjectiveWord xs direction ys → Reads (objective_start (blank direction)) ys end r → Reads start xs end r
unfolding reading_from
word_read minimize h = record { ends = h.ends }
word_read maximize h = record { ends = h.ends }

-- A model that is spelled is read.
pub spelled_is_read : {xs : List Seen} {m : Model} (end : Spot) → SpellsModel xs m → reading_from start xs end ≡ Ok m
spelled_is_read end w = (word_read w.word (objective_read w.objective w.constraints (rest_read end w.rest.rows w.rest.sections))).ends
