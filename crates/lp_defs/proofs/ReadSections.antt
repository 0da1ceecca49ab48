-- What is read is spelled so: sections.
use Rattle.std.proofs.Common.{◌≡◌, refl, sym, subst, ℕ, Bool, false, IsTrue, ◌∷◌, List, Some, Ok, Err, if◌then◌else◌}
use Rattle.base_names.specs.declared.refusal.FaultWord.TheVariants.{Number as bad_number, Size}
use Rattle.frac128.specs.Checked.{◌>>=◌}
use Rattle.model_data.specs.declared.model.Model.{Model}
use Rattle.model_data.specs.declared.model.Sense.{Sense}
use Rattle.model_data.specs.declared.model.Sense.TheVariants.{Less, Greater, Equal}
use Rattle.model_data.specs.declared.model.VarKind.{VarKind}
use Rattle.lp_defs.specs.declared.token.SectionWord.TheVariants.{Free}
use Rattle.lp_defs.specs.Draft.{change_var, freed, mention, with_kind}
use Rattle.lp_defs.specs.Grammar.{OptionalSign, unsigned, signed, LimitAmount, IsRising, upward, downward, LeftBound, free, right, left, both, none, more}
use Rattle.lp_defs.specs.Quantity.{Limit, limit_of, may_bound, turned, under_sign, with_bound}
use Rattle.lp_defs.specs.Reading.{reading_from}
use Rattle.lp_defs.specs.Sections.{after_bound, after_bound_end, after_bound_middle, after_bound_name, after_bound_number, after_bound_side, after_bound_side_sign, after_bound_sign, after_kind, first_limit, last_limit}
use Rattle.lp_defs.specs.Stage.{Stage, bounds, bound_end, bound_middle, bound_name, bound_number, bound_side, bound_side_sign, bound_sign, kinds}
use Rattle.lp_defs.specs.Symbols.{Quantity, Seen, Spot, Symbol, token, sign, comparison, number, keyword, name, fault_at, or_fault}
use Rattle.lp_defs.proofs.Parts.{chosen, goes_on, passes, some_of}
use Rattle.lp_defs.proofs.ReadRows.{sections_start}
use Rattle.lp_defs.proofs.Rest.{FromBound, FromBounds, FromNames, FromRight, Known}

amount : {ws xs : List Seen} {negative : Bool} (s : Spot) (has_sign : Bool) (written : Quantity) {limit : Limit} →
    OptionalSign ws negative (token s (number has_sign written) ∷ xs) → limit_of (under_sign negative written) ≡ Some limit → LimitAmount ws limit xs
amount {negative} s has_sign written o e = record {
  quantity = under_sign negative written;
  amount = record { negative = negative; spot = s; has_sign = has_sign; written = written; tokens = o; value = refl };
  value = e;
}

-- the step of a bound's first number
limited_first : (s : Spot) (negative has_sign : Bool) (written : Quantity) (m : Model) {ws xs : List Seen} {end : Spot} {r : Model} → Known xs end r →
    OptionalSign ws negative (token s (number has_sign written) ∷ xs) → goes_on (first_limit negative s written m) xs end ≡ Ok r → FromBound m ws r
limited_first s negative has_sign written m {ws} {xs} {end} {r} k o h =
    let p = passes (first_limit negative s written m) (λ next. reading_from next xs end) r h in
    let q = passes (or_fault s bad_number (limit_of (under_sign negative written))) (λ limit. Ok (bound_number s limit m)) p.value p.value_is in
    let same : bound_number s q.value m ≡ p.value = (let g = q.rest in cc) in
    k.of (bound_number s q.value m) (subst (λ stage. reading_from stage xs end ≡ Ok r) (sym same) p.rest) ws
    (amount s has_sign written o (some_of s bad_number _ q.value_is))

-- the step of a bound's last number
limited_last : (s : Spot) (negative has_sign : Bool) (written : Quantity) (sense : Sense) (text : List ℕ) (m : Model) {ws xs : List Seen} {end : Spot} {r : Model} → Known xs end r →
    OptionalSign ws negative (token s (number has_sign written) ∷ xs) → goes_on (last_limit negative sense text s written m) xs end ≡ Ok r → FromRight sense text m ws r
limited_last s negative has_sign written sense text m {ws} {xs} {end} {r} k o h =
    let p = passes (last_limit negative sense text s written m) (λ next. reading_from next xs end) r h in
    let set : Limit → Stage = λ limit. bounds (change_var text (with_bound sense limit) m) in
    let q = passes (or_fault s bad_number (limit_of (under_sign negative written)))
    (λ limit. if may_bound sense limit then Ok (set limit) else Err (fault_at s bad_number)) p.value p.value_is in
    let c = chosen (may_bound sense q.value) (set q.value) p.value (fault_at s bad_number) q.rest in
    record {
      behind = xs;
      told = change_var text (with_bound sense q.value) m;
      part = record { limit = q.value; has_limit = amount s has_sign written o (some_of s bad_number _ q.value_is); fits = c.holds; told_is = refl };
      rest = k.of (set q.value) (subst (λ stage. reading_from stage xs end ≡ Ok r) (sym c.value_is) p.rest);
    }

bound_first : {xs : List Seen} {m r : Model} → FromBound m xs r → FromBounds m xs r
bound_first b = record { behind = b.rest.behind; told = b.rest.told; list = more b.bound b.rest.list; rest = b.rest.rest }

-- a step that mentions a variable
record Mentioned (text : List ℕ) (m : Model) (f : Model → Stage) (xs : List Seen) (end : Spot) (r : Model) : Type 0 where
  pub known : Model
  pub known_is : mention text m ≡ Some known
  pub rest : reading_from (f known) xs end ≡ Ok r

mentioned : (s : Spot) (text : List ℕ) (m : Model) (f : Model → Stage) (xs : List Seen) (end : Spot) (r : Model) →
    goes_on (or_fault s Size (mention text m) >>= λ known. Ok (f known)) xs end ≡ Ok r → Mentioned text m f xs end r
mentioned s text m f xs end r h =
    let p = passes (or_fault s Size (mention text m) >>= λ known. Ok (f known)) (λ next. reading_from next xs end) r h in
    let q = passes (or_fault s Size (mention text m)) (λ known. Ok (f known)) p.value p.value_is in
    let same : f q.value ≡ p.value = (let g = q.rest in cc) in
    record { known = q.value; known_is = some_of s Size _ q.value_is; rest = subst (λ stage. reading_from stage xs end ≡ Ok r) (sym same) p.rest }

pub bound_list : (s : Spot) (symbol : Symbol) (m : Model) (xs : List Seen) {end : Spot} {r : Model} → Known xs end r →
    goes_on (after_bound s symbol m) xs end ≡ Ok r → FromBounds m (token s symbol ∷ xs) r
bound_list s (name text) m xs {end} {r} k h =
    let n = mentioned s text m (λ known. bound_name text known) xs end r h in
    bound_first (k.of (bound_name text n.known) n.rest s m n.known_is)
bound_list s (sign negative) m xs k h = bound_first (k.of (bound_sign negative m) h s)
bound_list s (number has_sign written) m xs k h = bound_first (limited_first s false has_sign written m k unsigned h)
bound_list s (keyword word) m xs k h = record { behind = _; told = m; list = none; rest = sections_start s word m xs k h }
bound_list s symbol m xs k h = absurd cc

pub named : (text : List ℕ) (s : Spot) (symbol : Symbol) (known : Model) (xs : List Seen) {end : Spot} {r : Model} → Known xs end r →
    goes_on (after_bound_name text s symbol known) xs end ≡ Ok r → (t : Spot) (m : Model) → mention text m ≡ Some known → FromBound m (token t (name text) ∷ token s symbol ∷ xs) r
named text s (keyword Free) known xs k h t m e = record { behind = xs; told = change_var text freed known; bound = free e; rest = k.of (bounds (change_var text freed known)) h }
named text s (keyword word) known xs k h t m e = absurd cc
named text s (comparison sense) known xs {r} k h t m e =
    let n : FromRight sense text known xs r = k.of (bound_side sense text known) h in
    record { behind = n.behind; told = n.told; bound = right e n.part; rest = n.rest }
named text s symbol known xs k h t m e = absurd cc

pub side : (sense : Sense) (text : List ℕ) (s : Spot) (symbol : Symbol) (m : Model) (xs : List Seen) {end : Spot} {r : Model} → Known xs end r →
    goes_on (after_bound_side sense text s symbol m) xs end ≡ Ok r → FromRight sense text m (token s symbol ∷ xs) r
side sense text s (sign negative) m xs k h = k.of (bound_side_sign negative sense text m) h s
side sense text s (number has_sign written) m xs k h = limited_last s false has_sign written sense text m k unsigned h
side sense text s symbol m xs k h = absurd cc

pub side_sign : (negative : Bool) (sense : Sense) (text : List ℕ) (s : Spot) (symbol : Symbol) (m : Model) (xs : List Seen) {end : Spot} {r : Model} → Known xs end r →
    goes_on (after_bound_side_sign negative sense text s symbol m) xs end ≡ Ok r → (t : Spot) → FromRight sense text m (token t (sign negative) ∷ token s symbol ∷ xs) r
side_sign negative sense text s (number has_sign written) m xs k h t = limited_last s negative has_sign written sense text m k signed h
side_sign negative sense text s symbol m xs k h t = absurd cc

pub first_sign : (negative : Bool) (s : Spot) (symbol : Symbol) (m : Model) (xs : List Seen) {end : Spot} {r : Model} → Known xs end r →
    goes_on (after_bound_sign negative s symbol m) xs end ≡ Ok r → (t : Spot) → FromBound m (token t (sign negative) ∷ token s symbol ∷ xs) r
first_sign negative s (number has_sign written) m xs k h t = limited_first s negative has_sign written m k signed h
first_sign negative s symbol m xs k h t = absurd cc

pub behind_number : (number_spot : Spot) (limit : Limit) (s : Spot) (symbol : Symbol) (m : Model) (xs : List Seen) {end : Spot} {r : Model} → Known xs end r →
    goes_on (after_bound_number number_spot limit s symbol m) xs end ≡ Ok r → (ws : List Seen) → LimitAmount ws limit (token s symbol ∷ xs) → FromBound m ws r
behind_number number_spot limit s (comparison sense) m xs {end} {r} k h ws a =
    let p = passes (after_bound_number number_spot limit s (comparison sense) m) (λ next. reading_from next xs end) r h in
    let c = chosen (may_bound (turned sense) limit) (bound_middle limit sense m) p.value (fault_at number_spot bad_number) p.value_is in
    k.of (bound_middle limit sense m) (subst (λ stage. reading_from stage xs end ≡ Ok r) (sym c.value_is) p.rest) ws s a c.holds
behind_number number_spot limit s symbol m xs k h ws a = absurd cc

pub middle : (limit : Limit) (sense : Sense) (s : Spot) (symbol : Symbol) (m : Model) (xs : List Seen) {end : Spot} {r : Model} → Known xs end r →
    goes_on (after_bound_middle limit sense s symbol m) xs end ≡ Ok r →
    (ws : List Seen) (t : Spot) → LimitAmount ws limit (token t (comparison sense) ∷ token s symbol ∷ xs) → IsTrue (may_bound (turned sense) limit) → FromBound m ws r
middle limit sense s (name text) m xs {end} {r} k h ws t a f =
    let set : Model → Model = change_var text (with_bound (turned sense) limit) in
    let n = mentioned s text m (λ known. bound_end sense text (set known)) xs end r h in
    k.of (bound_end sense text (set n.known)) n.rest ws m
    (record { limit = limit; sense_spot = t; name_spot = s; has_limit = a; fits = f; known = n.known; known_is = n.known_is; told_is = refl })
middle limit sense s symbol m xs k h ws t a f = absurd cc

-- a left part alone
alone : (sense : Sense) (text : List ℕ) {told m : Model} {ws xs : List Seen} {r : Model} → LeftBound ws m sense text xs told → FromBounds told xs r → FromBound m ws r
alone sense text w h = record { behind = _; told = _; bound = left w; rest = h }

-- both parts
again : (sense : Sense) (text : List ℕ) (s : Spot) {told m : Model} {ws xs : List Seen} {r : Model} → IsRising sense → LeftBound ws m sense text (token s (comparison sense) ∷ xs) told →
    FromRight sense text told xs r → FromBound m ws r
again sense text s rising w n = record { behind = n.behind; told = n.told; bound = both rising w n.part; rest = n.rest }

pub ends : (sense : Sense) (text : List ℕ) (s : Spot) (symbol : Symbol) (told : Model) (xs : List Seen) {end : Spot} {r : Model} → Known xs end r →
    goes_on (after_bound_end sense text s symbol told) xs end ≡ Ok r → (ws : List Seen) (m : Model) → LeftBound ws m sense text (token s symbol ∷ xs) told → FromBound m ws r
ends Less text s (comparison Less) told xs k h ws m w = again Less text s upward w (k.of (bound_side Less text told) h)
ends Less text s (comparison sense) told xs k h ws m w = absurd cc
ends Greater text s (comparison Greater) told xs k h ws m w = again Greater text s downward w (k.of (bound_side Greater text told) h)
ends Greater text s (comparison sense) told xs k h ws m w = absurd cc
ends Equal text s (comparison sense) told xs k h ws m w = absurd cc
ends Less text s symbol told xs k h ws m w = alone Less text w (bound_list s symbol told xs k h)
ends Greater text s symbol told xs k h ws m w = alone Greater text w (bound_list s symbol told xs k h)
ends Equal text s symbol told xs k h ws m w = alone Equal text w (bound_list s symbol told xs k h)

pub names : (kind : VarKind) (s : Spot) (symbol : Symbol) (m : Model) (xs : List Seen) {end : Spot} {r : Model} → Known xs end r →
    goes_on (after_kind kind s symbol m) xs end ≡ Ok r → FromNames kind m (token s symbol ∷ xs) r
names kind s (name text) m xs {end} {r} k h =
    let set : Model → Model = change_var text (with_kind kind) in
    let n = mentioned s text m (λ known. kinds kind (set known)) xs end r h in
    let f : FromNames kind (set n.known) xs r = k.of (kinds kind (set n.known)) n.rest in
    record { behind = f.behind; told = f.told; list = more n.known_is f.list; rest = f.rest }
names kind s (keyword word) m xs k h = record { behind = _; told = m; list = none; rest = sections_start s word m xs k h }
names kind s symbol m xs k h = absurd cc
