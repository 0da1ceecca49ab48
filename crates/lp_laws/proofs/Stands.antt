-- Where a fault stands, by what can be gone on with.
use Rattle.std.proofs.Common.{◌≡◌, refl, sym, ◌∙◌, ap, subst, inl, inr, Bool, List, [], ◌∷◌, ◌++◌, append_assoc, append-nil, Some, None, Result, Ok, Err}
use Rattle.base_names.specs.declared.refusal.FaultWord.{FaultWord}
use Rattle.frac128.specs.Checked.{◌>>=◌}
use Rattle.frac128.specs.Fraction.{Fraction}
use Rattle.model_data.specs.declared.model.Model.{Model}
use Rattle.lp_defs.specs.declared.fault.ModelFault.{ModelFault}
use Rattle.lp_defs.specs.Draft.{Unfinished, with_constant}
use Rattle.lp_defs.specs.Objective.{add_to_objective, numbered_name}
use Rattle.lp_defs.specs.Reading.{after, reading_from, reading_of, stage_behind}
use Rattle.lp_defs.specs.Rows.{add_to_row}
use Rattle.lp_defs.specs.Stage.{Stage, start, objective_next, objective_number, row_next, row_number}
use Rattle.lp_defs.specs.Symbols.{Seen, Spot, Symbol, finite, token, no_token, comparison, name, number, fault_at}
use Rattle.lp_defs.proofs.Agreement.{never_both, reading_behind}
use Rattle.lp_defs.proofs.SoundTokens.{AreSound}
use Rattle.lp_laws.specs.Faults.{IsFault}
use Rattle.lp_laws.specs.Faults as faults
use Rattle.lp_laws.specs.Places.{IsPlaced, IsBeginning, IsDeadEnd, MayGoOn, but_for_number, goes_on, at_token, at_decided, at_last, at_run, at_end}
use Rattle.lp_laws.proofs.Beginnings.{beginning, dead_end, one_more}
use Rattle.lp_laws.proofs.Blame.{Blamed, at_once, by_next}
use Rattle.lp_laws.proofs.Chain.{Chain, begun, longer, here_of}
use Rattle.lp_laws.proofs.Closing.{Closes, nowhere_is, objective_number_closes}
use Rattle.lp_laws.proofs.Decide.{IsNumbered, in_objective, in_row, chain_of, closes_or_number, finite_last, sound_at, led, wrong_blamed}
use Rattle.lp_laws.proofs.Replacing.{replaced}
use Rattle.lp_laws.proofs.Waits.{IsFinite, is_finite, Waits, blamed, next_decides, pending, some_by, waits_with}

-- another number in the place of the last token
but_for : {front : List Seen} {prior stage : Stage} (s : Spot) (symbol : Symbol) (rest : List Seen) → Chain front (token s symbol ∷ rest) prior → after prior s symbol ≡ Ok stage → IsFinite symbol →
    MayGoOn (front ++ token s symbol ∷ [])
but_for {front} {prior} {stage} s _ rest c e (is_finite {has_sign} {x}) =
    let h = here_of c in
    let r = replaced prior s has_sign (finite x) stage h.lasting e in
    but_for_number front s has_sign x r.other refl
    (beginning (front ++ token s (number has_sign r.other) ∷ []) r.next (one_more front prior (token s (number has_sign r.other)) (Ok r.next) h.at r.is) r.closes)

numbered_last : {front rest : List Seen} {stage : Stage} → Chain front rest stage → IsNumbered stage → MayGoOn front
numbered_last (begun h) n = absurd (elim n [ ])
numbered_last (longer {s} {symbol} {rest} c e last h) n = but_for s symbol rest c e (finite_last s symbol n last)

may_go_on : {front rest : List Seen} {stage : Stage} → Chain front rest stage → MayGoOn front
may_go_on {front} {rest} {stage} c =
    let h = here_of c in
    elim (closes_or_number stage rest h.lasting h.quiet) [ inl closed ↦ goes_on (beginning front stage h.at closed) | inr numbered ↦ numbered_last c numbered ]

-- a step to a stage that waits for nothing
idle_step : {A : Type 0} (more : List Seen) {w : FaultWord} (o : Result A ModelFault) (g : A → Stage) (next : Stage) → ((a : A) → pending (g a) more ≡ None) → (o >>= λ a. Ok (g a)) ≡ Ok next → pending next more ≡ Some w → ⊥
idle_step more {w = w} (Ok a) g next idle e waits =
    let is : g a ≡ next = cc in
    let both : None ≡ Some w = sym (idle a) ∙ (ap (λ st. pending st more) is ∙ waits) in absurd cc
idle_step more (Err f) g next idle e waits = absurd cc

constant_fits : (t : Spot) (x : Fraction) (s : Spot) (symbol : Symbol) (m : Model) (more : List Seen) (next : Stage) (w : FaultWord) → after (objective_number t x m) s symbol ≡ Ok next → pending next more ≡ Some w →
    pending (objective_number t x m) (token s symbol ∷ more) ≡ None → Closes (objective_number t x m)
constant_fits t x s (name text) m more next w e waits quiet = absurd (idle_step more (add_to_objective (numbered_name t x s text) m) (λ told. objective_next told) next (λ _. refl) e waits)
constant_fits t x s symbol m more next w e waits quiet = let p = some_by (with_constant x m) quiet in objective_number_closes t x m p.0 p.1

no_coefficient : (head : Bool) (t : Spot) (x : Fraction) (s : Spot) (symbol : Symbol) (u : Unfinished) (more : List Seen) (next : Stage) (w : FaultWord) → after (row_number head t x u) s symbol ≡ Ok next →
    pending next more ≡ Some w → ⊥
no_coefficient head t x s (name text) u more next w e waits = idle_step more (add_to_row (numbered_name t x s text) u) (λ told. row_next told) next (λ _. refl) e waits
no_coefficient head t x s (comparison sense) u more next w e waits = absurd cc
no_coefficient head t x s symbol u more next w e waits = absurd cc

numbered_closes : (stage : Stage) (s : Spot) (symbol : Symbol) (more : List Seen) (next : Stage) (w : FaultWord) → IsNumbered stage → after stage s symbol ≡ Ok next → pending next more ≡ Some w →
    pending stage (token s symbol ∷ more) ≡ None → Closes stage
numbered_closes _ s symbol more next w (in_objective {t} {x} {m}) e waits quiet = constant_fits t x s symbol m more next w e waits quiet
numbered_closes _ s symbol more next w (in_row {head} {t} {x} {u}) e waits quiet = absurd (no_coefficient head t x s symbol u more next w e waits)

-- The tokens before one that waits can be gone on with.
before_waiting : {front : List Seen} {stage : Stage} (s : Spot) (symbol : Symbol) (more : List Seen) (next : Stage) (w : FaultWord) → Chain front (token s symbol ∷ more) stage → after stage s symbol ≡ Ok next →
    pending next more ≡ Some w → IsBeginning front
before_waiting {front} {stage} s symbol more next w c e waits =
    let h = here_of c in
    beginning front stage h.at
    (elim (closes_or_number stage (token s symbol ∷ more) h.lasting h.quiet) [ inl closed ↦ closed | inr numbered ↦ numbered_closes stage s symbol more next w numbered e waits h.quiet ])

-- Nothing that begins with what waits and with what decides it spells a model.
decided_dead : (front : List Seen) (s : Spot) (symbol : Symbol) (x : Seen) (more : List Seen) (next : Stage) (w : FaultWord) → stage_behind start (front ++ token s symbol ∷ []) ≡ Ok next → Waits next s symbol →
    pending next (x ∷ more) ≡ Some w → IsDeadEnd (front ++ token s symbol ∷ x ∷ [])
decided_dead front s symbol x more next w at last waits ys m spelled =
    let t = token s symbol in
    let is : (front ++ t ∷ []) ++ x ∷ ys ≡ (front ++ t ∷ x ∷ []) ++ ys = append_assoc front (t ∷ []) (x ∷ ys) ∙ sym (append_assoc front (t ∷ x ∷ []) ys) in
    never_both ((front ++ t ∷ x ∷ []) ++ ys) nowhere_is m (fault_at s w) spelled
    (subst (λ xs. reading_of xs nowhere_is ≡ Err (fault_at s w)) is
    (reading_behind (front ++ t ∷ []) (x ∷ ys) start nowhere_is
    ∙ (ap (λ o. o >>= λ next. reading_from next (x ∷ ys) nowhere_is) at ∙ blamed next (x ∷ ys) s symbol w nowhere_is last (next_decides next x ys more ∙ waits))))

decided : (front : List Seen) (s : Spot) (symbol : Symbol) (more : List Seen) (next : Stage) (w : FaultWord) (end : Spot) → IsBeginning front → stage_behind start (front ++ token s symbol ∷ []) ≡ Ok next → Waits next s symbol →
    pending next more ≡ Some w → IsPlaced (front ++ token s symbol ∷ more) end (fault_at s w)
decided front s symbol [] next w end before at last waits = at_last front s symbol refl (waits_with next [] s symbol w last waits) before
decided front s symbol (x ∷ more) next w end before at last waits =
    at_decided front more s symbol x refl (waits_with next (x ∷ more) s symbol w last waits) before (decided_dead front s symbol x more next w at last waits)

at_first : (front : List Seen) (stage : Stage) (s : Spot) (symbol : Symbol) (more : List Seen) (w : FaultWord) (end : Spot) → Chain front (token s symbol ∷ more) stage → AreSound (front ++ token s symbol ∷ more) →
    Blamed stage s symbol more w → IsPlaced (front ++ token s symbol ∷ more) end (fault_at s w)
at_first front stage s symbol more w end c k (at_once e) =
    at_token front more s symbol refl (may_go_on c) (dead_end (front ++ token s symbol ∷ []) (fault_at s w) (one_more front stage (token s symbol) (Err (fault_at s w)) (here_of c).at e))
at_first front stage s symbol more w end c k (by_next next e waits) =
    let l = led s symbol more next c (sound_at front s symbol more k) e in
    decided front s symbol more next w end (before_waiting s symbol more next w c e waits) l.at l.going.last waits

pub stands : (xs : List Seen) (end : Spot) (f : ModelFault) → AreSound xs → IsFault xs end f → IsPlaced xs end f
stands xs end _ k (faults.at_token front more {spot} {symbol} {word} e nothing wrong) =
    let kept = subst AreSound e k in
    let c = chain_of front (token spot symbol ∷ more) nothing kept in
    subst (λ xs. IsPlaced xs end (fault_at spot word)) (sym e)
    (at_first front c.0 spot symbol more word end c.1 kept (wrong_blamed spot symbol more c.1 (sound_at front spot symbol more kept) wrong))
stands xs end f k (faults.at_run front more e nothing) =
    let c = chain_of front (no_token f ∷ more) nothing (subst AreSound e k) in at_run front more e (may_go_on c.1)
stands xs end _ k (faults.at_end nothing unspelled) =
    let c = chain_of xs [] nothing (subst AreSound (sym (append-nil xs)) k) in at_end (may_go_on c.1)
