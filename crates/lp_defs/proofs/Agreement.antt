-- The reading and the productions agree: the tokens that a reading gives a model for are those that spell it.
use Rattle.std.proofs.Common.{◌≡◌, refl, sym, ◌∙◌, ap, ◌↔◌, ◌⊎◌, inl, inr, ◌++◌, ◌∷◌, [], List, Result, Ok, Err}
use Rattle.frac128.specs.Checked.{◌>>=◌}
use Rattle.model_data.specs.declared.model.Model.{Model}
use Rattle.lp_defs.specs.declared.fault.ModelFault.{ModelFault}
use Rattle.lp_defs.specs.Grammar.{SpellsModel}
use Rattle.lp_defs.specs.Reading.{after, after_seen, reading_from, reading_of, stage_behind}
use Rattle.lp_defs.specs.Stage.{Stage, start, objective_start, objective_title, objective_first, objective_sign, objective_number, objective_next, second_word, rows_start, rows_next, row_title, row_first, row_sign, row_number, row_next, row_side, row_side_sign, bounds, bound_name, bound_side, bound_side_sign, bound_sign, bound_number, bound_middle, bound_end, kinds, ended}
use Rattle.lp_defs.specs.Symbols.{Seen, Spot, Symbol, token, no_token}
use Rattle.lp_defs.proofs.ReadObjective as objective
use Rattle.lp_defs.proofs.ReadRows as rows
use Rattle.lp_defs.proofs.ReadSections as sections
use Rattle.lp_defs.proofs.Parts.{goes_on}
use Rattle.lp_defs.proofs.Rest.{Known, Rest}
use Rattle.lp_defs.proofs.SpelledSections.{spelled_is_read}

behind_step : (o : Result Stage ModelFault) (xs ys : List Seen) (end : Spot) →
    ((next : Stage) → reading_from next (xs ++ ys) end ≡ (stage_behind next xs >>= λ last. reading_from last ys end)) →
    (o >>= λ next. reading_from next (xs ++ ys) end) ≡ ((o >>= λ next. stage_behind next xs) >>= λ last. reading_from last ys end)
behind_step (Ok next) xs ys end h = h next
behind_step (Err fault) xs ys end h = refl

at_end : (stage : Stage) (end : Spot) (r : Model) → reading_from stage [] end ≡ Ok r → Rest stage [] r
unfolding reading_from
at_end (ended m) end r h = (refl, cc)
at_end stage end r h = absurd cc

behind_token : (stage : Stage) (s : Spot) (symbol : Symbol) (xs : List Seen) {end : Spot} {r : Model} → Known xs end r →
    goes_on (after stage s symbol) xs end ≡ Ok r → Rest stage (token s symbol ∷ xs) r
behind_token start s symbol xs k h = objective.started s symbol xs k h
behind_token (objective_start m) s symbol xs k h = objective.begin s symbol m xs k h
behind_token (objective_title t text m) s symbol xs k h = objective.titled t text s symbol m xs k h
behind_token (objective_first m) s symbol xs k h = objective.head s symbol m xs k h
behind_token (objective_sign negative m) s symbol xs k h = objective.behind_sign negative s symbol m xs k h
behind_token (objective_number t x m) s symbol xs k h = objective.behind_number t x s symbol m xs k h
behind_token (objective_next m) s symbol xs k h = objective.next s symbol m xs k h
behind_token (second_word wanted m) s symbol xs k h = objective.second wanted s symbol m xs k h
behind_token (rows_start m) s symbol xs k h = rows.rows_begin s symbol m xs k h
behind_token (rows_next m) s symbol xs k h = rows.rows s symbol m xs k h
behind_token (row_title t text m) s symbol xs k h = rows.titled t text s symbol m xs k h
behind_token (row_first u) s symbol xs k h = rows.head s symbol u xs k h
behind_token (row_sign head negative u) s symbol xs k h = rows.behind_sign head negative s symbol u xs k h
behind_token (row_number head t x u) s symbol xs k h = rows.behind_number head t x s symbol u xs k h
behind_token (row_next u) s symbol xs k h = rows.next s symbol u xs k h
behind_token (row_side sense u) s symbol xs k h = rows.side sense s symbol u xs k h
behind_token (row_side_sign negative sense u) s symbol xs k h = rows.side_sign negative sense s symbol u xs k h
behind_token (bounds m) s symbol xs k h = sections.bound_list s symbol m xs k h
behind_token (bound_name text m) s symbol xs k h = sections.named text s symbol m xs k h
behind_token (bound_side sense text m) s symbol xs k h = sections.side sense text s symbol m xs k h
behind_token (bound_side_sign negative sense text m) s symbol xs k h = sections.side_sign negative sense text s symbol m xs k h
behind_token (bound_sign negative m) s symbol xs k h = sections.first_sign negative s symbol m xs k h
behind_token (bound_number t limit m) s symbol xs k h = sections.behind_number t limit s symbol m xs k h
behind_token (bound_middle limit sense m) s symbol xs k h = sections.middle limit sense s symbol m xs k h
behind_token (bound_end sense text m) s symbol xs k h = sections.ends sense text s symbol m xs k h
behind_token (kinds kind m) s symbol xs k h = sections.names kind s symbol m xs k h
behind_token (ended m) s symbol xs k h = absurd cc

-- What is read from a stage on is spelled so.
read_is_spelled : (xs : List Seen) (end : Spot) (r : Model) (stage : Stage) → reading_from stage xs end ≡ Ok r → Rest stage xs r
unfolding reading_from
read_is_spelled [] end r stage h = at_end stage end r h
read_is_spelled (no_token fault ∷ xs) end r stage h = absurd cc
read_is_spelled (token s symbol ∷ xs) end r stage h = behind_token stage s symbol xs (record { of = read_is_spelled xs end r }) h

-- A text is read as the model that it spells, and as no other.
pub agreement : (xs : List Seen) (end : Spot) (m : Model) → (reading_of xs end ≡ Ok m) ↔ SpellsModel xs m
agreement xs end m = (read_is_spelled xs end m start, spelled_is_read end)

-- A text has a model or a fault.
pub one_or_other : (o : Result Model ModelFault) → ((m : Model) × o ≡ Ok m) ⊎ ((fault : ModelFault) × o ≡ Err fault)
one_or_other (Ok m) = inl (m, refl)
one_or_other (Err fault) = inr (fault, refl)

pub reading_behind : (xs ys : List Seen) (stage : Stage) (end : Spot) → reading_from stage (xs ++ ys) end ≡ (stage_behind stage xs >>= λ next. reading_from next ys end)
unfolding reading_from stage_behind
reading_behind [] ys stage end = refl
reading_behind (seen ∷ xs) ys stage end = behind_step (after_seen stage seen) xs ys end (λ next. reading_behind xs ys next end)

-- the one of the two that a text is
pub either : (xs : List Seen) (end : Spot) → ((m : Model) × SpellsModel xs m) ⊎ ((fault : ModelFault) × reading_of xs end ≡ Err fault)
either xs end = elim (one_or_other (reading_of xs end)) [ inl p ↦ inl (p.0, read_is_spelled xs end p.0 start p.1) | inr p ↦ inr p ]

pub one_model : (xs : List Seen) (m n : Model) → SpellsModel xs m → SpellsModel xs n → m ≡ n
one_model xs m n s t =
    let nowhere : Spot = record { line = 0; column = 0 } in
    let same : Ok m ≡ Ok n = sym (spelled_is_read nowhere s) ∙ spelled_is_read nowhere t in
    cc

pub never_both : (xs : List Seen) (end : Spot) (m : Model) (f : ModelFault) → SpellsModel xs m → reading_of xs end ≡ Err f → ⊥
never_both xs end m f s h =
    let same : Ok m ≡ Err f = sym (spelled_is_read end s) ∙ h in
    cc

pub stop_is_final : (xs ys : List Seen) (end : Spot) (f : ModelFault) → stage_behind start xs ≡ Err f → reading_of (xs ++ ys) end ≡ Err f
stop_is_final xs ys end f h = reading_behind xs ys start end ∙ ap (λ o. o >>= λ next. reading_from next ys end) h
