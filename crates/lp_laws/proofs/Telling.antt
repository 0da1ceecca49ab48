-- The stage behind tokens that spell a model once an end is put behind them.
use Rattle.std.proofs.Common.{◌≡◌, refl, sym, ◌∙◌, ap, ap₂, subst, ◌⊎◌, inl, inr, ℕ, Bool, true, false, List, [], ◌∷◌, ◌++◌, Option, Some, None, Result, Ok, Err}
use Rattle.base_names.specs.declared.refusal.FaultWord.{FaultWord}
use Rattle.base_names.specs.declared.refusal.FaultWord.TheVariants.{Number as bad_number}
use Rattle.frac128.specs.Checked.{◌>>=◌}
use Rattle.frac128.specs.Fraction.{Fraction, zero_value}
use Rattle.model_data.specs.declared.model.Model.{Model}
use Rattle.model_data.specs.declared.model.Row.{Row}
use Rattle.model_data.specs.declared.model.Sense.{Sense}
use Rattle.model_data.specs.declared.model.Sense.TheVariants.{Less, Greater, Equal}
use Rattle.model_data.specs.declared.model.VarKind.{VarKind}
use Rattle.lp_defs.specs.declared.fault.ModelFault.{ModelFault}
use Rattle.lp_defs.specs.declared.token.SectionWord.TheVariants.{Constraints, End}
use Rattle.lp_defs.specs.Draft.{Unfinished, close_row, default_title, with_constant}
use Rattle.lp_defs.specs.Grammar.{SpellsModel}
use Rattle.lp_defs.specs.Objective.{after_objective_term, settle_objective_title}
use Rattle.lp_defs.specs.Reading.{reading_from, stage_behind}
use Rattle.lp_defs.specs.Rows.{after_row_label, after_row_term, open_row, settle_row_title}
use Rattle.lp_defs.specs.Stage.{Stage, start, objective_start, objective_title, objective_first, objective_number, objective_next, rows_start, rows_next, row_title, row_first, row_next, row_side, bounds, bound_name, bound_side, bound_side_sign, bound_sign, bound_number, bound_middle, bound_end, kinds}
use Rattle.lp_defs.specs.Symbols.{Seen, Spot, finite, comparison, number, keyword, or_fault}
use Rattle.lp_defs.proofs.Agreement.{agreement, reading_behind}
use Rattle.lp_laws.specs.Told.{put}
use Rattle.lp_laws.proofs.Closing.{nowhere_is}
use Rattle.lp_laws.proofs.Lists.{before_is, before_last, last_is, last_or}

pub spells : (front ys : List Seen) (stage : Stage) (m : Model) → stage_behind start front ≡ Ok stage → reading_from stage ys nowhere_is ≡ Ok m → SpellsModel (front ++ ys) m
spells front ys stage m at reads =
    (agreement (front ++ ys) nowhere_is m).0 (reading_behind front ys start nowhere_is ∙ (ap (λ o. o >>= λ next. reading_from next ys nowhere_is) at ∙ reads))

pub same_stage : {stage other : Stage} (o : Result Stage ModelFault) → o ≡ Ok stage → o ≡ Ok other → stage ≡ other
same_stage {stage} {other} o a b = let is : Ok stage ≡ Ok other = sym a ∙ b in cc

-- a chain of steps that gives a value
record Through {A B C : Type 0} (o : Result A ModelFault) (g : A → Result B ModelFault) (h : B → Result C ModelFault) (c : C) : Type 0 where
  pub value : A
  pub value_is : o ≡ Ok value
  pub rest : (g value >>= h) ≡ Ok c

through : {A B C : Type 0} (o : Result A ModelFault) (g : A → Result B ModelFault) (h : B → Result C ModelFault) (c : C) → ((o >>= g) >>= h) ≡ Ok c → Through o g h c
through (Ok a) g h c e = record { value = a; value_is = refl; rest = e }
through (Err f) g h c e = absurd cc

record Found {A B C : Type 0} (o : Option A) (g : A → Result B ModelFault) (h : B → Result C ModelFault) (c : C) : Type 0 where
  pub value : A
  pub value_is : o ≡ Some value
  pub rest : (g value >>= h) ≡ Ok c

find : {A B C : Type 0} (s : Spot) (w : FaultWord) (o : Option A) (g : A → Result B ModelFault) (h : B → Result C ModelFault) (c : C) → ((or_fault s w o >>= g) >>= h) ≡ Ok c → Found o g h c
find s w (Some a) g h c e = record { value = a; value_is = refl; rest = e }
find s w None g h c e = absurd cc

-- Behind an objective

pub data ObjectiveStage (m : Model) : Stage → Type 0 where
  begins : ObjectiveStage m (objective_start m)
  titled : {t : Spot} {title : List ℕ} {n : Model} → settle_objective_title t title n ≡ Ok m → ObjectiveStage m (objective_title t title n)
  labelled : ObjectiveStage m (objective_first m)
  numbered : {t : Spot} {x : Fraction} {n : Model} → with_constant x n ≡ Some m → ObjectiveStage m (objective_number t x n)
  further : ObjectiveStage m (objective_next m)

pub objective_stage : (stage : Stage) (m : Model) → reading_from stage (put (keyword Constraints) ∷ put (keyword End) ∷ []) nowhere_is ≡ Ok m → ObjectiveStage m stage
unfolding reading_from
objective_stage (objective_start n) m e = let is : n ≡ m = cc in subst (λ k. ObjectiveStage k (objective_start n)) is begins
objective_stage (objective_title t title n) m e =
    let p = through (settle_objective_title t title n) (λ told. Ok (rows_start told)) (λ next. reading_from next (put (keyword End) ∷ []) nowhere_is) m e in
    let is : p.value ≡ m = (let r = p.rest in cc) in titled (p.value_is ∙ ap Ok is)
objective_stage (objective_first n) m e = let is : n ≡ m = cc in subst (λ k. ObjectiveStage k (objective_first n)) is labelled
objective_stage (objective_number t x n) m e =
    let p = find t bad_number (with_constant x n) (λ told. Ok (rows_start told)) (λ next. reading_from next (put (keyword End) ∷ []) nowhere_is) m e in
    let is : p.value ≡ m = (let r = p.rest in cc) in numbered (p.value_is ∙ ap Some is)
objective_stage (objective_next n) m e = let is : n ≡ m = cc in subst (λ k. ObjectiveStage k (objective_next n)) is further
objective_stage (row_title t title n) m e =
    let p = through (settle_row_title t title n) (λ told. after_row_term nowhere_is (keyword Constraints) told) (λ next. reading_from next (put (keyword End) ∷ []) nowhere_is) m e in
    let r = p.rest in absurd cc
objective_stage (bound_end Less text n) m e = absurd cc
objective_stage (bound_end Greater text n) m e = absurd cc
objective_stage (bound_end Equal text n) m e = absurd cc
objective_stage stage m e = absurd cc

-- Behind rows, or behind a section

abbrev pub inside : Stage → Bool
inside (bounds m) = true
inside (bound_name text m) = true
inside (bound_side sense text m) = true
inside (bound_side_sign negative sense text m) = true
inside (bound_sign negative m) = true
inside (bound_number t l m) = true
inside (bound_middle l sense m) = true
inside (bound_end sense text m) = true
inside (kinds kind m) = true
inside stage = false

pub data RowsStage (m : Model) : Stage → Type 0 where
  at_start : RowsStage m (rows_start m)
  behind_row : RowsStage m (rows_next m)

pub data SectionStage (m : Model) : Stage → Type 0 where
  at_bounds : SectionStage m (bounds m)
  at_bound_end : {sense : Sense} {text : List ℕ} → SectionStage m (bound_end sense text m)
  at_kinds : {kind : VarKind} → SectionStage m (kinds kind m)

pub ending_stage : (stage : Stage) (m : Model) → reading_from stage (put (keyword End) ∷ []) nowhere_is ≡ Ok m → RowsStage m stage ⊎ SectionStage m stage
unfolding reading_from
ending_stage (rows_start n) m e = let is : n ≡ m = cc in inl (subst (λ k. RowsStage k (rows_start n)) is at_start)
ending_stage (rows_next n) m e = let is : n ≡ m = cc in inl (subst (λ k. RowsStage k (rows_next n)) is behind_row)
ending_stage (bounds n) m e = let is : n ≡ m = cc in inr (subst (λ k. SectionStage k (bounds n)) is at_bounds)
ending_stage (bound_end Less text n) m e = let is : n ≡ m = cc in inr (subst (λ k. SectionStage k (bound_end Less text n)) is at_bound_end)
ending_stage (bound_end Greater text n) m e = let is : n ≡ m = cc in inr (subst (λ k. SectionStage k (bound_end Greater text n)) is at_bound_end)
ending_stage (bound_end Equal text n) m e = let is : n ≡ m = cc in inr (subst (λ k. SectionStage k (bound_end Equal text n)) is at_bound_end)
ending_stage (kinds kind n) m e = let is : n ≡ m = cc in inr (subst (λ k. SectionStage k (kinds kind n)) is at_kinds)
ending_stage (objective_title t title n) m e =
    let p = through (settle_objective_title t title n) (λ told. after_objective_term nowhere_is (keyword End) told) (λ next. reading_from next [] nowhere_is) m e in
    let r = p.rest in absurd cc
ending_stage (objective_number t x n) m e =
    let p = find t bad_number (with_constant x n) (λ told. after_objective_term nowhere_is (keyword End) told) (λ next. reading_from next [] nowhere_is) m e in
    let r = p.rest in absurd cc
ending_stage (row_title t title n) m e =
    let p = through (settle_row_title t title n) (λ told. after_row_term nowhere_is (keyword End) told) (λ next. reading_from next [] nowhere_is) m e in
    let r = p.rest in absurd cc
ending_stage stage m e = absurd cc

-- In a row

reopened : Row → Model → Unfinished
reopened first m = record {
  model = record m { rows = elim (before_last first m.rows) [ [] ↦ [] | _ ∷ rows ↦ rows ] };
  row = record { title = (last_or first m.rows).name; terms = (last_or first m.rows).terms };
}

reopened_is : (first : Row) (sense : Sense) (x : Fraction) (u : Unfinished) → reopened first (close_row sense x u) ≡ u
unfolding reopened
reopened_is first sense x u =
    let r : Row = record { name = u.row.title; sense = sense; rhs = x; terms = u.row.terms } in
    ap₂ (λ (rows : List Row) (r : Row). record {
      model = record u.model { rows = elim rows [ [] ↦ [] | _ ∷ rows ↦ rows ] };
      row = record { title = r.name; terms = r.terms };
    }) (before_is u.model.rows r first) (last_is u.model.rows r first)

pub closed_same : (sense : Sense) (x : Fraction) (u v : Unfinished) → close_row sense x u ≡ close_row sense x v → u ≡ v
closed_same sense x u v e =
    let r : Row = record { name = u.row.title; sense = sense; rhs = x; terms = u.row.terms } in
    sym (reopened_is r sense x u) ∙ (ap (reopened r) e ∙ reopened_is r sense x v)

pub data TermsStage (u : Unfinished) : Stage → Type 0 where
  first : TermsStage u (row_first u)
  later : TermsStage u (row_next u)
  titled_row : {t : Spot} {title : List ℕ} {m : Model} → settle_row_title t title m ≡ Ok u → TermsStage u (row_title t title m)
  unlabelled : {m : Model} → open_row nowhere_is (default_title m) m ≡ Ok u → TermsStage u (rows_start m)

pub terms_stage : (stage : Stage) (u : Unfinished) →
    reading_from stage (put (comparison Less) ∷ put (number false (finite zero_value)) ∷ put (keyword End) ∷ []) nowhere_is ≡ Ok (close_row Less zero_value u) →
    TermsStage u stage ⊎ (inside stage ≡ true)
unfolding reading_from
terms_stage (row_first v) u e =
    let is = closed_same Less zero_value v u (let same : close_row Less zero_value v ≡ close_row Less zero_value u = cc in same) in
    inl (subst (λ k. TermsStage k (row_first v)) is first)
terms_stage (row_next v) u e =
    let is = closed_same Less zero_value v u (let same : close_row Less zero_value v ≡ close_row Less zero_value u = cc in same) in
    inl (subst (λ k. TermsStage k (row_next v)) is later)
terms_stage (row_title t title m) u e =
    let p = through (settle_row_title t title m) (λ told. Ok (row_side Less told)) (λ next. reading_from next (put (number false (finite zero_value)) ∷ put (keyword End) ∷ []) nowhere_is) (close_row Less zero_value u) e in
    let is = closed_same Less zero_value p.value u (let r = p.rest in (let same : close_row Less zero_value p.value ≡ close_row Less zero_value u = cc in same)) in
    inl (titled_row (p.value_is ∙ ap Ok is))
terms_stage (rows_start m) u e =
    let p = through (open_row nowhere_is (default_title m) m) (λ opened. after_row_label nowhere_is (comparison Less) opened) (λ next. reading_from next (put (number false (finite zero_value)) ∷ put (keyword End) ∷ []) nowhere_is) (close_row Less zero_value u) e in
    let is = closed_same Less zero_value p.value u (let r = p.rest in (let same : close_row Less zero_value p.value ≡ close_row Less zero_value u = cc in same)) in
    inl (unlabelled (p.value_is ∙ ap Ok is))
terms_stage (objective_title t title n) u e =
    let p = through (settle_objective_title t title n) (λ told. after_objective_term nowhere_is (comparison Less) told) (λ next. reading_from next (put (number false (finite zero_value)) ∷ put (keyword End) ∷ []) nowhere_is) (close_row Less zero_value u) e in
    let r = p.rest in absurd cc
terms_stage (objective_number t x n) u e =
    let p = find t bad_number (with_constant x n) (λ told. after_objective_term nowhere_is (comparison Less) told) (λ next. reading_from next (put (number false (finite zero_value)) ∷ put (keyword End) ∷ []) nowhere_is) (close_row Less zero_value u) e in
    let r = p.rest in absurd cc
terms_stage (bounds m) u e = inr refl
terms_stage (bound_name text m) u e = inr refl
terms_stage (bound_side sense text m) u e = inr refl
terms_stage (bound_side_sign negative sense text m) u e = inr refl
terms_stage (bound_sign negative m) u e = inr refl
terms_stage (bound_number t l m) u e = inr refl
terms_stage (bound_middle l sense m) u e = inr refl
terms_stage (bound_end sense text m) u e = inr refl
terms_stage (kinds kind m) u e = inr refl
terms_stage stage u e = absurd cc
