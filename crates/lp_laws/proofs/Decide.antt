-- Each token behind tokens of which none is wrong is wrong, and the reading has its fault, or it isn't, and the reading goes on.
use Rattle.std.proofs.Common.{◌≡◌, refl, sym, ◌∙◌, ap, subst, ◌⊎◌, inl, inr, ℕ, Bool, true, false, List, [], ◌∷◌, ◌++◌, append_assoc, append-nil, Option, Some, None, Result, Ok, Err}
use Rattle.base_names.specs.declared.refusal.FaultWord.{FaultWord}
use Rattle.base_names.specs.declared.refusal.FaultWord.TheVariants.{AfterEnd, DoubledName, NoSection, Number as bad_number, Size, Word}
use Rattle.frac128.specs.Checked.{◌>>=◌}
use Rattle.frac128.specs.Fraction.{Fraction}
use Rattle.model_data.specs.declared.model.Model.{Model}
use Rattle.lp_defs.specs.declared.fault.ModelFault.{ModelFault}
use Rattle.lp_defs.specs.Draft.{Unfinished}
use Rattle.lp_defs.specs.Grammar.{SpellsModel}
use Rattle.lp_defs.specs.Reading.{after, at_the_end, reading_from, reading_of, stage_behind, stopped}
use Rattle.lp_defs.specs.Rows.{open_row, settle_row_title}
use Rattle.lp_defs.specs.Stage.{Stage, start, objective_number, row_first, row_number, row_title, ended}
use Rattle.lp_defs.specs.Symbols.{Quantity, finite, Seen, Spot, Symbol, token, no_token, colon, number, fault_at}
use Rattle.lp_defs.proofs.Agreement.{either, never_both, reading_behind}
use Rattle.lp_laws.specs.Faults.{IsFault, at_token, at_run, at_end, IsLike, same, other_number, IsNamed, behind_end, no_objective_word, no_constraints_word, second_comparison, number_alone, doubled, row_past_limit, term_past_limit, variable_past_limit, no_value, no_sum, no_constant, no_bound, IsWrong, named, misplaced, NothingWrong, none, is_finite}
use Rattle.lp_laws.specs.Faults as faults
use Rattle.lp_laws.specs.Places.{IsBeginning, IsDeadEnd, SpellsOne}
use Rattle.lp_laws.specs.Told.{has_section}
use Rattle.lp_laws.proofs.Blame.{Blamed, at_once, by_next, alone_blamed, bound_blamed, both_ways, comparison_blamed, constant_blamed, known_title, mention_blamed, never_begins, no_room, past_blamed, row_blamed, sum_blamed, behind_rows, word_blamed, objective_word_blamed}
use Rattle.lp_laws.proofs.Chain.{Chain, begun, here_of}
use Rattle.lp_laws.proofs.Chain as chain
use Rattle.lp_laws.proofs.Closing.{Closes, closes, first, row_first_closes}
use Rattle.lp_laws.proofs.Ended.{spelled_ends}
use Rattle.lp_defs.proofs.SoundTokens.{AreSound, IsSoundSymbol}
use Rattle.lp_laws.proofs.Lasting.{Lasts, lasts}
use Rattle.lp_laws.proofs.NumberFaults.{number_fault}
use Rattle.lp_laws.proofs.Replacing.{given, replaced}
use Rattle.lp_laws.proofs.Beginnings.{beginning, dead_end, one_more}
use Rattle.lp_laws.proofs.Telling.{same_stage}
use Rattle.lp_laws.proofs.Trail.{Going, Here, Judged, Stop, as_named, as_word, title_first, still_inside}
use Rattle.lp_laws.proofs.Waits.{IsFinite, is_finite as finite_is, TitleIsFirst, Waits, blamed, ok_by, pending, quiet_run, quiet_stop}
use Rattle.lp_laws.proofs.Walk.{judge}

-- a value that a step gave, of what is known of both outcomes
going_of : (front : List Seen) (s : Spot) (symbol : Symbol) (more : List Seen) (o : Result Stage ModelFault) (next : Stage) → o ≡ Ok next → Judged front s symbol more o → Going front s symbol more next
going_of front s symbol more (Ok n) next e j = let is : n ≡ next = cc in subst (Going front s symbol more) is j
going_of front s symbol more (Err f) next e j = absurd cc

-- all that is known of a stage that a step led to
pub record Led (front : List Seen) (stage : Stage) (s : Spot) (symbol : Symbol) (more : List Seen) (next : Stage) : Type 0 where
  pub stepped : after stage s symbol ≡ Ok next
  pub going : Going front s symbol more next
  pub lasting : Lasts next
  pub at : stage_behind start (front ++ token s symbol ∷ []) ≡ Ok next

pub led : {front : List Seen} {stage : Stage} (s : Spot) (symbol : Symbol) (more : List Seen) (next : Stage) → Chain front (token s symbol ∷ more) stage → IsSoundSymbol symbol → after stage s symbol ≡ Ok next → Led front stage s symbol more next
led {front} {stage} s symbol more next c k e =
    let h = here_of c in
    record {
      stepped = e;
      going = going_of front s symbol more (after stage s symbol) next e (judge front stage s symbol more k h);
      lasting = given Lasts (after stage s symbol) next e (lasts stage s symbol k h.lasting);
      at = one_more front stage (token s symbol) (Ok next) h.at e;
    }

-- Whether what a step led to can be gone on with

-- a row's name that a colon follows, where it may be that of the row
label_closes : (t : Spot) (title : List ℕ) (m : Model) (u : Unfinished) → open_row t title m ≡ Ok u → Closes (row_title t title m)
label_closes t title m u e = first (row_title t title m) colon (row_first u) (ap (λ o. o >>= λ opened. Ok (row_first opened)) e) (row_first_closes u)

title_closes : (t : Spot) (title : List ℕ) (m : Model) (more : List Seen) → Lasts (row_title t title m) → pending (row_title t title m) more ≡ None → Closes (row_title t title m)
title_closes t title m (token p colon ∷ xs) w quiet = let o = ok_by (open_row t title m) quiet in label_closes t title m o.0 o.1
title_closes t title m [] w quiet = closes (row_title t title m) w (ok_by (settle_row_title t title m) quiet)
title_closes t title m (no_token own ∷ xs) w quiet = closes (row_title t title m) w (ok_by (settle_row_title t title m) quiet)
title_closes t title m (token p symbol ∷ xs) w quiet = closes (row_title t title m) w (ok_by (settle_row_title t title m) quiet)

-- stages behind a number of the objective or of a row
pub data IsNumbered : Stage → Type 0 where
  in_objective : {t : Spot} {x : Fraction} {m : Model} → IsNumbered (objective_number t x m)
  in_row : {head : Bool} {t : Spot} {x : Fraction} {u : Unfinished} → IsNumbered (row_number head t x u)

pub finite_last : {stage : Stage} (s : Spot) (symbol : Symbol) → IsNumbered stage → Waits stage s symbol → IsFinite symbol
finite_last s symbol in_objective last = last.1
finite_last s symbol in_row last = last.1

pub closes_or_number : (next : Stage) (more : List Seen) → Lasts next → pending next more ≡ None → Closes next ⊎ IsNumbered next
closes_or_number (objective_number t x m) more w quiet = inr in_objective
closes_or_number (row_number head t x u) more w quiet = inr in_row
closes_or_number (row_title t title m) more w quiet = inl (title_closes t title m more w quiet)
closes_or_number next more w quiet = inl (closes next w tt)

-- another number in the place of one that was taken
pub another : {front : List Seen} {stage : Stage} (s : Spot) (symbol : Symbol) (more : List Seen) (next : Stage) → Chain front (token s symbol ∷ more) stage → after stage s symbol ≡ Ok next → IsFinite symbol →
    (other : Symbol) × IsLike symbol other × IsBeginning (front ++ token s other ∷ [])
another {front} {stage} s _ more next c e (finite_is {has_sign} {x}) =
    let h = here_of c in
    let r = replaced stage s has_sign (finite x) next h.lasting e in
    (number has_sign r.other, other_number, beginning (front ++ token s (number has_sign r.other) ∷ []) r.next (one_more front stage (token s (number has_sign r.other)) (Ok r.next) h.at r.is) r.closes)

-- Where a step leads on and nothing that waits is at fault, the token, or another number in its place, can be gone on with.
goes_on : {front : List Seen} {stage : Stage} (s : Spot) (symbol : Symbol) (more : List Seen) (next : Stage) → Chain front (token s symbol ∷ more) stage → IsSoundSymbol symbol → after stage s symbol ≡ Ok next →
    pending next more ≡ None → (other : Symbol) × IsLike symbol other × IsBeginning (front ++ token s other ∷ [])
goes_on {front} {stage} s symbol more next c k e quiet =
    let l = led s symbol more next c k e in
    elim (closes_or_number next more l.lasting quiet)
    [ inl closed ↦ (symbol, same, beginning (front ++ token s symbol ∷ []) next l.at closed) | inr numbered ↦ another s symbol more next c e (finite_last s symbol numbered l.going.last) ]

-- A number that doesn't serve

finite_number : (has_sign : Bool) (q : Quantity) → IsFinite (number has_sign q) → is_finite q ≡ true
finite_number has_sign _ finite_is = refl

value_serves : (front : List Seen) (stage : Stage) (s : Spot) (has_sign : Bool) (q : Quantity) (more : List Seen) (next : Stage) → Led front stage s (number has_sign q) more next →
    IsDeadEnd (front ++ token s (number has_sign q) ∷ []) → is_finite q ≡ false ⊎ has_section front ≡ true → ⊥
value_serves front stage s has_sign q more (objective_number t x m) l dead (inl endless) = both_ways (finite_number has_sign q l.going.last.1) endless
value_serves front stage s has_sign q more (objective_number t x m) l dead (inr within) = both_ways (still_inside front (token s (number has_sign q)) within) l.going.trail.outside
value_serves front stage s has_sign q more (row_number head t x u) l dead (inl endless) = both_ways (finite_number has_sign q l.going.last.1) endless
value_serves front stage s has_sign q more (row_number head t x u) l dead (inr within) = both_ways (still_inside front (token s (number has_sign q)) within) l.going.trail.outside
value_serves front stage s has_sign q more (row_title t title m) l dead why = let e = l.going.last.1 in absurd cc
value_serves front stage s has_sign q more next l dead why =
    let b = beginning (front ++ token s (number has_sign q) ∷ []) next l.at (closes next l.lasting tt) in dead b.more b.model b.spelled

value_blamed : {front : List Seen} {stage : Stage} (s : Spot) (has_sign : Bool) (q other : Quantity) (more : List Seen) → Chain front (token s (number has_sign q) ∷ more) stage → IsSoundSymbol (number has_sign q) →
    IsBeginning (front ++ token s (number has_sign other) ∷ []) → IsDeadEnd (front ++ token s (number has_sign q) ∷ []) → is_finite q ≡ false ⊎ has_section front ≡ true →
    Blamed stage s (number has_sign q) more bad_number
value_blamed {front} {stage} s has_sign q other more c k begins dead why = by (after stage s (number has_sign q)) refl
  where
    by : (o : Result Stage ModelFault) → after stage s (number has_sign q) ≡ o → Blamed stage s (number has_sign q) more bad_number
    by (Ok next) e = absurd (value_serves front stage s has_sign q more next (led s (number has_sign q) more next c k e) dead why)
    by (Err f) e =
        elim (number_fault stage s has_sign q f e)
        [ inl is ↦ at_once (e ∙ ap Err is) | inr each ↦ absurd (never_begins s (number has_sign other) (each other).0 c (each other).1 begins) ]

-- A fault that is named is the reading's.

end_blamed : {front : List Seen} {stage : Stage} (s : Spot) (symbol : Symbol) (more : List Seen) → Chain front (token s symbol ∷ more) stage → SpellsOne front → Blamed stage s symbol more AfterEnd
end_blamed {front} s symbol more c one =
    subst (λ st. Blamed st s symbol more AfterEnd) (same_stage (stage_behind start front) (spelled_ends front one.model one.spelled) (here_of c).at) (at_once refl)

pub named_blamed : {front : List Seen} {stage : Stage} {w : FaultWord} (s : Spot) (symbol : Symbol) (more : List Seen) → Chain front (token s symbol ∷ more) stage → IsSoundSymbol symbol →
    IsNamed front (token s symbol ∷ more) w → Blamed stage s symbol more w
named_blamed s symbol more c k (behind_end one) = end_blamed s symbol more c one
named_blamed s symbol more c k (no_objective_word nothing_yet is) = objective_word_blamed s symbol more c nothing_yet is
named_blamed s _ more c k (no_constraints_word {word} told is) = word_blamed s word more c told is
named_blamed s _ more c k (second_comparison {sense} told rows) = comparison_blamed s sense more c told rows
named_blamed s _ more c k (number_alone before amount {sense} e begins a) = alone_blamed s sense more c e begins a
named_blamed {stage} s symbol more c k (doubled {m} {text} told title known) = row_blamed stage s symbol more DoubledName (behind_rows c told) title (known_title s text m known)
named_blamed {stage} s symbol more c k (row_past_limit {m} {text} told title unknown full) = row_blamed stage s symbol more Size (behind_rows c told) title (no_room s text m unknown full)
named_blamed s _ more c k (term_past_limit before own {text} {sum} e takes coefficient fits past) = past_blamed s text sum c e coefficient takes fits past
named_blamed s _ more c k (variable_past_limit before own {text} e told shape past) = mention_blamed s text more c e told shape past
named_blamed s _ more c k (no_value other {has_sign} {quantity} begins dead why) = value_blamed s has_sign quantity other more c k begins dead why
named_blamed s symbol more c k (no_sum before own e takes o term wrong) = sum_blamed s symbol c e o takes term wrong
named_blamed s _ more c k (no_constant before own {has_sign} {quantity} {x} e told marked o v plain wrong) = constant_blamed before s has_sign quantity x c e told marked o v plain wrong
named_blamed s _ _ c k (no_bound before own {sense_spot} {has_sign} {quantity} {sense} {more} {limit} e told may o v unfit) = bound_blamed s sense_spot has_sign quantity sense more limit c e told may o v unfit

-- No fault is named WORD.
is_word : FaultWord → Bool
is_word Word = true
is_word w = false

named_is_not_word : {front rest : List Seen} {w : FaultWord} → IsNamed front rest w → is_word w ≡ false
unfolding is_word
named_is_not_word (behind_end _) = refl
named_is_not_word (no_objective_word _ _) = refl
named_is_not_word (no_constraints_word _ _) = refl
named_is_not_word (second_comparison _ _) = refl
named_is_not_word (number_alone _ _ _ _ _) = refl
named_is_not_word (doubled _ _ _) = refl
named_is_not_word (row_past_limit _ _ _ _) = refl
named_is_not_word (term_past_limit _ _ _ _ _ _ _) = refl
named_is_not_word (variable_past_limit _ _ _ _ _ _) = refl
named_is_not_word (no_value _ _ _ _) = refl
named_is_not_word (no_sum _ _ _ _ _ _ _) = refl
named_is_not_word (no_constant _ _ _ _ _ _ _ _ _) = refl
named_is_not_word (no_bound _ _ _ _ _ _ _ _) = refl

-- One token

blamed_fault : {stage : Stage} {s : Spot} {symbol : Symbol} {more : List Seen} {w : FaultWord} (f : ModelFault) → Blamed stage s symbol more w → after stage s symbol ≡ Err f → fault_at s w ≡ f
blamed_fault {stage} {s} {w = w} f (at_once is) e = let both : Err (fault_at s w) ≡ Err f = sym is ∙ e in cc
blamed_fault f (by_next next is waits) e = let both : Ok next ≡ Err f = sym is ∙ e in absurd cc

-- a token that is passed has no fault
passed : {stage : Stage} {s : Spot} {symbol : Symbol} {more : List Seen} {w : FaultWord} (next : Stage) → Blamed stage s symbol more w → after stage s symbol ≡ Ok next → pending next more ≡ None → ⊥
passed {s} {w = w} next (at_once is) e quiet = let both : Err (fault_at s w) ≡ Ok next = sym is ∙ e in absurd cc
passed {more = more} {w = w} next (by_next other is waits) e quiet =
    let same_next : other ≡ next = (let both : Ok other ≡ Ok next = sym is ∙ e in cc) in
    let both : Some w ≡ None = sym waits ∙ (ap (λ st. pending st more) same_next ∙ quiet) in absurd cc

no_word : {front rest : List Seen} {w : FaultWord} → IsNamed front rest w → w ≡ Word → ⊥
unfolding is_word
no_word n is = let clash : true ≡ false = sym (ap is_word is) ∙ named_is_not_word n in absurd cc

not_for_value : (s : Spot) → fault_at s Word ≡ fault_at s bad_number → ⊥
unfolding is_word
not_for_value s e = let clash : true ≡ false = ap (λ f. is_word f.fault) e in absurd cc

-- each like symbol is a dead end where the token fits nothing
likes_dead : {front : List Seen} {stage : Stage} (s : Spot) (symbol : Symbol) (more : List Seen) → Chain front (token s symbol ∷ more) stage → after stage s symbol ≡ Err (fault_at s Word) →
    (other : Symbol) → IsLike symbol other → IsDeadEnd (front ++ token s other ∷ [])
likes_dead {front} {stage} s symbol more c e _ same = dead_end (front ++ token s symbol ∷ []) (fault_at s Word) (one_more front stage (token s symbol) (Err (fault_at s Word)) (here_of c).at e)
likes_dead {front} {stage} s _ more c e _ (other_number {has_sign} {quantity} {other}) =
    elim (number_fault stage s has_sign quantity (fault_at s Word) e) [
      | inl is ↦ absurd (not_for_value s is)
      | inr each ↦ dead_end (front ++ token s (number has_sign other) ∷ []) (each other).0 (one_more front stage (token s (number has_sign other)) (Err (each other).0) (here_of c).at (each other).1)
    ]

-- what is read from a stage on where the token is at fault
reads_blame : {front : List Seen} {stage : Stage} {w : FaultWord} (s : Spot) (symbol : Symbol) (more : List Seen) (end : Spot) → Chain front (token s symbol ∷ more) stage → IsSoundSymbol symbol → Blamed stage s symbol more w →
    reading_from stage (token s symbol ∷ more) end ≡ Err (fault_at s w)
unfolding reading_from
reads_blame s symbol more end c k (at_once e) = ap (λ o. o >>= λ next. reading_from next more end) e
reads_blame {w = w} s symbol more end c k (by_next next e waits) =
    let l = led s symbol more next c k e in
    ap (λ o. o >>= λ next. reading_from next more end) e ∙ blamed next more s symbol w end l.going.last waits

-- the token is wrong
record Wrong (front : List Seen) (s : Spot) (symbol : Symbol) (more : List Seen) (stage : Stage) : Type 0 where
  pub word : FaultWord
  pub wrong : IsWrong front (token s symbol ∷ more) word
  pub blame : Blamed stage s symbol more word

-- the token is not wrong
record Right (front : List Seen) (s : Spot) (symbol : Symbol) (more : List Seen) (stage : Stage) : Type 0 where
  pub next : Stage
  pub stepped : after stage s symbol ≡ Ok next
  pub chain : Chain (front ++ token s symbol ∷ []) more next
  pub right : (word : FaultWord) → IsWrong front (token s symbol ∷ more) word → ⊥

-- A fault of tokens of which none is wrong is the reading's.
pub wrong_blamed : {front : List Seen} {stage : Stage} {w : FaultWord} (s : Spot) (symbol : Symbol) (more : List Seen) → Chain front (token s symbol ∷ more) stage → IsSoundSymbol symbol →
    IsWrong front (token s symbol ∷ more) w → Blamed stage s symbol more w
wrong_blamed s symbol more c k (named n) = named_blamed s symbol more c k n
wrong_blamed {front} {stage} s symbol more c k (misplaced dead no_name) = by (after stage s symbol) refl (judge front stage s symbol more k (here_of c))
  where
    waits_not : (next : Stage) → after stage s symbol ≡ Ok next → Going front s symbol more next → (o : Option FaultWord) → pending next more ≡ o → ⊥
    waits_not next e g (Some w) waits = no_name w (g.waits w waits)
    waits_not next e g None quiet = let b = goes_on s symbol more next c k e quiet in dead b.0 b.1 b.2.more b.2.model b.2.spelled

    stops : (f : ModelFault) → after stage s symbol ≡ Err f → Stop front s symbol more f → Blamed stage s symbol more Word
    stops _ e as_word = at_once e
    stops _ e (as_named {w} n) = absurd (no_name w n)

    by : (o : Result Stage ModelFault) → after stage s symbol ≡ o → Judged front s symbol more o → Blamed stage s symbol more Word
    by (Ok next) e g = absurd (waits_not next e g (pending next more) refl)
    by (Err f) e stop = stops f e stop

decide : {front : List Seen} {stage : Stage} (s : Spot) (symbol : Symbol) (more : List Seen) → Chain front (token s symbol ∷ more) stage → IsSoundSymbol symbol →
    Wrong front s symbol more stage ⊎ Right front s symbol more stage
decide {front} {stage} s symbol more c k = by (after stage s symbol) refl (judge front stage s symbol more k (here_of c))
  where
    goes : (next : Stage) → after stage s symbol ≡ Ok next → Going front s symbol more next → (o : Option FaultWord) → pending next more ≡ o → Wrong front s symbol more stage ⊎ Right front s symbol more stage
    goes next e g (Some w) waits = inl (record { word = w; wrong = named (g.waits w waits); blame = by_next next e waits })
    goes next e g None quiet =
        let l = led s symbol more next c k e in
        inr (record {
          next = next;
          stepped = e;
          chain = chain.longer c e l.going.last (record { at = l.at; lasting = l.lasting; trail = l.going.trail; quiet = quiet });
          right = λ w wrong. passed next (wrong_blamed s symbol more c k wrong) e quiet;
        })

    stops : (f : ModelFault) → after stage s symbol ≡ Err f → Stop front s symbol more f → Wrong front s symbol more stage ⊎ Right front s symbol more stage
    stops _ e (as_named {w} n) = inl (record { word = w; wrong = named n; blame = at_once e })
    stops _ e as_word =
        inl (record {
          word = Word;
          wrong = misplaced (likes_dead s symbol more c e) (λ w n. no_word n (let is = blamed_fault (fault_at s Word) (named_blamed s symbol more c k n) e in ap (λ f. f.fault) is));
          blame = at_once e;
        })

    by : (o : Result Stage ModelFault) → after stage s symbol ≡ o → Judged front s symbol more o → Wrong front s symbol more stage ⊎ Right front s symbol more stage
    by (Ok next) e g = goes next e g (pending next more) refl
    by (Err f) e stop = stops f e stop

-- All tokens

pub sound_at : (front : List Seen) (s : Spot) (symbol : Symbol) (rest : List Seen) → AreSound (front ++ token s symbol ∷ rest) → IsSoundSymbol symbol
sound_at [] s symbol rest k = k.0
sound_at (token t other ∷ front) s symbol rest k = sound_at front s symbol rest k.1
sound_at (no_token f ∷ front) s symbol rest k = sound_at front s symbol rest k.1

-- the chain to tokens of which none is wrong
pub chain_of : (front rest : List Seen) → NothingWrong front rest → AreSound (front ++ rest) → (stage : Stage) × Chain front rest stage
unfolding stage_behind
chain_of _ rest none k = (start, begun (record { at = refl; lasting = tt; trail = refl; quiet = refl }))
chain_of _ rest (faults.one_more {front} {spot} {symbol} before right) k =
    let kept = subst AreSound (append_assoc front (token spot symbol ∷ []) rest) k in
    let c = chain_of front (token spot symbol ∷ rest) before kept in
    elim (decide spot symbol rest c.1 (sound_at front spot symbol rest kept)) [ inl w ↦ absurd (right w.word w.wrong) | inr r ↦ (r.next, r.chain) ]

last_fault : (stage : Stage) (end : Spot) (f : ModelFault) → at_the_end stage end ≡ Err f → stopped stage (fault_at end NoSection) ≡ f
last_fault (ended m) end f e = absurd cc
last_fault stage end f e = cc

end_fault : (stage : Stage) (end : Spot) (f : ModelFault) → TitleIsFirst stage → pending stage [] ≡ None → at_the_end stage end ≡ Err f → fault_at end NoSection ≡ f
end_fault stage end f sound quiet e = sym (quiet_stop stage (fault_at end NoSection) sound quiet) ∙ last_fault stage end f e

run_fault : (front : List Seen) (own : ModelFault) (more : List Seen) (stage : Stage) → Here front (no_token own ∷ more) stage → stopped stage own ≡ own
run_fault front own more stage h = quiet_stop stage own (title_first front stage h.trail) (sym (quiet_run stage own more) ∙ h.quiet)

read_behind : (front rest : List Seen) (stage : Stage) (end : Spot) (o : Result Model ModelFault) → stage_behind start front ≡ Ok stage → reading_from stage rest end ≡ o → reading_of (front ++ rest) end ≡ o
read_behind front rest stage end o at e = reading_behind front rest start end ∙ (ap (λ o. o >>= λ next. reading_from next rest end) at ∙ e)

-- the fault at the first token that is left, or behind it
at_first : (rest front : List Seen) (stage : Stage) (s : Spot) (symbol : Symbol) (end : Spot) (f : ModelFault) → Chain front (token s symbol ∷ rest) stage → NothingWrong front (token s symbol ∷ rest) → IsSoundSymbol symbol →
    reading_from stage (token s symbol ∷ rest) end ≡ Err f →
    ((front : List Seen) (stage : Stage) → Chain front rest stage → NothingWrong front rest → reading_from stage rest end ≡ Err f → IsFault (front ++ rest) end f) →
    Wrong front s symbol rest stage ⊎ Right front s symbol rest stage → IsFault (front ++ token s symbol ∷ rest) end f
unfolding reading_from
at_first rest front stage s symbol end f c nothing k e behind (inl w) =
    let is : fault_at s w.word ≡ f = (let both : Err (fault_at s w.word) ≡ Err f = sym (reads_blame s symbol rest end c k w.blame) ∙ e in cc) in
    subst (IsFault (front ++ token s symbol ∷ rest) end) is (at_token front rest refl nothing w.wrong)
at_first rest front stage s symbol end f c nothing k e behind (inr r) =
    subst (λ xs. IsFault xs end f) (append_assoc front (token s symbol ∷ []) rest)
    (behind (front ++ token s symbol ∷ []) r.next r.chain (faults.one_more nothing r.right) (sym (ap (λ o. o >>= λ next. reading_from next rest end) r.stepped) ∙ e))

-- The fault that is read is the first that is wrong.
found_from : (rest front : List Seen) (stage : Stage) (end : Spot) (f : ModelFault) → Chain front rest stage → NothingWrong front rest → AreSound rest → reading_from stage rest end ≡ Err f →
    IsFault (front ++ rest) end f
unfolding reading_from
found_from [] front stage end f c nothing k e =
    let h = here_of c in
    subst (IsFault (front ++ []) end) (end_fault stage end f (title_first front stage h.trail) h.quiet e)
    (at_end (subst (λ xs. NothingWrong xs []) (sym (append-nil front)) nothing) (λ m spelled. never_both (front ++ []) end m f spelled (read_behind front [] stage end (Err f) h.at e)))
found_from (no_token own ∷ rest) front stage end f c nothing k e =
    let is : stopped stage own ≡ f = cc in
    subst (IsFault (front ++ no_token own ∷ rest) end) (sym (run_fault front own rest stage (here_of c)) ∙ is) (at_run front rest refl nothing)
found_from (token s symbol ∷ rest) front stage end f c nothing k e =
    at_first rest front stage s symbol end f c nothing k.0 e (λ front stage c nothing e. found_from rest front stage end f c nothing k.1 e) (decide s symbol rest c k.0)

pub found : (xs : List Seen) (end : Spot) (f : ModelFault) → AreSound xs → reading_of xs end ≡ Err f → IsFault xs end f
unfolding stage_behind
found xs end f k e = found_from xs [] start end f (begun (record { at = refl; lasting = tt; trail = refl; quiet = refl })) none k e

-- The first that is wrong is the fault that is read.
pub told : (xs : List Seen) (end : Spot) (f : ModelFault) → AreSound xs → IsFault xs end f → reading_of xs end ≡ Err f
unfolding reading_from
told xs end _ k (at_token front more {spot} {symbol} {word} e nothing wrong) =
    let kept = subst AreSound e k in
    let c = chain_of front (token spot symbol ∷ more) nothing kept in
    let own = sound_at front spot symbol more kept in
    ap (λ xs. reading_of xs end) e
    ∙ read_behind front (token spot symbol ∷ more) c.0 end (Err (fault_at spot word)) (here_of c.1).at (reads_blame spot symbol more end c.1 own (wrong_blamed spot symbol more c.1 own wrong))
told xs end f k (at_run front more e nothing) =
    let c = chain_of front (no_token f ∷ more) nothing (subst AreSound e k) in
    let h = here_of c.1 in
    ap (λ xs. reading_of xs end) e ∙ read_behind front (no_token f ∷ more) c.0 end (Err f) h.at (ap Err (run_fault front f more c.0 h))
told xs end _ k (at_end nothing unspelled) = by (either xs end)
  where
    by : ((m : Model) × SpellsModel xs m) ⊎ ((f : ModelFault) × reading_of xs end ≡ Err f) → reading_of xs end ≡ Err (fault_at end NoSection)
    by (inl s) = absurd (unspelled s.0 s.1)
    by (inr f) =
        let c = chain_of xs [] nothing (subst AreSound (sym (append-nil xs)) k) in
        let h = here_of c.1 in
        let whole : reading_of (xs ++ []) end ≡ Err f.0 = ap (λ xs. reading_of xs end) (append-nil xs) ∙ f.1 in
        let last : reading_from c.0 [] end ≡ Err f.0 = sym (ap (λ o. o >>= λ next. reading_from next [] end) h.at) ∙ (sym (reading_behind xs [] start end) ∙ whole) in
        f.1 ∙ ap Err (sym (end_fault c.0 end f.0 (title_first xs c.0 h.trail) h.quiet last))
