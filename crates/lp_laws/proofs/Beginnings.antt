-- Tokens that can be gone on with, and those that can't, by the stage behind them.
use Rattle.std.proofs.Common.{◌≡◌, refl, ◌∙◌, ap, List, [], ◌∷◌, ◌++◌, Result, Ok, Err}
use Rattle.frac128.specs.Checked.{◌>>=◌}
use Rattle.lp_defs.specs.declared.fault.ModelFault.{ModelFault}
use Rattle.lp_defs.specs.Reading.{after_seen, stage_behind}
use Rattle.lp_defs.specs.Stage.{Stage, start}
use Rattle.lp_defs.specs.Symbols.{Seen}
use Rattle.lp_defs.proofs.Agreement.{never_both, stop_is_final}
use Rattle.lp_laws.specs.Places.{IsBeginning, IsDeadEnd}
use Rattle.lp_laws.proofs.Closing.{Closes, nowhere_is}
use Rattle.lp_laws.proofs.Telling.{spells}

same_steps : (o : Result Stage ModelFault) (xs ys : List Seen) →
    ((next : Stage) → stage_behind next (xs ++ ys) ≡ (stage_behind next xs >>= λ last. stage_behind last ys)) →
    (o >>= λ next. stage_behind next (xs ++ ys)) ≡ ((o >>= λ next. stage_behind next xs) >>= λ last. stage_behind last ys)
same_steps (Ok next) xs ys h = h next
same_steps (Err f) xs ys h = refl

staged : (xs ys : List Seen) (stage : Stage) → stage_behind stage (xs ++ ys) ≡ (stage_behind stage xs >>= λ next. stage_behind next ys)
unfolding stage_behind
staged [] ys stage = refl
staged (seen ∷ xs) ys stage = same_steps (after_seen stage seen) xs ys (λ next. staged xs ys next)

-- the stage behind one token more
pub one_more : (front : List Seen) (stage : Stage) (seen : Seen) (o : Result Stage ModelFault) → stage_behind start front ≡ Ok stage → after_seen stage seen ≡ o →
    stage_behind start (front ++ seen ∷ []) ≡ o
unfolding stage_behind
one_more front stage seen o h e =
    staged front (seen ∷ []) start ∙ (ap (λ o. o >>= λ next. stage_behind next (seen ∷ [])) h ∙ alone (after_seen stage seen) ∙ e)
  where
    alone : (o : Result Stage ModelFault) → (o >>= λ next. Ok next) ≡ o
    alone (Ok next) = refl
    alone (Err f) = refl

pub dead_end : (xs : List Seen) (f : ModelFault) → stage_behind start xs ≡ Err f → IsDeadEnd xs
dead_end xs f h ys m spelled = never_both (xs ++ ys) nowhere_is m f spelled (stop_is_final xs ys nowhere_is f h)

pub beginning : (front : List Seen) (stage : Stage) → stage_behind start front ≡ Ok stage → Closes stage → IsBeginning front
beginning front stage at c = record { more = c.more; model = c.model; spelled = spells front c.more stage c.model at c.reads }
