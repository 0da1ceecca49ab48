-- The stage behind tokens that spell a model.
use Rattle.std.proofs.Common.{◌≡◌, sym, ◌∙◌, ap, List, [], append-nil, Result, Ok, Err}
use Rattle.frac128.specs.Checked.{◌>>=◌}
use Rattle.model_data.specs.declared.model.Model.{Model}
use Rattle.lp_defs.specs.declared.fault.ModelFault.{ModelFault}
use Rattle.lp_defs.specs.Grammar.{SpellsModel}
use Rattle.lp_defs.specs.Reading.{at_the_end, reading_from, stage_behind}
use Rattle.lp_defs.specs.Stage.{Stage, start, ended}
use Rattle.lp_defs.specs.Symbols.{Seen}
use Rattle.lp_defs.proofs.Agreement.{agreement, reading_behind}
use Rattle.lp_laws.proofs.Closing.{nowhere_is}

stage_ended : (stage : Stage) (m : Model) → at_the_end stage nowhere_is ≡ Ok m → stage ≡ ended m
stage_ended (ended n) m e = let is : n ≡ m = cc in ap ended is
stage_ended stage m e = absurd cc

ended_by : (o : Result Stage ModelFault) (m : Model) → (o >>= λ next. reading_from next [] nowhere_is) ≡ Ok m → o ≡ Ok (ended m)
unfolding reading_from
ended_by (Ok stage) m e = ap Ok (stage_ended stage m e)
ended_by (Err f) m e = absurd cc

pub spelled_ends : (xs : List Seen) (m : Model) → SpellsModel xs m → stage_behind start xs ≡ Ok (ended m)
spelled_ends xs m spelled =
    let whole = (agreement xs nowhere_is m).1 spelled in
    ended_by (stage_behind start xs) m
    (sym (reading_behind xs [] start nowhere_is) ∙ ap (λ xs. reading_from start xs nowhere_is) (append-nil xs) ∙ whole)
