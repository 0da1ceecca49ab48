use Rattle.lp_defs.proofs.Agreement.{never_both, stop_is_final}
use Rattle.lp_defs.specs.Symbols.{Spot}
use Rattle.lp_defs.proofs.grammar_laws.a_stop_is_final.Goals as goal

pub returns-clause-fault : goal.returns-clause-fault
returns-clause-fault c = stop_is_final

pub returns-clause-no_model : goal.returns-clause-no_model
returns-clause-no_model c = λ xs ys m f h s.
    let nowhere : Spot = record { line = 0; column = 0 } in
    never_both _ nowhere m f s (stop_is_final xs ys nowhere f h)
