use Rattle.search_laws.proofs.KeptCuts.{cuts_kept}
use Rattle.search_laws.proofs.split_laws.the_cuts_of_a_search_fit.Goals as goal

pub returns : goal.returns
returns c = cuts_kept
