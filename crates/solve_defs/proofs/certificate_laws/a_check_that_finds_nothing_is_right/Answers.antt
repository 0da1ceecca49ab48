use Rattle.solve_defs.specs.Certificates.{looks, verdict}
use Rattle.solve_defs.proofs.LeafLooks.{valid_holds}
use Rattle.solve_defs.proofs.certificate_laws.a_check_that_finds_nothing_is_right.Goals as goal

pub returns : goal.returns
unfolding verdict
returns c m o cert shown = valid_holds (looks m o cert) shown
