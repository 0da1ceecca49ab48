use Rattle.lp_laws.proofs.Texts.{either, never_both, one}
use Rattle.lp_laws.proofs.faults.one_fault.Goals as goal

pub returns-clause-either : goal.returns-clause-either
returns-clause-either c = either

pub returns-clause-never_both : goal.returns-clause-never_both
returns-clause-never_both c = never_both

pub returns-clause-one : goal.returns-clause-one
returns-clause-one c = one
