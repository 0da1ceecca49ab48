use Rattle.std.proofs.Common.{subst, unwrap_or}
use Rattle.frac128.specs.Fraction.{zero_value}
use Rattle.frac128.specs.Order.{IsBelow}
use Rattle.dictionary.specs.Dictionary.{entry}
use Rattle.dictionary.proofs.Points.Bounded.{some_leaves}
use Rattle.dictionary.proofs.Points.Chosen.{entering-none, entering-some, leaving-none}
use Rattle.dictionary.proofs.laws.the_rule_tells_where_it_stops.Goals as goal

pub returns-clause-best : goal.returns-clause-best
returns-clause-best c = entering-none

pub returns-clause-unbounded : goal.returns-clause-unbounded
returns-clause-unbounded c d j rs shape phase enters is_ratios none =
    let known = entering-some d j enters in
    record {
      above = known.above;
      within = known.within;
      rise = subst (λ o. IsBelow zero_value (entry (unwrap_or o d.objective) j)) phase known.rise;
      free = leaving-none d j rs shape is_ratios none;
    }

pub returns-clause-phase_one : goal.returns-clause-phase_one
returns-clause-phase_one c = some_leaves
