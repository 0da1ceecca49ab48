-- What goes with a tree.
use Rattle.std.specs.Prelude.{Bool, not, ◌==◌, ◌&&◌, ◌||◌, is_some, is_none, List}
use Rattle.std.specs.List.{list_any}
use Rattle.model_data.specs.declared.solution.CertNode.{CertNode}
use Rattle.model_data.specs.declared.solution.Outcome.{Outcome}
use Rattle.solve_defs.specs.Certificates.{is_bound}
use Rattle.solve_defs.specs.declared.status.TheConstants.{INFEASIBLE, OPTIMAL}

abbrev pub goes_with_tree : Outcome → List CertNode → Bool
goes_with_tree o nodes =
    (o.status == OPTIMAL && is_some o.point) || (o.status == INFEASIBLE && is_none o.point && not (list_any is_bound nodes))
