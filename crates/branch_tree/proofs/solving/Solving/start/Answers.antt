use Rattle.std.proofs.Common.{ap}
use Rattle.solve_defs.specs.Plain.{going}
use Rattle.branch_tree.proofs.Bounded.{bounded_at_start}
use Rattle.branch_tree.proofs.solving.Solving.start.Goals as goal

pub returns-clause-bounds : goal.returns-clause-bounds
returns-clause-bounds c = bounded_at_start c.of.result _ (ap (λ s. s.model) c.start.ensures) (ap (λ s. going s.search) c.start.ensures)
