-- What exact pivots by the rule keep.
use Rattle.std.proofs.Common.{◌≡◌, ◌↔◌, ℕ}
use Rattle.frac128.specs.Order.{IsAtMost}
use Rattle.dictionary.specs.Dictionary.{Dictionary, entry}
use Rattle.dictionary.specs.ExactPath.{ExactPath, ExactStep, further, here}
use Rattle.dictionary.specs.Rule.{maximized_row}
use Rattle.dictionary.specs.Solutions.{HasFeasibleConstants, IsLawful, Point, Solves, own_point}
use Rattle.cycle_laws.specs.Bases.{maximized_at}
use Rattle.cycle_laws.proofs.Bases.{own_point_after}
use Rattle.cycle_laws.proofs.Steps.{degenerate, feasible_after, lawful_after, rises_after, solutions_after, step_of, value_after}

pub step_lawful : (d e : Dictionary) → IsLawful d → ExactStep d e → IsLawful e
step_lawful d e lawful h = lawful_after d e lawful (step_of d e lawful h)

pub step_feasible : (d e : Dictionary) → IsLawful d → HasFeasibleConstants d → ExactStep d e → HasFeasibleConstants e
step_feasible d e lawful constants h = feasible_after d e lawful constants (step_of d e lawful h)

pub step_solutions : (d e : Dictionary) (x : Point) → IsLawful d → ExactStep d e → Solves d x ↔ Solves e x
step_solutions d e x lawful h = solutions_after d e x lawful (step_of d e lawful h)

pub step_values : (d e : Dictionary) (x : Point) → IsLawful d → ExactStep d e → Solves d x → maximized_at d x ≡ maximized_at e x
step_values d e x lawful h = value_after d e x lawful (step_of d e lawful h)

pub step_rises : (d e : Dictionary) → IsLawful d → HasFeasibleConstants d → ExactStep d e → IsAtMost (entry (maximized_row d) 0) (entry (maximized_row e) 0)
step_rises d e lawful constants h = rises_after d e lawful constants (step_of d e lawful h)

pub step_stays : (d e : Dictionary) → IsLawful d → ExactStep d e → entry (maximized_row d) 0 ≡ entry (maximized_row e) 0 → (v : ℕ) → own_point d v ≡ own_point e v
step_stays d e lawful h same =
    let s = step_of d e lawful h in
    own_point_after d e lawful (lawful_after d e lawful s) s (degenerate d e lawful s same)

-- ---- a path

pub record IsSound (d : Dictionary) : Type 0 where
  pub lawful : IsLawful d
  pub constants : HasFeasibleConstants d

pub path_sound : {d e : Dictionary} {k : ℕ} → IsLawful d → HasFeasibleConstants d → ExactPath d k e → IsSound e
path_sound lawful constants here = record { lawful = lawful; constants = constants }
path_sound lawful constants (further {e = e} {f = f} path step) =
    let before = path_sound lawful constants path in
    record { lawful = step_lawful e f before.lawful step; constants = step_feasible e f before.lawful before.constants step }
