-- What the program's words for what comes next mean.
use Rattle.std.specs.Prelude.{ℕ, Option, Some, None}
use Rattle.dictionary.specs.Dictionary.{Dictionary}
use Rattle.solve_defs.specs.Path as defs
use Rattle.bland_rule.specs.declared.entering.Coming.{Coming}
use Rattle.bland_rule.specs.declared.entering.Coming.TheVariants.{End, Pivot}
use Rattle.bland_rule.specs.declared.entering.Entering.{Entering}
use Rattle.bland_rule.specs.declared.entering.Entering.TheVariants.{Artificial, ByRule}

abbrev pub entering_of : Entering → defs.Entering
entering_of Artificial = defs.artificial
entering_of (ByRule c) = defs.by_rule c

abbrev pub coming_of : Coming → defs.Coming
coming_of (Pivot entering) = defs.a_pivot (entering_of entering)
coming_of (End e) = defs.an_end e

-- the work of the pivot that comes next, where one comes
abbrev pub work_of : defs.Coming → Dictionary → Option ℕ
work_of (defs.a_pivot entering) d = Some (defs.entry_count d)
work_of (defs.an_end e) d = None
