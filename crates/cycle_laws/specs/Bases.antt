-- Bases, and the row that is maximized at a point.
use Rattle.std.specs.Prelude.{◌↔◌, ℕ, Contains}
use Rattle.frac128.specs.Fraction.{Fraction}
use Rattle.dictionary.specs.Dictionary.{Dictionary}
use Rattle.dictionary.specs.Rule.{maximized_row}
use Rattle.dictionary.specs.Solutions.{Point, total_at}

-- z, or w in phase one, at a point
abbrev pub maximized_at : Dictionary → Point → Fraction
maximized_at d x = total_at d x (maximized_row d)

-- The same variables are basic.
abbrev pub HasSameBasis : Dictionary → Dictionary → Type 0
HasSameBasis d e = (v : ℕ) → Contains d.basic v ↔ Contains e.basic v
