-- Values by the indices of variables, and the lines of a tableau.
use Rattle.std.specs.Prelude.{[], ℕ, suc, ◌+◌, ◌==◌, List, length, Option, Some, None, unwrap_or, if◌then◌else◌}
use Rattle.frac128.specs.Fraction.{Fraction, zero_value}
use Rattle.dictionary.specs.Dictionary.{Dictionary, entry, row_at}

-- the values, but this one of a variable
abbrev pub replaced : ℕ → Fraction → (ℕ → Fraction) → ℕ → Fraction
replaced variable x values v = if variable == v then x else values v

-- the entry in column c of the row at this place, where there is one
abbrev pub entry_in : Dictionary → ℕ → Option ℕ → Fraction
entry_in d c None = zero_value
entry_in d c (Some place) = entry (row_at d.rows (suc place)) c

-- the objective of this line of a tableau: z behind the basic variables' rows, and w behind z
abbrev pub line_at : Dictionary → ℕ → List Fraction
line_at d line = if line == length d.basic + 2 then unwrap_or d.auxiliary [] else d.objective
