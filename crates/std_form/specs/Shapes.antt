-- What the program's shapes of variables are, and how a variable's coefficient stands among those of the columns.
use Rattle.std.specs.Prelude.{ℕ, suc, List, slice_set}
use Rattle.frac128.specs.Fraction.{Fraction, negation}
use Rattle.solve_defs.specs.StandardForm as defs
use Rattle.std_form.specs.declared.shape.Shape.{Shape}
use Rattle.std_form.specs.declared.shape.Shape.TheVariants.{Free, Mirrored, Shifted}

abbrev pub shape_of : Shape → defs.Shape
shape_of (Shifted lower upper) = defs.shifted lower upper
shape_of (Mirrored upper) = defs.mirrored upper
shape_of Free = defs.free

-- the coefficients of all columns, with those of a variable from this column on
abbrev pub with_entries : ℕ → defs.Shape → Fraction → List Fraction → List Fraction
with_entries column (defs.shifted lower upper) x coefs = slice_set coefs column x
with_entries column (defs.mirrored upper) x coefs = slice_set coefs column (negation x)
with_entries column defs.free x coefs = slice_set (slice_set coefs column x) (suc column) (negation x)
