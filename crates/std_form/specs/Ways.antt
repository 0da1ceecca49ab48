-- What a variable's value is made of its columns' values by.
use Rattle.std.specs.Prelude.{Result}
use Rattle.frac128.specs.Fraction.{Fraction}
use Rattle.frac128.specs.declared.operations.Wide.{Wide}
use Rattle.solve_defs.specs.StandardForm.{Shape, point_value, ray_value}
use Rattle.std_form.specs.declared.point.Way.{Way}
use Rattle.std_form.specs.declared.point.Way.TheVariants.{Point, Ray}

abbrev pub value_by : Way → Shape → Fraction → Fraction → Result Fraction Wide
value_by Point = point_value
value_by Ray = ray_value
