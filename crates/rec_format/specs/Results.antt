-- The bytes of what a batch found.
use Rattle.std.specs.Prelude.{ℕ, ◌==◌, if◌then◌else◌}
use Rattle.std.specs.Prelude.{Option, Some, None}
use Rattle.frac128.specs.declared.operations.Op.{Op}
use Rattle.frac128.specs.declared.operations.Op.TheVariants.{Add, Div, Mul, Sub}
use Rattle.model_data.specs.declared.batch.BatchResult.{BatchResult}
use Rattle.model_data.specs.declared.solution.Point.{Point}
use Rattle.model_data.specs.declared.solution.WideAt.{WideAt}
use Rattle.rec_format.specs.Format.{Format, both, fields, list_of, number, optional, text}
use Rattle.rec_format.specs.Models.{coded, fraction}

abbrev pub point : Format Point
point = fields (both (list_of 4 fraction) fraction) (λ p. record { xs = p.0; value = p.1 }) (λ p. (p.xs, p.value))

abbrev pub op_of : ℕ → Option Op
op_of n = if n == 0 then Some Add else (if n == 1 then Some Sub else (if n == 2 then Some Mul else (if n == 3 then Some Div else None)))

abbrev pub op_code : Op → ℕ
op_code Add = 0
op_code Sub = 1
op_code Mul = 2
op_code Div = 3

abbrev pub op : Format Op
op = coded op_of op_code

abbrev pub wide : Format WideAt
wide = fields (both (number 8) (both op (both fraction fraction)))
    (λ p. record { at = p.0; wide = record { op = p.1.0; left = p.1.1.0; right = p.1.1.1 } })
    (λ w. (w.at, (w.wide.op, (w.wide.left, w.wide.right))))

abbrev pub found : Format BatchResult
found = fields (both (number 1) (both (number 8) (both (number 8) (both (number 8) (both (optional point) (both (optional wide) (optional (text 4))))))))
    (λ p. record {
      outcome = record { status = p.0; pivots = p.1.0; nodes = p.1.1.0; work = p.1.1.1.0; point = p.1.1.1.1.0; wide = p.1.1.1.1.1.0 };
      cert = p.1.1.1.1.1.1;
    })
    (λ r. (r.outcome.status, (r.outcome.pivots, (r.outcome.nodes, (r.outcome.work, (r.outcome.point, (r.outcome.wide, r.cert)))))))
