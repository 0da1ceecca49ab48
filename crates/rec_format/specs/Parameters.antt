-- The bytes of parameters.
use Rattle.std.specs.Prelude.{ℕ, ◌≤◌, Bool, nat_le, ℤ, unsigned_abs}
use Rattle.std.specs.Int.{cast_signed, cast_unsigned, w8}
use Rattle.model_data.specs.declared.limits.TheConstants.{MAX_DETAIL, MAX_ITERATIONS, MAX_NODES, MAX_PRIORITY, MAX_WORK}
use Rattle.model_data.specs.declared.params.Params.{Params}
use Rattle.rec_format.specs.Format.{Format, both, fields, number, only, picked, that}

-- a number of n bytes that is at most so great
abbrev pub limited : ℕ → ℕ → Format ℕ
limited n most = that (number n) (λ x. nat_le x most)

abbrev pub is_priority : ℤ → Bool
is_priority z = nat_le (unsigned_abs z) (unsigned_abs MAX_PRIORITY)

-- in two's complement
abbrev pub priority : Format ℤ
priority = picked (number 1) (λ z. unsigned_abs z ≤ unsigned_abs MAX_PRIORITY) (λ n. only is_priority (cast_signed w8 n)) (cast_unsigned w8)

abbrev pub params : Format Params
params = fields (both (limited 8 MAX_ITERATIONS) (both (limited 8 MAX_NODES) (both (limited 8 MAX_WORK) (both priority (limited 1 MAX_DETAIL)))))
    (λ p. record { iterations = p.0; nodes = p.1.0; work = p.1.1.0; priority = p.1.1.1.0; detail = p.1.1.1.1 })
    (λ r. (r.iterations, (r.nodes, (r.work, (r.priority, r.detail)))))
