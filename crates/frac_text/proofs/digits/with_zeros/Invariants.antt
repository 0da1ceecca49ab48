use Rattle.std.proofs.Common.{◌≡◌, ◌<◌, ◌*◌, ◌^◌}
use Rattle.frac128.specs.Numbers.{limit}
use Rattle.frac_text.proofs.digits.with_zeros.Given as goal

abbrev pub invariant-loop : goal.invariant-loop
invariant-loop l = record { fits : l.longer < limit; same : l.longer ≡ l.fn.number * 10 ^ l.counter }
