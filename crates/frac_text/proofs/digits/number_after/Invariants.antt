use Rattle.std.proofs.Common.{◌≡◌, ◌<◌, drop}
use Rattle.frac128.specs.Numbers.{limit}
use Rattle.frac_text.specs.Digits.{number_after}
use Rattle.frac_text.proofs.digits.number_after.Given as goal

abbrev pub invariant-loop-digit : goal.invariant-loop-digit
invariant-loop-digit l = record { fits : l.number < limit; same : number_after l.number (drop l.digit-index l.digits) ≡ number_after l.fn.front l.digits }
