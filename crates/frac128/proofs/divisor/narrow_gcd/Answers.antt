use Rattle.std.proofs.Common.{sym, inl, inr, ⊎_elim, ◌^◌, arith}
use Rattle.frac128.proofs.Divisors.{gcd-from_odd, gcd-with_zero}
use Rattle.frac128.proofs.divisor.narrow_gcd.Goals as goal

pub returns-then-a-eq0 : goal.returns-then-a-eq0
returns-then-a-eq0 c =
    rw c.max.ensures (sym (gcd-with_zero c.args.a c.args.b (⊎_elim (λ h. inl h) (λ h. inr h.1) c.then-a-eq0.either)))

pub returns : goal.returns
returns c =
    rw c.min.ensures
    (gcd-from_odd c.args.a c.args.b _ _ _ _ (2 ^ 64) _ (omega arith) c.ranges.a.fits c.narrow_without_twos-odd.ensures.odd c.narrow_without_twos-other_odd.ensures.odd
    c.narrow_without_twos-odd.ensures.whole c.narrow_without_twos-other_odd.ensures.whole c.narrow_odd_gcd.ensures)
