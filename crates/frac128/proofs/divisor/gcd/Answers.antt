use Rattle.std.proofs.Common.{◌∙◌, sym, inl, inr, ⊎_elim}
use Rattle.frac128.proofs.Divisors.{gcd-rest, gcd-with_one, gcd-with_zero, gcd_comm}
use Rattle.frac128.proofs.divisor.gcd.Goals as goal

pub returns-then-a-eq1 : goal.returns-then-a-eq1
returns-then-a-eq1 c = sym (gcd-with_one c.args.a c.args.b (⊎_elim (λ h. inl h) (λ h. inr h.1) c.then-a-eq1.either))

pub returns-then-a-eq0 : goal.returns-then-a-eq0
returns-then-a-eq0 c =
    rw c.max.ensures (sym (gcd-with_zero c.args.a c.args.b (⊎_elim (λ h. inl h) (λ h. inr h.1) c.then-a-eq0.either)))

pub returns-then-a-le-NARROW-2 : goal.returns-then-a-le-NARROW-2
returns-then-a-le-NARROW-2 c =
    c.narrow_gcd-then-a-le-NARROW-2.ensures ∙ gcd-rest c.args.b c.args.a ∙ gcd_comm c.args.b c.args.a

pub returns-then-b-le-NARROW-2 : goal.returns-then-b-le-NARROW-2
returns-then-b-le-NARROW-2 c = c.narrow_gcd-then-b-le-NARROW-2.ensures ∙ gcd-rest c.args.a c.args.b
