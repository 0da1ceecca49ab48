use Rattle.std.proofs.Common.{◌≡◌, refl, sym, ap, ℤ, pos, negsuc, ◌==◌, Bool, true, false, unsigned_abs, IsTrue, ◌↔◌, arith}
use Rattle.std.proofs.lemmas.Bool.{false≢true, ne_eqb}
use Rattle.model_core.proofs.terms.is_zero.Goals as goal

zero_size : (z : ℤ) → unsigned_abs z ≡ 0 → z ≡ pos 0
zero_size (pos n) e = ap pos e
zero_size (negsuc n) e = absurd (omega (arith, e))

told : (b : Bool) (z : ℤ) → (IsTrue b ↔ (z ≡ pos 0)) → b ≡ (unsigned_abs z == 0)
told true z e = sym (ap (λ (w : ℤ). unsigned_abs w == 0) (e.0 refl))
told false z e = sym (ne_eqb (unsigned_abs z) 0 (λ zero. false≢true (e.1 (zero_size z zero))))

pub returns : goal.returns
returns c = told c.is_zero.result c.args.x.now.num c.is_zero.ensures
