-- Fractions compared by their parts.
use Rattle.std.proofs.Common.{◌≡◌, ap, ap₂, ℕ, ℤ, ◌==◌, arith}
use Rattle.std.specs.Bool.{Decides}
use Rattle.std.specs.Prelude.{◌&&◌}
use Rattle.std.specs.Ordering.{int_eq}
use Rattle.std.specs.Cmp.{Equal-is}
use Rattle.std.proofs.lemmas.Bool.Decides.{Decides-and, Decides-eqb, Decides-int_eq, Decides-like, same_from_decides}
use Rattle.frac128.specs.Fraction.{Fraction, den}
use Rattle.frac128.specs.Lowest.{IsKept}
use Rattle.frac128.specs.Order.{order_of}
use Rattle.frac128.proofs.Ordered.{order_of-equal}
use Rattle.solve_defs.specs.Values.{is_same}

equal_parts : (x y : Fraction) → (x.num ≡ y.num) × (den x ≡ den y) → x ≡ y
equal_parts x y p =
    let dens = p.1 in
    let below : x.below ≡ y.below = omega (arith, dens) in
    let make : ℤ → ℕ → Fraction = λ n d. record { num = n; below = d } in
    ap₂ make p.0 below

pub same_parts : (x y : Fraction) → IsKept x → IsKept y → (int_eq x.num y.num && (den x == den y)) ≡ is_same x y
same_parts x y left right =
    let order = order_of-equal x y left.nothing_in_common right.nothing_in_common in
    let by_parts : Decides (int_eq x.num y.num && (den x == den y)) ((x.num ≡ y.num) × (den x ≡ den y)) =
    Decides-and (int_eq x.num y.num) (den x == den y) (Decides-int_eq x.num y.num) (Decides-eqb (den x) (den y)) in
    same_from_decides _ _
    (Decides-like _ (equal_parts x y) (λ e. (ap (λ (z : Fraction). z.num) e, ap den e)) by_parts)
    (Decides-like _ order.0 order.1 (Equal-is (order_of x y)))
