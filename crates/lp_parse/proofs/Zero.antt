-- A number that is added to 0.
use Rattle.std.proofs.Common.{◌≡◌, ◌∙◌, ap, Option, Some, None}
use Rattle.std.proofs.lemmas.Bool.{cond-true}
use Rattle.frac128.specs.Fits.{sum_fits}
use Rattle.frac128.specs.Fraction.{Fraction, exact_sum, zero_value}
use Rattle.frac128.specs.Lowest.{IsKept}
use Rattle.frac128.proofs.Field.{exact_sum-zero_left}
use Rattle.frac128.proofs.Kept.{FitsSum-zero_left}
use Rattle.lp_defs.specs.Quantity.{added}

pub zero_added : (x : Fraction) → IsKept x → added zero_value x ≡ Some x
zero_added x kept =
    cond-true {A = Option Fraction} (sum_fits zero_value x) (Some (exact_sum zero_value x)) None (FitsSum-zero_left x kept)
    ∙ ap Some (exact_sum-zero_left x kept.nothing_in_common)

pub added_to : (so_far x : Fraction) → so_far ≡ zero_value → IsKept x → added so_far x ≡ Some x
added_to so_far x none kept = ap (λ (z : Fraction). added z x) none ∙ zero_added x kept
