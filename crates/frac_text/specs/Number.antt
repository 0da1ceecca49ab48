-- Number texts in their parts, and what they spell.
use Rattle.std.specs.Prelude.{ℕ, ◌*◌, ◌^◌, ◌<◌, suc, Bool, ◌&&◌, not, List, ◌++◌, length, ℤ, pos, negsuc, ◌-ℤ◌, neg_ℤ, ◌≤ℤ◌, Result, Ok, Err, nat_lt, nat_le, if◌then◌else◌}
use Rattle.frac128.specs.Fraction.{Fraction, lowest}
use Rattle.frac128.specs.Numbers.{is_below_limit, limit, signed}
use Rattle.frac128.specs.declared.limits.TheConstants.{HUGE}
use Rattle.frac_text.specs.Digits.{number, without_last_zeros}
use Rattle.frac_text.specs.declared.fault.NumFault.{NumFault}
use Rattle.frac_text.specs.declared.fault.NumFault.TheVariants.{TooWide}

-- A number text in its parts, each run of digits as it is written. The flag says that a minus stands in front.
pub data Number : Type 0 where
  -- the digits before the point, those behind it, and the exponent, which is 0 where there is none
  decimal : Bool → List ℕ → List ℕ → ℤ → Number
  -- the digits before the slash, and those behind it
  ratio : Bool → List ℕ → List ℕ → Number

-- The parts of a number before any reduction: over / under in size, and the sign.
pub record Parts : Type 0 where
  pub negative : Bool
  pub over : ℕ
  pub under : ℕ

-- n * 10 ^ tens is tens_over n tens / tens_under tens
abbrev pub tens_over : ℕ → ℤ → ℕ
tens_over n (pos tens) = n * 10 ^ tens
tens_over n (negsuc tens) = n

abbrev pub tens_under : ℤ → ℕ
tens_under (pos tens) = 1
tens_under (negsuc tens) = 10 ^ suc tens

abbrev pub with_tens : Bool → ℕ → ℤ → Parts
with_tens negative n tens = record { negative = negative; over = tens_over n tens; under = tens_under tens }

-- Zeros at the end of the digits behind the point are left out first. Each digit that is left behind the point is a
-- tenth of the one before it.
abbrev pub parts_of : Number → Parts
parts_of (decimal negative whole behind exponent) =
    let kept = without_last_zeros behind in
    with_tens negative (number (whole ++ kept)) (exponent -ℤ pos (length kept))
parts_of (ratio negative over under) = record { negative = negative; over = number over; under = number under }

-- both parts are below the limit
abbrev pub FitsParts : Parts → Type 0
FitsParts p = (p.over < limit) × (p.under < limit)

-- a part reaches the limit, and the value isn't 0
abbrev pub is_too_wide : Parts → Bool
is_too_wide p = nat_lt 0 p.over && not (is_below_limit p.over && is_below_limit p.under)

-- the size is at least 10 ^ 20
abbrev pub is_huge : Parts → Bool
is_huge p = nat_le (p.under * HUGE) p.over

-- the value, in lowest terms
abbrev pub value_of : Parts → Fraction
value_of p = lowest (signed p.negative p.over) p.under

-- the value where no part is too wide, else the sign and whether the size is huge
abbrev pub outcome_of : Parts → Result Fraction NumFault
outcome_of p = if is_too_wide p then Err (TooWide p.negative (is_huge p)) else Ok (value_of p)

-- the range of exponents of at most 4 digits
abbrev pub IsInExponents : ℤ → Type 0
IsInExponents exponent = (neg_ℤ (pos 9999) ≤ℤ exponent) × (exponent ≤ℤ pos 9999)

-- the same, less the count of the digits behind the point, of which a text has at most 255
abbrev pub IsInTens : ℤ → Type 0
IsInTens tens = (neg_ℤ (pos 10254) ≤ℤ tens) × (tens ≤ℤ pos 9999)
