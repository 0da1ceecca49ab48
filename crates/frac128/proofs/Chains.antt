-- What operations and their chains have given where all of them fit.
use Rattle.std.proofs.Common.{◌≡◌, refl, ◌∙◌, ap, Bool, true, false, Result, Ok, Err}
use Rattle.frac128.specs.Checked.{checked_difference, checked_product, checked_quotient, checked_sum, less_product, plus_product, value_or_wide, ◌>>=◌}
use Rattle.frac128.specs.Fits.{difference_fits, product_fits, quotient_fits, sum_fits}
use Rattle.frac128.specs.Fraction.{Fraction, exact_difference, exact_product, exact_quotient, exact_sum}
use Rattle.frac128.specs.declared.operations.Op.{Op}
use Rattle.frac128.specs.declared.operations.Op.TheVariants.{Add, Div, Mul, Sub}

-- the value on the way, and what went on from it
pub record Through {A B E : Type 0} (m : Result A E) (f : A → Result B E) (b : B) : Type 0 where
  pub value : A
  pub first : m ≡ Ok value
  pub rest : f value ≡ Ok b

pub through : {A B E : Type 0} (m : Result A E) (f : A → Result B E) (b : B) → m >>= f ≡ Ok b → Through m f b
through (Ok a) f b h = record { value = a; first = refl; rest = h }
through (Err e) f b h = absurd cc

pub same_ok : {A E : Type 0} (a b : A) → ◌≡◌ {A = Result A E} (Ok a) (Ok b) → a ≡ b
same_ok a b h = cc

-- a value that fits is the exact one
pub fitting : (fits : Bool) (value : Fraction) (op : Op) (x y z : Fraction) → value_or_wide fits value op x y ≡ Ok z → z ≡ value
fitting true value op x y z h = cc
fitting false value op x y z h = absurd cc

pub sum_is : (x y z : Fraction) → checked_sum x y ≡ Ok z → z ≡ exact_sum x y
sum_is x y z h = fitting (sum_fits x y) (exact_sum x y) Add x y z h

pub difference_is : (x y z : Fraction) → checked_difference x y ≡ Ok z → z ≡ exact_difference x y
difference_is x y z h = fitting (difference_fits x y) (exact_difference x y) Sub x y z h

pub product_is : (x y z : Fraction) → checked_product x y ≡ Ok z → z ≡ exact_product x y
product_is x y z h = fitting (product_fits x y) (exact_product x y) Mul x y z h

pub quotient_is : (x y z : Fraction) → checked_quotient x y ≡ Ok z → z ≡ exact_quotient x y
quotient_is x y z h = fitting (quotient_fits x y) (exact_quotient x y) Div x y z h

pub less_product_is : (f x y z : Fraction) → less_product f x y ≡ Ok z → z ≡ exact_difference x (exact_product f y)
less_product_is f x y z h =
    let t = through (checked_product f y) (λ product. checked_difference x product) z h in
    difference_is x t.value z t.rest ∙ ap (exact_difference x) (product_is f y t.value t.first)

pub plus_product_is : (f x y z : Fraction) → plus_product f x y ≡ Ok z → z ≡ exact_sum x (exact_product f y)
plus_product_is f x y z h =
    let t = through (checked_product f y) (λ product. checked_sum x product) z h in
    sum_is x t.value z t.rest ∙ ap (exact_sum x) (product_is f y t.value t.first)
