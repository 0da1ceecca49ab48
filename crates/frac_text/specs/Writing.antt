-- The one text that is written for a value, and that of its size.
use Rattle.std.specs.Prelude.{ℕ, List, ◌++◌, decimal, unsigned_abs}
use Rattle.frac128.specs.Fraction.{Fraction}
pub use Rattle.frac128.specs.Text.{canonical_text, denominator_text}

-- the canonical text of the size of a value, without a sign
abbrev pub size_text : Fraction → List ℕ
size_text x = decimal (unsigned_abs x.num) ++ denominator_text x.below
