-- How fractions, and operations that do not fit, are written.
use Rattle.std.specs.Prelude.{ℕ, zero, suc, List, [], ◌∷◌, ◌++◌, codes, decimal}
use Rattle.std.specs.Fmt.{signed_decimal}
use Rattle.frac128.specs.Fraction.{Fraction}
use Rattle.frac128.specs.declared.operations.Op.{Op}
use Rattle.frac128.specs.declared.operations.Op.TheVariants.{Add, Sub, Mul, Div}
use Rattle.frac128.specs.declared.operations.Wide.{Wide}

abbrev pub slash : ℕ
slash = 47

abbrev pub space : ℕ
space = 32

-- a slash and the denominator, where that is not 1
abbrev pub denominator_text : ℕ → List ℕ
denominator_text zero = []
denominator_text (suc below) = slash ∷ decimal (suc (suc below))

-- `p` where the denominator is 1, else `p/q`, without leading zeros, and with a minus before a number below 0
abbrev pub canonical_text : Fraction → List ℕ
canonical_text x = signed_decimal x.num ++ denominator_text x.below

abbrev pub op_word : Op → List ℕ
op_word Add = codes "ADD"
op_word Sub = codes "SUB"
op_word Mul = codes "MUL"
op_word Div = codes "DIV"

-- the operation, and its operands in order, as in `MUL 1000 1/3`
abbrev pub wide_text : Wide → List ℕ
wide_text w = op_word w.op ++ space ∷ (canonical_text w.left ++ space ∷ canonical_text w.right)
