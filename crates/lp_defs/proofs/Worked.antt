-- Texts at hand: the models that they spell, and the places at which they stop.
use Rattle.std.proofs.Common.{◌≡◌, refl, ℕ, List, [], ◌∷◌, map, codes, Some, None, Result, Ok, Err, ℤ, pos, negsuc}
use Rattle.std.specs.Fmt.{digits}
use Rattle.base_names.specs.declared.refusal.FaultWord.{FaultWord}
use Rattle.base_names.specs.declared.refusal.FaultWord.TheVariants.{Word, Number, DoubledName, NoSection, Unsupported, AfterEnd}
use Rattle.frac128.specs.Fraction.{Fraction, zero_value, lowest, exact_sum}
use Rattle.frac128.specs.Fits.{sum_fits}
use Rattle.frac128.specs.Numbers.{gcd, gcd_within}
use Rattle.frac_text.specs.Reading.{number_of}
use Rattle.model_data.specs.declared.model.Direction.{Direction}
use Rattle.model_data.specs.declared.model.Direction.TheVariants.{Minimize, Maximize}
use Rattle.model_data.specs.declared.model.Model.{Model}
use Rattle.model_data.specs.declared.model.Row.{Row}
use Rattle.model_data.specs.declared.model.Sense.{Sense}
use Rattle.model_data.specs.declared.model.Sense.TheVariants.{Less, Greater, Equal}
use Rattle.model_data.specs.declared.model.Term.{Term}
use Rattle.model_data.specs.declared.model.Var.{Var}
use Rattle.model_data.specs.declared.model.VarKind.TheVariants.{Continuous, Integer, Binary}
use Rattle.lp_defs.specs.declared.fault.ModelFault.{ModelFault}
use Rattle.lp_defs.specs.Items.{forbidden_after, items_of}
use Rattle.lp_defs.specs.Kinds.{symbol_of, quantity_of, section_of, name_of, label_of, kind_of}
use Rattle.lp_defs.specs.Reading.{reading_from}
use Rattle.lp_defs.specs.Text.{reading}
use Rattle.lp_defs.specs.Tokens.{behind_bytes, runs_from}

-- a text with what it is read as
record Example : Type 0 where
  text : List ℕ
  answer : Result Model ModelFault

abbrev stop : ℕ → ℕ → FaultWord → List ℕ → Example
stop line column fault text = record { text = text; answer = Err (record { line = line; column = column; fault = fault }) }

abbrev whole : ℤ → Fraction
whole n = record { num = n; below = 0 }

-- a variable with no bound of its own and with this coefficient in the objective
abbrev plain : List ℕ → ℤ → Var
plain text n = record { name = text; lower = Some zero_value; upper = None; obj = whole n; kind = Continuous; tag = None }

abbrev row : List ℕ → List Term → Sense → ℤ → Row
row text terms sense n = record { name = text; sense = sense; rhs = whole n; terms = terms }

abbrev term : ℕ → ℤ → Term
term place n = record { var = place; coef = whole n }

abbrev spelled : Direction → List Var → List Row → List ℕ → Example
spelled direction vars rows text = record { text = text; answer = Ok (record { direction = direction; constant = zero_value; vars = vars; rows = rows }) }

abbrev AreRead : List Example → Type 0
AreRead examples = map (λ e. reading e.text) examples ≡ map (λ e. e.answer) examples

-- A text that ends before its `end`, or begins with no objective word, has no section there.
ends_too_early : AreRead (
    stop 1 1 NoSection (codes "")
    ∷ stop 1 8 NoSection (codes "Max x +")
    ∷ stop 1 14 NoSection (codes "Max x st x <=")
    ∷ stop 1 7 NoSection (codes "Max x free st end")
    ∷ stop 1 1 NoSection (codes "x st end")
    ∷ stop 1 7 NoSection (codes "Max x Bounds")
    ∷ stop 1 14 NoSection (codes "Max x Subject")
    ∷ stop 2 1 NoSection (codes "Max x\n")
    ∷ [])
unfolding digits reading_from items_of runs_from behind_bytes kind_of symbol_of quantity_of section_of name_of label_of forbidden_after number_of lowest gcd gcd_within exact_sum sum_fits
ends_too_early = refl

-- A run that is no token has its own fault where it is reached, and a fault before it comes first.
no_tokens : AreRead (
    stop 1 1 Unsupported (codes "[x]")
    ∷ stop 1 1 Number (codes "2x st end")
    ∷ stop 1 1 Word (codes "<a> st end")
    ∷ stop 1 14 Unsupported (codes "Max x st end [")
    ∷ stop 1 7 Word (codes "Max x y [ st end")
    ∷ stop 5 5 Number (codes "Minimize\n x\nSubject To\n c: x+y >= 1\n d: 2x >= 1\nEnd\n")
    ∷ [])
unfolding digits reading_from items_of runs_from behind_bytes kind_of symbol_of quantity_of section_of name_of label_of forbidden_after number_of lowest gcd gcd_within exact_sum sum_fits
no_tokens = refl

-- Nothing follows `end`.
behind_the_end : AreRead (
    stop 1 14 AfterEnd (codes "Max x st end x")
    ∷ stop 1 14 AfterEnd (codes "Max x st end inf")
    ∷ stop 1 14 AfterEnd (codes "Max x st end end")
    ∷ [])
unfolding digits reading_from items_of runs_from behind_bytes kind_of symbol_of quantity_of section_of name_of label_of forbidden_after number_of lowest gcd gcd_within exact_sum sum_fits
behind_the_end = refl

-- An infinite number is at fault where a finite one stands, and elsewhere as any number.
infinite_numbers : AreRead (
    stop 1 7 Word (codes "Max x inf st end")
    ∷ stop 1 7 Number (codes "Max x +inf y st end")
    ∷ stop 1 19 Word (codes "Max x st Generals inf end")
    ∷ stop 1 22 Word (codes "Max x st Bounds 5 <= inf end")
    ∷ stop 1 15 Number (codes "Max x st x <= inf end")
    ∷ stop 1 5 Number (codes "Max 1e39 x st end")
    ∷ [])
unfolding digits reading_from items_of runs_from behind_bytes kind_of symbol_of quantity_of section_of name_of label_of forbidden_after number_of lowest gcd gcd_within exact_sum sum_fits
infinite_numbers = refl

-- Which comparisons are of a form that is not supported, and which fit nothing.
comparisons : AreRead (
    stop 1 17 Unsupported (codes "Max x st x <= 5 <= 6 end")
    ∷ stop 1 17 Unsupported (codes "Max x st c: - 3 <= x end")
    ∷ stop 1 12 Unsupported (codes "Max x st 3 <= x end")
    ∷ stop 1 19 Unsupported (codes "Max x st x <= 5 3 <= y end")
    ∷ stop 1 16 Word (codes "Max x st x + 3 <= 5 end")
    ∷ stop 1 12 Word (codes "Max x st + <= 5 end")
    ∷ stop 1 7 Word (codes "Max 3 <= x st end")
    ∷ [])
unfolding digits reading_from items_of runs_from behind_bytes kind_of symbol_of quantity_of section_of name_of label_of forbidden_after number_of lowest gcd gcd_within exact_sum sum_fits
comparisons = refl

-- A row of a name that is taken is refused as soon as its name is known.
doubled_names : AreRead (
    stop 1 21 DoubledName (codes "Max x st R1: x <= 1 y <= abc end")
    ∷ stop 1 21 DoubledName (codes "Max x st R1: x <= 1 y")
    ∷ stop 1 21 DoubledName (codes "Max x st R1: x <= 1 y [")
    ∷ stop 1 21 DoubledName (codes "Max x st R1: x <= 1 inf y <= 2")
    ∷ stop 1 17 DoubledName (codes "Max x st x <= 1 R0: x <= abc")
    ∷ stop 1 21 DoubledName (codes "Max x st a : x <= 1 a : x")
    ∷ [])
unfolding digits reading_from items_of runs_from behind_bytes kind_of symbol_of quantity_of section_of name_of label_of forbidden_after number_of lowest gcd gcd_within exact_sum sum_fits
doubled_names = refl

-- Two sign tokens never multiply; a section word out of place fits nothing.
signs_and_words : AreRead (
    stop 1 17 Word (codes "Max x st x <= - - 5 end")
    ∷ stop 1 9 Word (codes "Max x + + y st end")
    ∷ stop 1 7 Word (codes "Max x 5 st end")
    ∷ stop 1 9 Word (codes "Max x + Bounds")
    ∷ stop 1 10 Word (codes "Max x st free end")
    ∷ stop 1 10 Word (codes "Max x st st end")
    ∷ stop 1 17 Word (codes "Max x st Bounds st end")
    ∷ stop 1 15 Word (codes "Max x Subject y End")
    ∷ stop 1 15 Word (codes "Max x Subject End")
    ∷ stop 1 9 Word (codes "Max 5 x : y")
    ∷ [])
unfolding digits reading_from items_of runs_from behind_bytes kind_of symbol_of quantity_of section_of name_of label_of forbidden_after number_of lowest gcd gcd_within exact_sum sum_fits
signs_and_words = refl

-- Bounds: an infinite number on the wrong side, a number too wide for its size, a second comparison, a label.
bounds_that_stop : AreRead (
    stop 1 17 Number (codes "Max x st Bounds inf <= 5")
    ∷ stop 1 21 Word (codes "Max x st Bounds inf x")
    ∷ stop 1 19 Number (codes "Max x st Bounds - inf >= x")
    ∷ stop 1 21 Number (codes "Max x st Bounds x = 1e20")
    ∷ stop 1 17 Number (codes "Max x st Bounds 8e-39 y end")
    ∷ stop 1 22 Number (codes "Max x st Bounds x >= inf end")
    ∷ [])
unfolding digits reading_from items_of runs_from behind_bytes kind_of symbol_of quantity_of section_of name_of label_of forbidden_after number_of lowest gcd gcd_within exact_sum sum_fits
bounds_that_stop = refl

-- A bound has two comparisons only where both are less or both greater.
bounds_of_another_form : AreRead (
    stop 1 24 Word (codes "Max x st Bounds 1 <= x = 5 end")
    ∷ stop 1 23 Word (codes "Max x st Bounds 1 = x = 1 end")
    ∷ stop 1 24 Word (codes "Max x st Bounds 1 <= x >= 5 end")
    ∷ stop 1 24 Word (codes "Max x st Bounds x <= 5 <= 6 end")
    ∷ stop 1 19 Word (codes "Max x st Bounds x : 1")
    ∷ stop 1 21 Word (codes "Max x st Generals x :")
    ∷ [])
unfolding digits reading_from items_of runs_from behind_bytes kind_of symbol_of quantity_of section_of name_of label_of forbidden_after number_of lowest gcd gcd_within exact_sum sum_fits
bounds_of_another_form = refl

-- A sum that does not fit is at fault at its number, or at the name of a term without one.
sums_that_do_not_fit : AreRead (
    stop 1 49 Number (codes "Max 170141183460469231731687303715884105727 x + x st end")
    ∷ stop 1 47 Number (codes "Max 170141183460469231731687303715884105727 + 1 st end")
    ∷ stop 1 47 Number (codes "Max 170141183460469231731687303715884105727 + 1 [")
    ∷ stop 1 54 Number (codes "Max x st 170141183460469231731687303715884105727 y + 1 y [")
    ∷ [])
unfolding digits reading_from items_of runs_from behind_bytes kind_of symbol_of quantity_of section_of name_of label_of forbidden_after number_of lowest gcd gcd_within exact_sum sum_fits
sums_that_do_not_fit = refl

-- Terms of one name are added, a name behind a number is its term's on the next line too, and the label is dropped.
objectives : AreRead (
    spelled Maximize [] [] (codes "Max st end")
    ∷ spelled Maximize (plain (codes "x") (pos 3) ∷ [])
    []
    (codes "Max x + 2 x st end")
    ∷ spelled Maximize (plain (codes "x") (pos 5) ∷ [])
    []
    (codes "Max 5\nx st end")
    ∷ spelled Minimize (plain (codes "x") (pos 5) ∷ [])
    []
    (codes "min o: - -5 x st end")
    ∷ spelled Maximize (plain (codes "y") (pos 0) ∷ plain (codes "x") (pos 0) ∷ [])
    []
    (codes "MAX o : 0 y + x - x Such That End")
    ∷ spelled Maximize (plain (codes "x") (pos 1) ∷ [])
    []
    (codes "Max x Subject\\\nTO end")
    ∷ [])
unfolding digits reading_from items_of runs_from behind_bytes kind_of symbol_of quantity_of section_of name_of label_of forbidden_after number_of lowest gcd gcd_within exact_sum sum_fits
objectives = refl

-- A row may have no terms; its terms rise by variable and have no coefficient 0; rows without a label are named by their place.
rows_at_hand : AreRead (
    spelled Maximize (plain (codes "x") (pos 1) ∷ [])
    (row (codes "R0") [] Less (pos 5) ∷ [])
    (codes "Max x st <= 5 end")
    ∷ spelled Maximize (plain (codes "x") (pos 1) ∷ [])
    (row (codes "c") (term 0 (pos 1) ∷ []) Less (pos 5) ∷ row (codes "d") [] Less (pos 6) ∷ [])
    (codes "Max x st c: x <= 5 d: <= 6 end")
    ∷ spelled Maximize (plain (codes "x") (pos 1) ∷ plain (codes "y") (pos 0) ∷ plain (codes "z") (pos 0) ∷ [])
    (row (codes "R0") (term 0 (pos 2) ∷ term 1 (pos 2) ∷ []) Greater (pos 5) ∷ row (codes "R1") [] Equal (pos 1) ∷ [])
    (codes "Max x st y + 2 x + y >= - -5 0 z = 1 end")
    ∷ spelled Minimize (plain (codes "x") (pos 1) ∷ plain (codes "y") (pos 0) ∷ [])
    (row (codes "r1") (term 0 (pos 1) ∷ []) Less (pos 1) ∷ row (codes "R1") (term 0 (negsuc 0) ∷ term 1 (pos 1) ∷ []) Less (negsuc 1) ∷ row (codes "R2") [] Less (pos 3) ∷ [])
    (codes "Min x st r1: x <= 1 R1: y - x <= -2 y - y <= 3 end")
    ∷ [])
unfolding digits reading_from items_of runs_from behind_bytes kind_of symbol_of quantity_of section_of name_of label_of forbidden_after number_of lowest gcd gcd_within exact_sum sum_fits
rows_at_hand = refl

-- A later bound replaces an earlier one; a negative upper bound leaves the lower bound 0; a number far from 0 is infinite.
bounds_at_hand : AreRead (
    spelled Maximize (record (plain (codes "x") (pos 1)) { lower = Some (whole (pos 0)); upper = Some (whole (negsuc 0)); kind = Continuous } ∷ [])
    []
    (codes "Max x st Bounds x <= -1 end")
    ∷ spelled Maximize (record (plain (codes "x") (pos 1)) { lower = Some (whole (pos 1)); upper = Some (whole (pos 3)); kind = Continuous } ∷ [])
    []
    (codes "Max x st Bounds 1 <= x <= 5 x <= 3 end")
    ∷ spelled Maximize (record (plain (codes "x") (pos 1)) { lower = Some (whole (pos 1)); upper = Some (whole (pos 5)); kind = Continuous } ∷ [])
    []
    (codes "Max x st Bounds 5 >= x >= - -1 end")
    ∷ spelled Maximize (record (plain (codes "x") (pos 1)) { lower = Some (whole (pos 2)); upper = None; kind = Continuous } ∷ [])
    []
    (codes "Max x st Bounds 2 = x x <= 1e20 end")
    ∷ spelled Maximize (record (plain (codes "x") (pos 1)) { lower = None; upper = None; kind = Continuous } ∷ record (plain (codes "y") (pos 0)) { lower = None; upper = None; kind = Continuous } ∷ [])
    []
    (codes "Max x st Bounds x = 2 x free y >= -1e300 end")
    ∷ [])
unfolding digits reading_from items_of runs_from behind_bytes kind_of symbol_of quantity_of section_of name_of label_of forbidden_after number_of lowest gcd gcd_within exact_sum sum_fits
bounds_at_hand = refl

-- A later section replaces the kind that an earlier one gave, and sections come in any order.
kinds_at_hand : AreRead (
    spelled Maximize (record (plain (codes "x") (pos 1)) { lower = Some (whole (pos 0)); upper = Some (whole (pos 4)); kind = Integer } ∷ record (plain (codes "y") (pos 0)) { lower = Some (whole (pos 0)); upper = None; kind = Binary } ∷ [])
    []
    (codes "Max x st Generals x y Binaries y Bounds x <= 4 Gen end")
    ∷ spelled Maximize (record (plain (codes "x") (pos 1)) { lower = Some (whole (pos 0)); upper = None; kind = Integer } ∷ [])
    []
    (codes "Max x st Bin x General x end")
    ∷ [])
unfolding digits reading_from items_of runs_from behind_bytes kind_of symbol_of quantity_of section_of name_of label_of forbidden_after number_of lowest gcd gcd_within exact_sum sum_fits
kinds_at_hand = refl

-- Comments, a bound of two sides, and a variable with an ordinary name.
a_plan : AreRead (
    spelled Maximize
    (record (plain (codes "x") (pos 1)) { lower = Some (whole (pos 0)); upper = None; kind = Integer }
    ∷ record (plain (codes "y") (pos 2)) { lower = None; upper = Some (whole (pos 5)); kind = Continuous }
    ∷ record (plain (codes "Constant") (pos 3)) { lower = Some (whole (pos 1)); upper = Some (whole (pos 1)); kind = Continuous }
    ∷ [])
    (row (codes "c0") (term 0 (pos 1) ∷ term 1 (pos 1) ∷ []) Less (pos 4) ∷ [])
    (codes "\\ Model plan\n\\ LP format - for model browsing. Use MPS format to capture full model detail.\nMaximize\n  x + 2 y + 3 Constant\nSubject To\n c0: x + y <= 4\nBounds\n -infinity <= y <= 5\n Constant = 1\nGenerals\n x\nEnd\n")
    ∷ spelled Minimize (plain (codes "x") (pos 1) ∷ plain (codes "x+y") (pos 0) ∷ [])
    (row (codes "c") (term 1 (pos 1) ∷ []) Greater (pos 1) ∷ row (codes "d") (term 0 (pos 2) ∷ []) Greater (pos 1) ∷ [])
    (codes "Minimize\n x\nSubject To\n c: x+y >= 1\n d: 2 x > 1\nEnd\n")
    ∷ [])
unfolding digits reading_from items_of runs_from behind_bytes kind_of symbol_of quantity_of section_of name_of label_of forbidden_after number_of lowest gcd gcd_within exact_sum sum_fits
a_plan = refl
