-- What is told of a verdict.
use Rattle.std.specs.Prelude.{ℕ, zero, suc, List, [], ◌++◌, codes, decimal}
use Rattle.solve_defs.specs.declared.verdict.Place.{Place}
use Rattle.solve_defs.specs.declared.verdict.Place.TheVariants.{LeafSide, LeafSign, LeafSum, PointBound, PointInteger, PointRow, PointValue, RayBound, RayGain, RayRow, Shape}
use Rattle.solve_defs.specs.declared.verdict.Verdict.{Verdict}
use Rattle.solve_defs.specs.declared.verdict.Verdict.TheVariants.{Invalid, TooWide, Valid}

-- the letter of a row, of a lower bound, and of an upper one
abbrev pub side_letter : ℕ → List ℕ
side_letter zero = codes "R"
side_letter (suc zero) = codes "L"
side_letter (suc (suc _)) = codes "U"

abbrev pub place_text : Place → List ℕ
place_text Shape = codes "SHAPE"
place_text (PointRow number) = codes "POINT ROW " ++ decimal number
place_text (PointBound number) = codes "POINT BOUND " ++ decimal number
place_text (PointInteger number) = codes "POINT INTEGER " ++ decimal number
place_text PointValue = codes "POINT VALUE"
place_text (LeafSign leaf side number) = codes "LEAF " ++ (decimal leaf ++ (codes " SIGN " ++ (side_letter side ++ (codes " " ++ decimal number))))
place_text (LeafSum leaf number) = codes "LEAF " ++ (decimal leaf ++ (codes " SUM " ++ decimal number))
place_text (LeafSide leaf) = codes "LEAF " ++ (decimal leaf ++ codes " SIDE")
place_text (RayRow number) = codes "RAY ROW " ++ decimal number
place_text (RayBound number) = codes "RAY BOUND " ++ decimal number
place_text RayGain = codes "RAY GAIN"

-- A line for a certificate that is valid, or isn't; nothing for one that can't be checked.
abbrev pub verdict_text : Verdict → List ℕ
verdict_text Valid = codes "VALID\n"
verdict_text (Invalid place) = codes "INVALID " ++ (place_text place ++ codes "\n")
verdict_text (TooWide wide) = []
