-- What a line of a certificate's text says, and how that is written.
use Rattle.std.specs.Prelude.{◌≡◌, ℕ, ◌^◌, ◌<◌, List, [], ◌∷◌, ◌++◌, flat_map, codes, decimal, pos, neg_ℤ, ◌≤ℤ◌, ◌<ℤ◌}
use Rattle.std.specs.Fmt.{signed_decimal}
use Rattle.frac128.specs.Lowest.{IsKept}
use Rattle.frac128.specs.Text.{canonical_text, space, wide_text}
use Rattle.cert_text.specs.declared.entry.Claim.{Claim}
use Rattle.cert_text.specs.declared.entry.Claim.TheVariants as claim
use Rattle.cert_text.specs.declared.entry.Entry.{Entry}
use Rattle.cert_text.specs.declared.entry.Entry.TheVariants as entry
use Rattle.cert_text.specs.declared.entry.Side.{Side}
use Rattle.cert_text.specs.declared.entry.Side.TheVariants as side
use Rattle.cert_text.specs.declared.entry.Vector.{Vector}
use Rattle.cert_text.specs.declared.entry.Vector.TheVariants as vector

abbrev pub vector_word : Vector → List ℕ
vector_word vector.X = codes "X"
vector_word vector.P = codes "P"
vector_word vector.D = codes "D"

abbrev pub claim_word : Claim → List ℕ
claim_word claim.Bound = codes "BOUND"
claim_word claim.Farkas = codes "FARKAS"

abbrev pub side_word : Side → List ℕ
side_word side.Row = codes "R"
side_word side.Lower = codes "L"
side_word side.Upper = codes "U"

-- The words of a line are separated by one space.
abbrev pub entry_text : Entry → List ℕ
entry_text (entry.Outcome status pivots nodes work) =
    codes "OUTCOME " ++ (decimal status ++ space ∷ (decimal pivots ++ space ∷ (decimal nodes ++ space ∷ decimal work)))
entry_text (entry.Value x) = codes "VALUE " ++ canonical_text x
entry_text (entry.Component vector x) = vector_word vector ++ space ∷ canonical_text x
entry_text (entry.Wide w) = codes "WIDE " ++ (decimal w.at ++ space ∷ wide_text w.wide)
entry_text entry.Nothing = codes "NONE"
entry_text entry.Ray = codes "RAY"
entry_text (entry.Split var k) = codes "SPLIT " ++ (decimal var ++ space ∷ signed_decimal k)
entry_text (entry.Leaf claim) = claim_word claim
entry_text (entry.Weight side w) = side_word side ++ space ∷ (decimal w.place ++ space ∷ canonical_text w.weight)
entry_text entry.End = codes "END"

-- a line is ended by a line feed
abbrev pub line : List ℕ → List ℕ
line text = text ++ codes "\n"

abbrev pub text_of : List Entry → List ℕ
text_of entries = flat_map (λ e. line (entry_text e)) entries

-- The numbers of an entry are of the types that the program has for them: 8, 32 or 64 bits for what is counted, 128 bits
-- for whole numbers and for the parts of a fraction, which is in lowest terms.
abbrev pub HasNumbers : Entry → Type 0
HasNumbers (entry.Outcome status pivots nodes work) = (status < 2 ^ 8) × (pivots < 2 ^ 64) × (nodes < 2 ^ 64) × (work < 2 ^ 64)
HasNumbers (entry.Value x) = IsKept x
HasNumbers (entry.Component vector x) = IsKept x
HasNumbers (entry.Wide w) = (w.at < 2 ^ 64) × IsKept w.wide.left × IsKept w.wide.right
HasNumbers (entry.Split var k) = (var < 2 ^ 32) × (neg_ℤ (pos (2 ^ 127)) ≤ℤ k) × (k <ℤ pos (2 ^ 127))
HasNumbers (entry.Weight side w) = (w.place < 2 ^ 32) × IsKept w.weight
HasNumbers _ = Unit {0}

abbrev pub HaveNumbers : List Entry → Type 0
HaveNumbers [] = Unit {0}
HaveNumbers (e ∷ es) = HasNumbers e × HaveNumbers es

-- The lines of these entries were added to a text, and they have their numbers.
pub record IsAdded (old new : List ℕ) (entries : List Entry) : Type 0 where
  pub text : new ≡ old ++ text_of entries
  pub numbers : HaveNumbers entries

-- what is printed of a refused line
abbrev pub fault_text : ℕ → List ℕ
fault_text number = codes "line " ++ (decimal number ++ codes " refused")
