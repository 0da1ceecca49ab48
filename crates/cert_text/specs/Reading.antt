-- Lines read from the left, as functions that compute.
use Rattle.std.specs.Prelude.{ℕ, ◌+◌, ◌^◌, ◌==◌, List, [], ◌∷◌, take, drop, bytes_eq, codes, find, position, ℤ, pos, neg_ℤ, Option, Some, None, option_map, Result, Ok, Err, if◌then◌else◌}
use Rattle.base_names.specs.Decimal.{below, decimal_of}
use Rattle.frac128.specs.Fraction.{Fraction}
use Rattle.frac128.specs.Text.{canonical_text, op_word}
use Rattle.frac128.specs.declared.operations.Op.{Op}
use Rattle.frac128.specs.declared.operations.Op.TheVariants.{Add, Sub, Mul, Div}
use Rattle.frac_text.specs.Reading.{reading}
use Rattle.frac_text.specs.declared.fault.NumFault.{NumFault}
use Rattle.model_data.specs.declared.solution.Weight.{Weight}
use Rattle.model_data.specs.declared.solution.WideAt.{WideAt}
use Rattle.cert_text.specs.Entries.{claim_word, side_word, vector_word}
use Rattle.cert_text.specs.declared.entry.Claim.TheVariants as claim
use Rattle.cert_text.specs.declared.entry.Entry.{Entry}
use Rattle.cert_text.specs.declared.entry.Entry.TheVariants as entry
use Rattle.cert_text.specs.declared.entry.Side.TheVariants as side
use Rattle.cert_text.specs.declared.entry.Vector.TheVariants as vector
use Rattle.cert_text.specs.declared.mark.Mark.{Mark}
use Rattle.cert_text.specs.declared.mark.Mark.TheVariants as mark

infixl 10 ◌>>=◌
abbrev pub ◌>>=◌ : {A B : Type 0} → Option A → (A → Option B) → Option B
◌>>=◌ (Some a) f = f a
◌>>=◌ None f = None

-- ---- numbers: only the one text that each has is read

abbrev pub written_as : List ℕ → Result Fraction NumFault → Option Fraction
written_as text (Ok x) = if bytes_eq text (canonical_text x) then Some x else None
written_as text (Err fault) = None

unfoldable pub fraction_of : List ℕ → Option Fraction
fraction_of text = written_as text (reading text)

-- the whole number of 128 bits that is no fraction of the program
abbrev pub least : ℤ
least = neg_ℤ (pos (2 ^ 127))

abbrev pub least_text : List ℕ
least_text = codes "-170141183460469231731687303715884105728"

abbrev pub whole_in : List ℕ → Option Fraction → Option ℤ
whole_in text (Some x) = if x.below == 0 then Some x.num else None
whole_in text None = if bytes_eq text least_text then Some least else None

unfoldable pub whole_of : List ℕ → Option ℤ
whole_of text = whole_in text (fraction_of text)

-- a number of so many bits
abbrev pub count_of : ℕ → List ℕ → Option ℕ
count_of bits text = below (2 ^ bits) (decimal_of text)

-- ---- words

abbrev pub parts_at : List ℕ → Option ℕ → Option (List ℕ × List ℕ)
parts_at text None = None
parts_at text (Some place) = Some (take place text, drop (place + 1) text)

-- what stands before the first space, and what behind it
unfoldable pub cut : List ℕ → Option (List ℕ × List ℕ)
cut text = parts_at text (position (λ byte. byte == 32) text)

abbrev pub mark_word : Mark → List ℕ
mark_word mark.Outcome = codes "OUTCOME"
mark_word mark.Value = codes "VALUE"
mark_word (mark.Component vector) = vector_word vector
mark_word mark.Wide = codes "WIDE"
mark_word mark.Nothing = codes "NONE"
mark_word mark.Ray = codes "RAY"
mark_word mark.Split = codes "SPLIT"
mark_word (mark.Leaf claim) = claim_word claim
mark_word (mark.Weight side) = side_word side
mark_word mark.End = codes "END"

abbrev pub head_marks : List Mark
head_marks =
    mark.Outcome ∷ mark.Value ∷ mark.Component vector.X ∷ mark.Wide ∷ mark.Nothing ∷ mark.Ray ∷ mark.Component vector.P
    ∷ mark.Component vector.D ∷ []

abbrev pub tree_marks : List Mark
tree_marks =
    mark.Split ∷ mark.Leaf claim.Bound ∷ mark.Leaf claim.Farkas ∷ mark.Weight side.Row ∷ mark.Weight side.Lower
    ∷ mark.Weight side.Upper ∷ mark.End ∷ []

abbrev pub head_mark_of : List ℕ → Option Mark
head_mark_of word = find (λ m. bytes_eq word (mark_word m)) head_marks

abbrev pub tree_mark_of : List ℕ → Option Mark
tree_mark_of word = find (λ m. bytes_eq word (mark_word m)) tree_marks

abbrev pub mark_or : Option Mark → Option Mark → Option Mark
mark_or (Some m) other = Some m
mark_or None other = other

abbrev pub mark_of : List ℕ → Option Mark
mark_of word = mark_or (head_mark_of word) (tree_mark_of word)

abbrev pub ops : List Op
ops = Add ∷ Sub ∷ Mul ∷ Div ∷ []

abbrev pub op_of : List ℕ → Option Op
op_of word = find (λ op. bytes_eq word (op_word op)) ops

-- ---- entries

-- what a line says that is one word
abbrev pub lone_entry : Mark → Option Entry
lone_entry mark.Nothing = Some entry.Nothing
lone_entry mark.Ray = Some entry.Ray
lone_entry (mark.Leaf claim) = Some (entry.Leaf claim)
lone_entry mark.End = Some entry.End
lone_entry _ = None

abbrev pub outcome_of : List ℕ → Option Entry
outcome_of text = do
  first ← cut text
  second ← cut first.1
  third ← cut second.1
  status ← count_of 8 first.0
  pivots ← count_of 64 second.0
  nodes ← count_of 64 third.0
  work ← count_of 64 third.1
  Some (entry.Outcome status pivots nodes work)

abbrev pub wide_of : List ℕ → Option WideAt
wide_of text = do
  first ← cut text
  second ← cut first.1
  third ← cut second.1
  at ← count_of 64 first.0
  op ← op_of second.0
  left ← fraction_of third.0
  right ← fraction_of third.1
  Some record { at = at; wide = record { op = op; left = left; right = right } }

abbrev pub split_of : List ℕ → Option Entry
split_of text = do
  parts ← cut text
  var ← count_of 32 parts.0
  k ← whole_of parts.1
  Some (entry.Split var k)

abbrev pub weight_of : List ℕ → Option Weight
weight_of text = do
  parts ← cut text
  place ← count_of 32 parts.0
  weight ← fraction_of parts.1
  Some record { place = place; weight = weight }

-- what a line says that begins with the mark and a space
abbrev pub entry_with : Mark → List ℕ → Option Entry
entry_with mark.Outcome rest = outcome_of rest
entry_with mark.Value rest = option_map (λ x. entry.Value x) (fraction_of rest)
entry_with (mark.Component vector) rest = option_map (λ x. entry.Component vector x) (fraction_of rest)
entry_with mark.Wide rest = option_map (λ w. entry.Wide w) (wide_of rest)
entry_with mark.Split rest = split_of rest
entry_with (mark.Weight side) rest = option_map (λ w. entry.Weight side w) (weight_of rest)
entry_with _ rest = None

abbrev pub entry_in : List ℕ → Option (List ℕ × List ℕ) → Option Entry
entry_in line None = mark_of line >>= lone_entry
entry_in line (Some parts) = mark_of parts.0 >>= λ m. entry_with m parts.1

-- what a line says
abbrev pub entry_of : List ℕ → Option Entry
entry_of line = entry_in line (cut line)
