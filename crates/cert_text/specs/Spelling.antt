-- The text of an outcome with its certificate, and the first bad line of a text that is none.
use Rattle.std.specs.Prelude.{◌≡◌, ℕ, suc, ◌==◌, Bool, true, not, ◌&&◌, nat_lt, List, [], ◌∷◌, ◌++◌, length, map, flat_map, Option, Some, None, is_some, Result, Ok, Err}
use Rattle.std.specs.List.{list_all}
use Rattle.base_names.specs.declared.memory.OrMemory.{OrMemory}
use Rattle.base_names.specs.declared.memory.OrMemory.TheVariants.{Fault, NoMemory}
use Rattle.frac128.specs.Fraction.{Fraction}
use Rattle.model_data.specs.declared.solution.Cert.{Cert}
use Rattle.model_data.specs.declared.solution.Cert.TheVariants.{Nothing, Ray, Tree}
use Rattle.model_data.specs.declared.solution.CertNode.{CertNode}
use Rattle.model_data.specs.declared.solution.CertNode.TheVariants.{Split, Bound, Farkas}
use Rattle.model_data.specs.declared.solution.Outcome.{Outcome}
use Rattle.model_data.specs.declared.solution.Point.{Point}
use Rattle.model_data.specs.declared.solution.Weight.{Weight}
use Rattle.model_data.specs.declared.solution.Weights.{Weights}
use Rattle.model_data.specs.declared.solution.WideAt.{WideAt}
use Rattle.solve_defs.specs.Certificates.{are_whole}
use Rattle.solve_defs.specs.Values.{is_zero}
use Rattle.solve_defs.specs.declared.status.TheConstants.{NUMERIC}
use Rattle.cert_text.specs.Entries.{HaveNumbers, line, text_of}
use Rattle.cert_text.specs.declared.entry.Claim.TheVariants as claim
use Rattle.cert_text.specs.declared.entry.Entry.{Entry}
use Rattle.cert_text.specs.declared.entry.Entry.TheVariants as entry
use Rattle.cert_text.specs.declared.entry.Side.TheVariants as side
use Rattle.cert_text.specs.declared.entry.Vector.{Vector}
use Rattle.cert_text.specs.declared.entry.Vector.TheVariants as vector
use Rattle.cert_text.specs.declared.proof.CertFault.{CertFault}
use Rattle.cert_text.specs.declared.proof.Proof.{Proof}

-- ---- the entries

abbrev pub components : Vector → List Fraction → List Entry
components vector xs = map (entry.Component vector) xs

-- the value of the point that is kept, and then the variables at it
abbrev pub point_entries : Option Point → List Entry
point_entries None = []
point_entries (Some point) = entry.Value point.value ∷ components vector.X point.xs

abbrev pub wide_entries : Option WideAt → List Entry
wide_entries None = []
wide_entries (Some wide) = entry.Wide wide ∷ []

abbrev pub outcome_entries : Outcome → List Entry
outcome_entries o = entry.Outcome o.status o.pivots o.nodes o.work ∷ (point_entries o.point ++ wide_entries o.wide)

-- rows, then lower bounds, then upper bounds
abbrev pub weight_entries : Weights → List Entry
weight_entries ws = map (entry.Weight side.Row) ws.rows ++ (map (entry.Weight side.Lower) ws.lows ++ map (entry.Weight side.Upper) ws.ups)

abbrev pub node_entries : CertNode → List Entry
node_entries (Split var k) = entry.Split var k ∷ []
node_entries (Bound ws) = entry.Leaf claim.Bound ∷ weight_entries ws
node_entries (Farkas ws) = entry.Leaf claim.Farkas ∷ weight_entries ws

-- all lines of a ray's point stand before those of its direction; a tree has its nodes in preorder
abbrev pub cert_entries : Cert → List Entry
cert_entries Nothing = entry.Nothing ∷ []
cert_entries (Ray point direction) = entry.Ray ∷ (components vector.P point ++ components vector.D direction)
cert_entries (Tree nodes) = flat_map node_entries nodes

abbrev pub entries : Outcome → Cert → List Entry
entries o c = outcome_entries o ++ (cert_entries c ++ entry.End ∷ [])

-- ---- what can be written

-- weights that aren't 0, with numbers that rise from above the given one
abbrev pub are_rising : ℕ → List Weight → Bool
are_rising number [] = true
are_rising number (w ∷ ws) = nat_lt number w.place && not (is_zero w.weight) && are_rising w.place ws

abbrev pub are_lawful : Weights → Bool
are_lawful ws = are_rising 0 ws.rows && are_rising 0 ws.lows && are_rising 0 ws.ups

abbrev pub is_lawful_node : CertNode → Bool
is_lawful_node (Split var k) = true
is_lawful_node (Bound ws) = are_lawful ws
is_lawful_node (Farkas ws) = are_lawful ws

-- a tree is whole
abbrev pub is_lawful_cert : Cert → Bool
is_lawful_cert Nothing = true
is_lawful_cert (Ray point direction) = true
is_lawful_cert (Tree nodes) = are_whole 1 nodes && list_all is_lawful_node nodes

-- An operation that doesn't fit is told exactly where that has ended the solve.
pub record IsWritable (o : Outcome) (c : Cert) : Type 0 where
  pub wide : is_some o.wide ≡ (o.status == NUMERIC)
  pub cert : is_lawful_cert c ≡ true

-- the text is that of the outcome with the certificate
pub record Spells (text : List ℕ) (o : Outcome) (c : Cert) : Type 0 where
  pub writable : IsWritable o c
  pub numbers : HaveNumbers (entries o c)
  pub text_is : text ≡ text_of (entries o c)

-- ---- the first bad line

-- some text that spells something begins with these bytes
pub record IsBeginning (front : List ℕ) : Type 0 where
  pub outcome : Outcome
  pub cert : Cert
  pub behind : List ℕ
  pub spells : Spells (front ++ behind) outcome cert

-- no line feed is among the bytes
abbrev pub is_one_line : List ℕ → Bool
is_one_line bytes = list_all (λ byte. not (byte == 10)) bytes

-- Behind the good lines stands a line with which they are no beginning; or no line that is ended, and then the text spells
-- nothing.
pub data IsBadBehind (good : List ℕ) : List ℕ → Type 0 where
  bad_line : (bytes more : List ℕ) → is_one_line bytes ≡ true → (IsBeginning (good ++ line bytes) → ⊥) → IsBadBehind good (line bytes ++ more)
  missing_line : (bytes : List ℕ) → is_one_line bytes ≡ true → ((o : Outcome) (c : Cert) → Spells (good ++ bytes) o c → ⊥) → IsBadBehind good bytes

-- the bytes of lines, each of them ended
abbrev pub text_of_lines : List (List ℕ) → List ℕ
text_of_lines lines = flat_map line lines

-- The lines before the one of this number are the longest beginning of a text that spells something, and the whole spells
-- nothing.
pub record IsFirstBadLine (text : List ℕ) (number : ℕ) : Type 0 where
  pub good : List (List ℕ)
  pub rest : List ℕ
  pub are_lines : list_all is_one_line good ≡ true
  pub text_is : text ≡ text_of_lines good ++ rest
  pub number_is : number ≡ suc (length good)
  pub beginning : IsBeginning (text_of_lines good)
  pub bad : IsBadBehind (text_of_lines good) rest

-- ---- what a reading answers

abbrev pub Answers : List ℕ → Result Proof (OrMemory CertFault) → Type 0
Answers text (Ok proof) = Spells text proof.outcome proof.cert
Answers text (Err (Fault fault)) = IsFirstBadLine text fault.line
Answers text (Err NoMemory) = Unit {0}

-- these two, unless there is no memory
abbrev pub Gives : Outcome → Cert → Result Proof (OrMemory CertFault) → Type 0
Gives o c (Ok proof) = (proof.outcome ≡ o) × (proof.cert ≡ c)
Gives o c (Err (Fault fault)) = ⊥
Gives o c (Err NoMemory) = Unit {0}
