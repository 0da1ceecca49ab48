-- What a file of bodies is to a list of records, at any moment: between calls, within one, and after a stop.
use Rattle.std.specs.Prelude.{◌≡◌, ◌⊎◌, ◌≤◌, ◌+◌, ℕ, All, List, [], ◌∷◌, ◌++◌, length, map, Option, Some, None, IfSome, option_to_list}
use Rattle.std.specs.Option.{option_map, IsSomeAnd}
use Rattle.cluster_defs.specs.Journal.{AreAllTaken, Journal}
use Rattle.cluster_defs.specs.Refusals.{reserve}
use Rattle.journal.specs.Records.{front, records}
use Rattle.journal.specs.Standing.{Holds}
use Rattle.model_data.specs.declared.batch.BatchRecord.{BatchRecord}
use Rattle.rec_format.specs.Format.{whole}
use Rattle.rec_format.specs.Lawful.{IsLawfulRecord}
use Rattle.rec_format.specs.Records.{batch_record, record_write}
use Rattle.table_defs.specs.Table.{after, no_rows}
use Rattle.table_defs.specs.Taken.{AreTaken}

-- The bodies are the spellings of these records, each of which is lawful. A body has one spelling at most.
pub record AreSpelled (rs : List BatchRecord) (bodies : List (List ℕ)) : Type 0 where
  pub written : bodies ≡ map record_write rs
  pub lawful : All IsLawfulRecord rs

-- the same of one body or none
pub record IsSpelled (r : Option BatchRecord) (body : Option (List ℕ)) : Type 0 where
  pub written : body ≡ option_map record_write r
  pub lawful : IfSome r IsLawfulRecord

-- the records that bodies spell
abbrev pub read_all : List (List ℕ) → List BatchRecord
read_all [] = []
read_all (body ∷ bodies) = option_to_list (whole batch_record body) ++ read_all bodies

abbrev pub read_one : Option (List ℕ) → Option BatchRecord
read_one None = None
read_one (Some body) = whole batch_record body

-- A file recovers to these records: its bodies are their spellings, and each is taken.
pub record Recovers (rs : List BatchRecord) (file : List ℕ) : Type 0 where
  pub spelled : AreSpelled rs (records file)
  pub taken : AreTaken rs no_rows

-- where the file of these records ends, and behind it what is kept free for the outcomes of all that goes on
abbrev pub space_of : List BatchRecord → ℕ
space_of rs = length (front (map record_write rs)) + reserve (after rs no_rows)

-- A journal's records have space within the limit, and these with the one in doubt.
pub record IsWithin (limit : ℕ) (j : Journal) : Type 0 where
  pub records : space_of j.records ≤ limit
  pub doubt : space_of (j.records ++ option_to_list j.doubt) ≤ limit

-- An image of the life of a journal with this limit: it holds the bodies of its records, with that of the record in doubt, at any
-- moment.
pub record Keeps (limit : ℕ) (j : Journal) (image : List ℕ) : Type 0 where
  pub held : Holds (map record_write j.records) (option_map record_write j.doubt) image
  pub lawful : All IsLawfulRecord j.records
  pub doubt_lawful : IfSome j.doubt IsLawfulRecord
  pub taken : AreAllTaken j
  pub within : IsWithin limit j

-- what such an image recovers to
abbrev pub RecoversWith : Journal → List ℕ → Type 0
RecoversWith j image = Recovers j.records image ⊎ IsSomeAnd j.doubt (λ d. Recovers (j.records ++ d ∷ []) image)

-- with another record in doubt
abbrev pub doubting : Journal → BatchRecord → Journal
doubting j r = record { records = j.records; doubt = Some r }

-- An image while a record is kept, or while none is: as before, or with the new one in doubt.
abbrev pub WhileKeeping : ℕ → Journal → Option BatchRecord → List ℕ → Type 0
WhileKeeping limit j None image = Keeps limit j image
WhileKeeping limit j (Some r) image = Keeps limit j image ⊎ Keeps limit (doubting j r) image
