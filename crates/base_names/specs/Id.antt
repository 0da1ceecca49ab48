-- How a batch's ID is spelled.
use Rattle.std.specs.Prelude.{ℕ, ◌+◌, ◌^◌, ◌<◌, ◌==◌, List, ◌++◌, take, drop, codes, decimal, position, if◌then◌else◌, Option, Some, None}
use Rattle.std.specs.Option.{option_map}
use Rattle.base_names.specs.OwnerName.{is_owner_name, IsOwnerName}
use Rattle.base_names.specs.Decimal.{below, decimal_of}
use Rattle.base_names.specs.declared.id.BatchId.{BatchId}

-- the owner's name, a point, and the number without a leading zero
abbrev pub id_text : BatchId → List ℕ
id_text id = id.owner ++ (codes "." ++ decimal id.number)

-- a batch's ID as a program has it
abbrev pub IsId : BatchId → Type 0
IsId id = IsOwnerName id.owner × (id.number < 2 ^ 32)

-- the ID of an owner's name and the digits of a number
abbrev pub id_of_parts : List ℕ → List ℕ → Option BatchId
id_of_parts owner digits =
    if is_owner_name owner then option_map (λ number. record { owner = owner; number = number }) (below (2 ^ 32) (decimal_of digits)) else None

-- the ID of a text whose first point is there
abbrev pub id_at : List ℕ → Option ℕ → Option BatchId
id_at text None = None
id_at text (Some point) = id_of_parts (take point text) (drop (point + 1) text)

-- the ID that a text spells
abbrev pub id_of : List ℕ → Option BatchId
id_of text = id_at text (position (λ byte. byte == 46) text)
