-- The runs of a text: the longest stretches of bytes that are neither white space nor a comment's.
use Rattle.std.specs.Prelude.{ℕ, ◌+◌, Bool, true, false, not, ◌&&◌, ◌||◌, List, [], ◌∷◌, take_while, ◌==◌, if◌then◌else◌}
use Rattle.std.specs.List.{list_all}
use Rattle.model_data.specs.Names.{is_visible}
use Rattle.lp_defs.specs.declared.token.Place.{Place}

abbrev pub line_feed : ℕ
line_feed = 10

abbrev pub backslash : ℕ
backslash = 92

-- space, tab, line feed and carriage return
abbrev pub is_white : ℕ → Bool
is_white byte = byte == 32 || byte == 9 || byte == line_feed || byte == 13

-- a byte that goes on with a run
abbrev pub is_run_byte : ℕ → Bool
is_run_byte byte = not (is_white byte || byte == backslash)

-- a byte that a token may have
abbrev pub is_plain_byte : ℕ → Bool
is_plain_byte byte = is_visible byte && not (byte == backslash)

abbrev pub is_plain : List ℕ → Bool
is_plain bytes = list_all is_plain_byte bytes

abbrev pub first_place : Place
first_place = record { line = 1; column = 1; offset = 0 }

-- the place behind a byte
abbrev pub behind_byte : Place → ℕ → Place
behind_byte place byte =
    if byte == line_feed then record { line = place.line + 1; column = 1; offset = place.offset + 1 }
    else record { line = place.line; column = place.column + 1; offset = place.offset + 1 }

-- the place behind bytes
unfoldable pub behind_bytes : Place → List ℕ → Place
behind_bytes place [] = place
behind_bytes place (byte ∷ bytes) = behind_bytes (behind_byte place byte) bytes

-- the place of the end of a text
abbrev pub end_of : List ℕ → Place
end_of text = behind_bytes first_place text

-- what a byte belongs to
pub data Part : Type 0 where
  gap : Part
  comment : Part
  run : Part

abbrev pub is_run : Part → Bool
is_run gap = false
is_run comment = false
is_run run = true

abbrev pub uncommented_part : ℕ → Part
uncommented_part byte = if byte == backslash then comment else (if is_white byte then gap else run)

-- What a byte belongs to, by what the byte before it does. A comment holds any byte, and ends at a line feed alone.
abbrev pub part_after : Part → ℕ → Part
part_after gap byte = uncommented_part byte
part_after comment byte = if byte == line_feed then gap else comment
part_after run byte = uncommented_part byte

pub record Run : Type 0 where
  pub place : Place
  pub bytes : List ℕ

-- The runs of bytes from a place on, behind a byte that belongs to such a part. A run begins where a byte of a run stands
-- behind no other one, and it is as long as can be.
unfoldable pub runs_from : Part → Place → List ℕ → List Run
runs_from before place [] = []
runs_from before place (byte ∷ bytes) =
    let here = part_after before byte in
    let more = runs_from here (behind_byte place byte) bytes in
    if (is_run here && not (is_run before)) then record { place = place; bytes = take_while is_run_byte (byte ∷ bytes) } ∷ more else more

abbrev pub runs_of : List ℕ → List Run
runs_of text = runs_from gap first_place text
