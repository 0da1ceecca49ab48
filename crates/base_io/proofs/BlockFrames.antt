-- What comes of blocks, and of lines with their blocks.
use Rattle.std.proofs.Common.{◌≡◌, ℕ, ◌+◌, ◌-◌, ◌<◌, ◌≤◌, zero, suc, List, [], ◌∷◌, ◌++◌, Bool, true, false, nat_le, cond, Option, length, refl, ap, ap₂, sym, ◌∙◌, arith, append_assoc, length-append}
use Rattle.std.proofs.lemmas.Bool.{le-leb, leb-false}
use Rattle.std.proofs.lemmas.List.{append-nil}
use Rattle.base_io.specs.declared.limits.TheConstants.{LINE_LIMIT, INPUT_LIMIT}
use Rattle.base_io.specs.Held.{Held}
use Rattle.base_io.specs.Reader.{IsEndedLine, IsLongBlock}
use Rattle.base_io.specs.Frames.{Whole, Cut, TooLong, InLine, InBlock, still, overrun, behind, with_block, block_len, ended_line, after_byte, made_from, place_from, frames_from, frames_to_end}
use Rattle.base_io.proofs.Frames.{parts_of, behind-still, made_from-step, made_from-after, frames_to_end-after, frames_to_end-made, under, ended_line_made}
use Rattle.base_io.proofs.LongFrames.{Over, over_here, over_later, over_to_end}

module _ (wants : List ℕ → Option ℕ) where
  -- one more byte of a block
  block_step : (count byte : ℕ) (line block : List ℕ) (missing : ℕ) → count + 1 < INPUT_LIMIT
      → after_byte wants count (InBlock line block (suc missing)) byte ≡ with_block line (block ++ byte ∷ []) missing
  block_step count byte line block missing low =
      let less : suc missing - 1 ≡ missing = omega arith in
      ap (λ (t : Bool). cond t overrun (with_block line (block ++ byte ∷ []) (suc missing - 1))) (under INPUT_LIMIT (count + 1) low)
      ∙ ap (with_block line (block ++ byte ∷ [])) less

  -- no more than a part of a block
  block_part_made : (count : ℕ) (line block bytes : List ℕ) (missing : ℕ) → length bytes < missing → count + length bytes < INPUT_LIMIT
      → made_from wants count (InBlock line block missing) bytes ≡ still (InBlock line (block ++ bytes) (missing - length bytes))
  block_part_made count line block [] missing few low = ap₂ (λ (b : List ℕ) (m : ℕ). still (InBlock line b m)) (sym (append-nil block)) (omega arith)
  block_part_made count line block (byte ∷ bytes) zero few low = absurd (omega arith)
  block_part_made count line block (byte ∷ bytes) (suc zero) few low = absurd (omega arith)
  block_part_made count line block (byte ∷ bytes) (suc (suc missing)) few low =
      made_from-step wants count (InBlock line block (suc (suc missing))) byte bytes (with_block line (block ++ byte ∷ []) (suc missing)) (block_step count byte line block (suc missing) (omega (arith, low)))
      ∙ (block_part_made (count + 1) line (block ++ byte ∷ []) bytes (suc missing) (omega (arith, few)) (omega (arith, low))
      ∙ ap₂ (λ (b : List ℕ) (m : ℕ). still (InBlock line b m)) (append_assoc block (byte ∷ []) bytes) (omega arith))

  -- all the bytes that a block lacks
  block_made : (count : ℕ) (line block bytes : List ℕ) (missing : ℕ) → length bytes ≡ suc missing → count + length bytes < INPUT_LIMIT
      → made_from wants count (InBlock line block (suc missing)) bytes ≡ with_block line (block ++ bytes) 0
  block_made count line block [] missing whole low = absurd (omega (arith, whole))
  block_made count line block (byte ∷ []) missing whole low =
      let none : missing ≡ 0 = omega (arith, whole) in
      made_from-step wants count (InBlock line block (suc missing)) byte [] (with_block line (block ++ byte ∷ []) missing) (block_step count byte line block missing (omega (arith, low)))
      ∙ (behind-still (with_block line (block ++ byte ∷ []) missing) ∙ ap (with_block line (block ++ byte ∷ [])) none)
  block_made count line block (byte ∷ next ∷ bytes) zero whole low = absurd (omega (arith, whole))
  block_made count line block (byte ∷ next ∷ bytes) (suc missing) whole low =
      made_from-step wants count (InBlock line block (suc (suc missing))) byte (next ∷ bytes) (with_block line (block ++ byte ∷ []) (suc missing)) (block_step count byte line block (suc missing) (omega (arith, low)))
      ∙ (block_made (count + 1) line (block ++ byte ∷ []) (next ∷ bytes) missing (omega (arith, whole)) (omega (arith, low))
      ∙ ap (λ (b : List ℕ). with_block line b 0) (append_assoc block (byte ∷ []) (next ∷ bytes)))

  -- the bytes behind a line that asks for so long a block
  pub asked_made : (count : ℕ) (line block : List ℕ) (size : ℕ) → length block ≡ size → count + length block < INPUT_LIMIT
      → behind (with_block line [] size).frames (made_from wants count (with_block line [] size).place block) ≡ with_block line block 0
  asked_made count line [] zero whole low = refl
  asked_made count line (byte ∷ bytes) zero whole low = absurd (omega (arith, whole))
  asked_made count line block (suc size) whole low = block_made count line [] block size whole low

  pub asked_part_made : (count : ℕ) (line bytes : List ℕ) (size : ℕ) → length bytes < size → count + length bytes < INPUT_LIMIT
      → behind (with_block line [] size).frames (made_from wants count (with_block line [] size).place bytes) ≡ still (InBlock line bytes (size - length bytes))
  asked_part_made count line bytes zero few low = absurd (omega (arith, few))
  asked_part_made count line bytes (suc size) few low = block_part_made count line [] bytes (suc size) few low

  -- a line that a line feed ends
  pub line_made : (count : ℕ) (line given : List ℕ) → IsEndedLine line given → length line ≤ LINE_LIMIT → count + length given < INPUT_LIMIT
      → made_from wants count (InLine []) given ≡ ended_line wants line
  line_made count line given is short low =
      let size : length given ≡ length is.body + 1 = ap length is.whole ∙ length-append is.body (10 ∷ []) in
      ap (made_from wants count (InLine [])) is.whole
      ∙ (ended_line_made wants count is.body is.one (omega (arith, short, ap length is.line_is)) (omega (arith, low, size)) ∙ ap (ended_line wants) (sym is.line_is))

  -- A line that a line feed ends, and the block that it asks for: one frame. The block is empty where the
  -- line asks for none.
  pub frame_from : (count : ℕ) (line given block : List ℕ) → IsEndedLine line given → length line ≤ LINE_LIMIT → length block ≡ block_len wants line → count + length given + length block < INPUT_LIMIT
      → (place_from wants count (InLine []) (given ++ block) ≡ InLine []) × (frames_from wants count (InLine []) (given ++ block) ≡ Whole line block ∷ [])
  frame_from count line given block is short whole low =
      parts_of
      (made_from-after wants count (InLine []) given block (ended_line wants line) (line_made count line given is short (omega (arith, low)))
      ∙ asked_made (count + length given) line block (block_len wants line) whole low)

  cut_frame_made : (count : ℕ) (line given bytes : List ℕ) → IsEndedLine line given → length line ≤ LINE_LIMIT → length bytes < block_len wants line → count + length given + length bytes < INPUT_LIMIT
      → made_from wants count (InLine []) (given ++ bytes) ≡ still (InBlock line bytes (block_len wants line - length bytes))
  cut_frame_made count line given bytes is short few low =
      made_from-after wants count (InLine []) given bytes (ended_line wants line) (line_made count line given is short (omega (arith, low)))
      ∙ asked_part_made (count + length given) line bytes (block_len wants line) few low

  -- a line that a line feed ends, and a part of the block that it asks for
  pub cut_frame_from : (count : ℕ) (line given bytes : List ℕ) → IsEndedLine line given → length line ≤ LINE_LIMIT → length bytes < block_len wants line → count + length given + length bytes < INPUT_LIMIT
      → (place_from wants count (InLine []) (given ++ bytes) ≡ InBlock line bytes (block_len wants line - length bytes)) × (frames_from wants count (InLine []) (given ++ bytes) ≡ [])
  cut_frame_from count line given bytes is short few low = parts_of (cut_frame_made count line given bytes is short few low)

  -- and where the input ends there
  pub cut_frame_to_end : (count : ℕ) (line given bytes : List ℕ) → IsEndedLine line given → length line ≤ LINE_LIMIT → length bytes < block_len wants line → count + length given + length bytes < INPUT_LIMIT
      → frames_to_end wants count (InLine []) (given ++ bytes) ≡ Cut line bytes ∷ []
  cut_frame_to_end count line given bytes is short few low =
      frames_to_end-made wants count (InLine []) (given ++ bytes) (still (InBlock line bytes (block_len wants line - length bytes))) (cut_frame_made count line given bytes is short few low)

  over_block_input : (count byte : ℕ) (line block bytes : List ℕ) (missing : ℕ) → nat_le INPUT_LIMIT (count + 1) ≡ true → Over wants count (InBlock line block missing) (byte ∷ bytes)
  over_block_input count byte line block bytes missing here =
      over_here wants count (InBlock line block missing) byte bytes (ap (λ (t : Bool). cond t overrun (with_block line (block ++ byte ∷ []) (missing - 1))) here)

  -- one more byte of a block, behind which bytes are missing
  over_block_step : (reached : Bool) (count byte : ℕ) (line block bytes : List ℕ) (missing : ℕ) → nat_le INPUT_LIMIT (count + 1) ≡ reached → (count + 1 < INPUT_LIMIT → Over wants (count + 1) (InBlock line (block ++ byte ∷ []) (suc missing)) bytes) → Over wants count (InBlock line block (suc (suc missing))) (byte ∷ bytes)
  over_block_step true count byte line block bytes missing is later = over_block_input count byte line block bytes (suc (suc missing)) is
  over_block_step false count byte line block bytes missing is later =
      let low : count + 1 < INPUT_LIMIT = leb-false INPUT_LIMIT (count + 1) is in
      over_later wants count (InBlock line block (suc (suc missing))) (InBlock line (block ++ byte ∷ []) (suc missing)) byte bytes (block_step count byte line block (suc missing) low) (later low)

  -- an input that reaches its limit within a block
  over_block : (count : ℕ) (line block bytes : List ℕ) (missing : ℕ) → count < INPUT_LIMIT → INPUT_LIMIT ≤ count + length bytes → INPUT_LIMIT ≤ count + missing → Over wants count (InBlock line block missing) bytes
  over_block count line block [] missing low here within = absurd (omega arith)
  over_block count line block (byte ∷ bytes) zero low here within = absurd (omega arith)
  over_block count line block (byte ∷ bytes) (suc zero) low here within = over_block_input count byte line block bytes (suc zero) (le-leb INPUT_LIMIT (count + 1) (omega arith))
  over_block count line block (byte ∷ bytes) (suc (suc missing)) low here within =
      over_block_step (nat_le INPUT_LIMIT (count + 1)) count byte line block bytes missing refl
      (λ low'. over_block (count + 1) line (block ++ byte ∷ []) bytes (suc missing) low' (omega (arith, here)) (omega (arith, within)))

  pub long_cases : (held : Held) (line more : List ℕ) (size : ℕ) → held.given < INPUT_LIMIT → IsLongBlock size held
      → (with_block line [] size).frames ++ frames_to_end wants held.given (with_block line [] size).place (held.bytes ++ more) ≡ TooLong ∷ []
  long_cases held line more zero low long = absurd (omega (arith, low, long.within))
  long_cases held line more (suc size) low long =
      over_to_end wants held.given (InBlock line [] (suc size)) held.bytes more (over_block held.given line [] held.bytes (suc size) low long.here long.within)

  -- A line that a line feed ends, and a reader that answers `TooLong` for its block, whatever the source
  -- gives after what it holds.
  pub long_frame_to_end : (count : ℕ) (line given : List ℕ) (held : Held) (more : List ℕ) → IsEndedLine line given → length line ≤ LINE_LIMIT → held.given ≡ count + length given → held.given < INPUT_LIMIT → IsLongBlock (block_len wants line) held
      → frames_to_end wants count (InLine []) (given ++ (held.bytes ++ more)) ≡ TooLong ∷ []
  long_frame_to_end count line given held more is short here low long =
      frames_to_end-after wants count (InLine []) given (held.bytes ++ more) (ended_line wants line) (line_made count line given is short (omega (arith, here, low)))
      ∙ (ap (λ (n : ℕ). (ended_line wants line).frames ++ frames_to_end wants n (ended_line wants line).place (held.bytes ++ more)) (sym here)
      ∙ long_cases held line more (block_len wants line) low long)
