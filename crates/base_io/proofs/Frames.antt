-- Laws of the cutting into frames: bytes in pieces, and what a line, a block and the end do.
use Rattle.std.proofs.Common.{◌≡◌, ℕ, ◌+◌, ◌<◌, ◌≤◌, List, [], ◌∷◌, ◌++◌, Bool, true, false, ◌==◌, ◌||◌, nat_le, nat_lt, cond, Option, length, refl, ap, sym, ◌∙◌, arith, append_assoc, add-zero, length-append}
use Rattle.std.proofs.lemmas.Bool.{leb-true, ltb-true, ltb-false}
use Rattle.std.proofs.lemmas.List.{append-nil}
use Rattle.base_io.specs.declared.limits.TheConstants.{LINE_LIMIT, INPUT_LIMIT}
use Rattle.base_io.specs.Lines.{has_line_feed, without_return, is_too_long}
use Rattle.base_io.specs.Frames.{Frame, TooLong, Place, InLine, Past, Made, still, overrun, behind, last_frame, block_len, ended_line, after_line_byte, after_byte, made_from, place_from, frames_from, frames_at_end, frames_to_end}
use Rattle.base_io.proofs.Giving.{length-without_return}

-- both parts of what was made
pub parts_of : {a b : Made} → a ≡ b → (a.place ≡ b.place) × (a.frames ≡ b.frames)
parts_of same = (ap (λ (m : Made). m.place) same, ap (λ (m : Made). m.frames) same)

behind-behind : (first then : List Frame) (made : Made) → behind first (behind then made) ≡ behind (first ++ then) made
behind-behind first then made = ap (λ (fs : List Frame). let m : Made = record { frames = fs; place = made.place } in m) (sym (append_assoc first then made.frames))

pub behind-still : (made : Made) → behind made.frames (still made.place) ≡ made
behind-still made = ap (λ (fs : List Frame). let m : Made = record { frames = fs; place = made.place } in m) (append-nil made.frames)

module _ (wants : List ℕ → Option ℕ) where
  -- one byte, of which it is known what it makes, and then more of them
  pub made_from-step : (count : ℕ) (place : Place) (byte : ℕ) (bytes : List ℕ) (made : Made) → after_byte wants count place byte ≡ made
      → made_from wants count place (byte ∷ bytes) ≡ behind made.frames (made_from wants (count + 1) made.place bytes)
  made_from-step count place byte bytes made is = ap (λ (m : Made). behind m.frames (made_from wants (count + 1) m.place bytes)) is

  -- bytes, and then more of them
  pub made_from-append : (count : ℕ) (place : Place) (xs ys : List ℕ)
      → made_from wants count place (xs ++ ys) ≡ behind (frames_from wants count place xs) (made_from wants (count + length xs) (place_from wants count place xs) ys)
  made_from-append count place [] ys = ap (λ (n : ℕ). made_from wants n place ys) (sym (add-zero count))
  made_from-append count place (x ∷ xs) ys =
      let step = after_byte wants count place x in
      let front = frames_from wants (count + 1) step.place xs in
      let last = place_from wants (count + 1) step.place xs in
      ap (behind step.frames) (made_from-append (count + 1) step.place xs ys)
      ∙ (behind-behind step.frames front (made_from wants (count + 1 + length xs) last ys)
      ∙ ap (λ (n : ℕ). behind (step.frames ++ front) (made_from wants n last ys)) (omega arith))

  -- bytes of which it is known what they make, and then more of them
  pub made_from-after : (count : ℕ) (place : Place) (xs ys : List ℕ) (made : Made) → made_from wants count place xs ≡ made
      → made_from wants count place (xs ++ ys) ≡ behind made.frames (made_from wants (count + length xs) made.place ys)
  made_from-after count place xs ys made is =
      made_from-append count place xs ys ∙ ap (λ (m : Made). behind m.frames (made_from wants (count + length xs) m.place ys)) is

  pub place_from-append : (count : ℕ) (place : Place) (xs ys : List ℕ) → place_from wants count place (xs ++ ys) ≡ place_from wants (count + length xs) (place_from wants count place xs) ys
  place_from-append count place xs ys = (parts_of (made_from-append count place xs ys)).0

  pub frames_from-append : (count : ℕ) (place : Place) (xs ys : List ℕ) → frames_from wants count place (xs ++ ys) ≡ frames_from wants count place xs ++ frames_from wants (count + length xs) (place_from wants count place xs) ys
  frames_from-append count place xs ys = (parts_of (made_from-append count place xs ys)).1

  -- what is made of bytes, with what the end makes of it
  abbrev to_end_of : Made → List Frame
  to_end_of made = made.frames ++ frames_at_end wants made.place

  -- bytes of which it is known what they make, and then more of them to the end
  pub frames_to_end-after : (count : ℕ) (place : Place) (xs ys : List ℕ) (made : Made) → made_from wants count place xs ≡ made
      → frames_to_end wants count place (xs ++ ys) ≡ made.frames ++ frames_to_end wants (count + length xs) made.place ys
  frames_to_end-after count place xs ys made is =
      ap to_end_of (made_from-append count place xs ys)
      ∙ (append_assoc (frames_from wants count place xs) (frames_from wants (count + length xs) (place_from wants count place xs) ys) (frames_at_end wants (place_from wants (count + length xs) (place_from wants count place xs) ys))
      ∙ ap (λ (m : Made). m.frames ++ frames_to_end wants (count + length xs) m.place ys) is)

  pub frames_to_end-append : (count : ℕ) (place : Place) (xs ys : List ℕ) → frames_to_end wants count place (xs ++ ys) ≡ frames_from wants count place xs ++ frames_to_end wants (count + length xs) (place_from wants count place xs) ys
  frames_to_end-append count place xs ys = frames_to_end-after count place xs ys (made_from wants count place xs) refl

  -- bytes of which it is known what they make, and the end behind them
  pub frames_to_end-made : (count : ℕ) (place : Place) (bytes : List ℕ) (made : Made) → made_from wants count place bytes ≡ made
      → frames_to_end wants count place bytes ≡ made.frames ++ frames_at_end wants made.place
  frames_to_end-made count place bytes made is = ap to_end_of is

  -- nothing comes of what follows a line or an input that is too long
  pub made_from-past : (count : ℕ) (bytes : List ℕ) → made_from wants count Past bytes ≡ still Past
  made_from-past count [] = refl
  made_from-past count (x ∷ xs) = made_from-past (count + 1) xs

-- a sum of tests that is false has no true one
pub or_parts : (a b : Bool) → (a || b) ≡ false → (a ≡ false) × (b ≡ false)
or_parts true b is = absurd (cc (is))
or_parts false b is = (refl, is)

-- what is below its limit
pub under : (limit n : ℕ) → n < limit → nat_le limit n ≡ false
under limit n low = under_cases (nat_le limit n) limit n low refl where
  under_cases : (t : Bool) (limit n : ℕ) → n < limit → nat_le limit n ≡ t → nat_le limit n ≡ false
  under_cases true limit n low is = absurd (omega (arith, leb-true limit n is))
  under_cases false limit n low is = is

not_past : (n : ℕ) → n ≤ LINE_LIMIT → nat_lt LINE_LIMIT n ≡ false
not_past n low = not_past_cases (nat_lt LINE_LIMIT n) n low refl where
  not_past_cases : (t : Bool) (n : ℕ) → n ≤ LINE_LIMIT → nat_lt LINE_LIMIT n ≡ t → nat_lt LINE_LIMIT n ≡ false
  not_past_cases true n low is = absurd (omega (arith, ltb-true LINE_LIMIT n is))
  not_past_cases false n low is = is

-- a line with few bytes isn't too long
pub is_too_long-few : (line : List ℕ) → length line ≤ LINE_LIMIT → is_too_long line ≡ false
is_too_long-few line few = not_past (length (without_return line)) (omega (arith, few, (length-without_return line).0))

-- nor is a front of one that isn't
is_too_long-front : (xs ys : List ℕ) → is_too_long (xs ++ ys) ≡ false → is_too_long xs ≡ false
is_too_long-front xs [] short = ap is_too_long (sym (append-nil xs)) ∙ short
is_too_long-front xs (y ∷ ys) short =
    let whole : length (without_return (xs ++ y ∷ ys)) ≤ LINE_LIMIT = ltb-false LINE_LIMIT (length (without_return (xs ++ y ∷ ys))) short in
    is_too_long-few xs (omega (arith, whole, (length-without_return (xs ++ y ∷ ys)).1, length-append xs (y ∷ ys)))

module _ (wants : List ℕ → Option ℕ) where
  -- one more byte of a line that is still a part of one
  pub part_step : (count byte : ℕ) (line : List ℕ) → count + 1 < INPUT_LIMIT → (byte == 10) ≡ false → is_too_long (line ++ byte ∷ []) ≡ false
      → after_byte wants count (InLine line) byte ≡ still (InLine (line ++ byte ∷ []))
  part_step count byte line low not short =
      ap (λ (t : Bool). cond t overrun (after_line_byte wants line byte)) (under INPUT_LIMIT (count + 1) low)
      ∙ (ap (λ (t : Bool). cond t (ended_line wants (without_return line)) (cond (is_too_long (line ++ byte ∷ [])) overrun (still (InLine (line ++ byte ∷ []))))) not
      ∙ ap (λ (t : Bool). cond t overrun (still (InLine (line ++ byte ∷ [])))) short)

  -- no more than a part of a line
  pub part_made : (count : ℕ) (line more : List ℕ) → has_line_feed more ≡ false → is_too_long (line ++ more) ≡ false → count + length more < INPUT_LIMIT
      → made_from wants count (InLine line) more ≡ still (InLine (line ++ more))
  part_made count line [] one short low = ap (λ (l : List ℕ). still (InLine l)) (sym (append-nil line))
  part_made count line (byte ∷ bytes) one short low =
      let parts = or_parts (byte == 10) (has_line_feed bytes) one in
      let whole : (line ++ byte ∷ []) ++ bytes ≡ line ++ byte ∷ bytes = append_assoc line (byte ∷ []) bytes in
      let short' : is_too_long ((line ++ byte ∷ []) ++ bytes) ≡ false = ap is_too_long whole ∙ short in
      let step = part_step count byte line (omega (arith, low)) parts.0 (is_too_long-front (line ++ byte ∷ []) bytes short') in
      made_from-step wants count (InLine line) byte bytes (still (InLine (line ++ byte ∷ []))) step
      ∙ (part_made (count + 1) (line ++ byte ∷ []) bytes parts.1 short' (omega (arith, low)) ∙ ap (λ (l : List ℕ). still (InLine l)) whole)

  pub part_from : (count : ℕ) (line more : List ℕ) → has_line_feed more ≡ false → is_too_long (line ++ more) ≡ false → count + length more < INPUT_LIMIT
      → (place_from wants count (InLine line) more ≡ InLine (line ++ more)) × (frames_from wants count (InLine line) more ≡ [])
  part_from count line more one short low = parts_of (part_made count line more one short low)

  -- a line that a line feed ends
  pub ended_line_made : (count : ℕ) (body : List ℕ) → has_line_feed body ≡ false → length (without_return body) ≤ LINE_LIMIT → count + length body + 1 < INPUT_LIMIT
      → made_from wants count (InLine []) (body ++ 10 ∷ []) ≡ ended_line wants (without_return body)
  ended_line_made count body one short low =
      let part = part_made count [] body one (not_past (length (without_return body)) short) (omega (arith, low)) in
      let step : after_byte wants (count + length body) (InLine body) 10 ≡ ended_line wants (without_return body) =
      ap (λ (t : Bool). cond t overrun (after_line_byte wants body 10)) (under INPUT_LIMIT (count + length body + 1) low) in
      made_from-after wants count (InLine []) body (10 ∷ []) (still (InLine body)) part
      ∙ (made_from-step wants (count + length body) (InLine body) 10 [] (ended_line wants (without_return body)) step
      ∙ behind-still (ended_line wants (without_return body)))

  end_cases : (line : List ℕ) → 0 < length line → length line ≤ LINE_LIMIT → frames_at_end wants (InLine line) ≡ last_frame line (block_len wants line) ∷ []
  end_cases [] some short = absurd (omega arith)
  end_cases (byte ∷ bytes) some short =
      ap (λ (t : Bool). cond t TooLong (last_frame (byte ∷ bytes) (block_len wants (byte ∷ bytes))) ∷ []) (not_past (length (byte ∷ bytes)) short)

  -- a last line, which no line feed ends
  pub last_line_from : (count : ℕ) (line : List ℕ) → has_line_feed line ≡ false → 0 < length line → length line ≤ LINE_LIMIT → count + length line < INPUT_LIMIT
      → frames_to_end wants count (InLine []) line ≡ last_frame line (block_len wants line) ∷ []
  last_line_from count line one some short low =
      frames_to_end-made wants count (InLine []) line (still (InLine line)) (part_made count [] line one (is_too_long-few line short) low) ∙ end_cases line some short
