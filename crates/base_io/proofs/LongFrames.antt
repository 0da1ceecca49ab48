-- What comes of a line that is too long, and of an input that reaches its limit.
use Rattle.std.proofs.Common.{◌≡◌, ℕ, ◌+◌, ◌<◌, ◌≤◌, List, [], ◌∷◌, ◌++◌, Bool, true, false, ◌==◌, nat_le, cond, Option, length, refl, ap, ap₂, sym, ◌∙◌, arith, append_assoc, ◌⊎◌, inl, inr}
use Rattle.std.proofs.lemmas.Bool.{leb-true, leb-false, le-leb, lt-ltb}
use Rattle.std.proofs.lemmas.List.{append-nil}
use Rattle.base_io.specs.declared.limits.TheConstants.{LINE_LIMIT, INPUT_LIMIT}
use Rattle.base_io.specs.Held.{Held}
use Rattle.base_io.specs.Lines.{has_line_feed, without_return, is_too_long}
use Rattle.base_io.specs.Reader.{IsLongLine, IsLongInput, ReachesLimit}
use Rattle.base_io.specs.Frames.{Frame, TooLong, Place, InLine, Past, still, overrun, behind, last_frame, block_len, ended_line, after_line_byte, after_byte, made_from, frames_at_end, frames_to_end}
use Rattle.base_io.proofs.Frames.{made_from-step, made_from-past, frames_to_end-after, frames_to_end-made, or_parts, part_step, part_made}

module _ (wants : List ℕ → Option ℕ) where
  -- these bytes of a line are too long, or the input is
  abbrev pub Over : (count : ℕ) (place : Place) (bytes : List ℕ) → Type 0
  Over count place bytes = made_from wants count place bytes ≡ overrun

  -- nothing else comes of what follows
  pub over_to_end : (count : ℕ) (place : Place) (bytes more : List ℕ) → Over count place bytes → frames_to_end wants count place (bytes ++ more) ≡ TooLong ∷ []
  over_to_end count place bytes more over =
      frames_to_end-after wants count place bytes more overrun over
      ∙ ap (λ (fs : List Frame). TooLong ∷ fs) (frames_to_end-made wants (count + length bytes) Past more (still Past) (made_from-past wants (count + length bytes) more))

  -- it is so by the first of the bytes
  pub over_here : (count : ℕ) (place : Place) (byte : ℕ) (bytes : List ℕ) → after_byte wants count place byte ≡ overrun → Over count place (byte ∷ bytes)
  over_here count place byte bytes is =
      made_from-step wants count place byte bytes overrun is ∙ ap (behind (TooLong ∷ [])) (made_from-past wants (count + 1) bytes)

  -- or by those behind it, by which nothing comes of it
  pub over_later : (count : ℕ) (place next : Place) (byte : ℕ) (bytes : List ℕ) → after_byte wants count place byte ≡ still next → Over (count + 1) next bytes → Over count place (byte ∷ bytes)
  over_later count place next byte bytes is later = made_from-step wants count place byte bytes (still next) is ∙ later

  over_input : (count byte : ℕ) (line bytes : List ℕ) → nat_le INPUT_LIMIT (count + 1) ≡ true → Over count (InLine line) (byte ∷ bytes)
  over_input count byte line bytes reached =
      over_here count (InLine line) byte bytes (ap (λ (t : Bool). cond t overrun (after_line_byte wants line byte)) reached)

  -- One more byte of a line, which isn't a line feed: the line is too long by it, or the input is, or
  -- what follows tells.
  over_step : (reached long : Bool) (count byte : ℕ) (line bytes : List ℕ) → nat_le INPUT_LIMIT (count + 1) ≡ reached → (byte == 10) ≡ false → is_too_long (line ++ byte ∷ []) ≡ long
      → (count + 1 < INPUT_LIMIT → is_too_long (line ++ byte ∷ []) ≡ false → Over (count + 1) (InLine (line ++ byte ∷ [])) bytes)
      → Over count (InLine line) (byte ∷ bytes)
  over_step true long count byte line bytes reached_is not long_is later = over_input count byte line bytes reached_is
  over_step false true count byte line bytes reached_is not long_is later =
      over_here count (InLine line) byte bytes
      (ap (λ (t : Bool). cond t overrun (after_line_byte wants line byte)) reached_is
      ∙ (ap (λ (t : Bool). cond t (ended_line wants (without_return line)) (cond (is_too_long (line ++ byte ∷ [])) overrun (still (InLine (line ++ byte ∷ []))))) not
      ∙ ap (λ (t : Bool). cond t overrun (still (InLine (line ++ byte ∷ [])))) long_is))
  over_step false false count byte line bytes reached_is not long_is later =
      let low : count + 1 < INPUT_LIMIT = leb-false INPUT_LIMIT (count + 1) reached_is in
      over_later count (InLine line) (InLine (line ++ byte ∷ [])) byte bytes (part_step wants count byte line low not long_is) (later low long_is)

  -- a line that is too long whatever comes next
  over_line : (count : ℕ) (line bytes : List ℕ) → has_line_feed bytes ≡ false → is_too_long line ≡ false → is_too_long (line ++ bytes) ≡ true → Over count (InLine line) bytes
  over_line count line [] one short long = absurd (cc (short, ap is_too_long (sym (append-nil line)) ∙ long))
  over_line count line (byte ∷ bytes) one short long =
      let parts = or_parts (byte == 10) (has_line_feed bytes) one in
      over_step (nat_le INPUT_LIMIT (count + 1)) (is_too_long (line ++ byte ∷ [])) count byte line bytes refl parts.0 refl
      (λ low short'. over_line (count + 1) (line ++ byte ∷ []) bytes parts.1 short' (ap is_too_long (append_assoc line (byte ∷ []) bytes) ∙ long))

  -- an input that reaches its limit with a line
  over_within : (count : ℕ) (line bytes : List ℕ) → has_line_feed bytes ≡ false → count < INPUT_LIMIT → INPUT_LIMIT ≤ count + length bytes → Over count (InLine line) bytes
  over_within count line [] one low high = absurd (omega arith)
  over_within count line (byte ∷ bytes) one low high =
      let parts = or_parts (byte == 10) (has_line_feed bytes) one in
      over_step (nat_le INPUT_LIMIT (count + 1)) (is_too_long (line ++ byte ∷ [])) count byte line bytes refl parts.0 refl
      (λ low' short'. over_within (count + 1) (line ++ byte ∷ []) bytes parts.1 low' (omega (arith, high)))

  -- an input that reaches its limit with a line or the byte behind it
  over_behind : (count : ℕ) (line bytes : List ℕ) (byte : ℕ) (rest : List ℕ) → has_line_feed bytes ≡ false → count < INPUT_LIMIT → INPUT_LIMIT ≤ count + length bytes + 1 → Over count (InLine line) (bytes ++ byte ∷ rest)
  over_behind count line [] byte rest one low high = over_input count byte line rest (le-leb INPUT_LIMIT (count + 1) (omega (arith, high)))
  over_behind count line (first ∷ bytes) byte rest one low high =
      let parts = or_parts (first == 10) (has_line_feed bytes) one in
      over_step (nat_le INPUT_LIMIT (count + 1)) (is_too_long (line ++ first ∷ [])) count first line (bytes ++ byte ∷ rest) refl parts.0 refl
      (λ low' short'. over_behind (count + 1) (line ++ first ∷ []) bytes byte rest parts.1 low' (omega (arith, high)))

  over_last : (count : ℕ) (short : Bool) (line : List ℕ) → has_line_feed line ≡ false → count < INPUT_LIMIT → is_too_long line ≡ short → LINE_LIMIT < length line → frames_to_end wants count (InLine []) line ≡ TooLong ∷ []
  over_last count true line one low is long = ap (frames_to_end wants count (InLine [])) (sym (append-nil line)) ∙ over_to_end count (InLine []) line [] (over_line count [] line one refl is)
  over_last count false line one low is long = over_last_at_end (nat_le INPUT_LIMIT (count + length line)) refl where
    at_end : (bytes : List ℕ) → LINE_LIMIT < length bytes → frames_at_end wants (InLine bytes) ≡ TooLong ∷ []
    at_end [] much = absurd (omega arith)
    at_end (byte ∷ bytes) much = ap (λ (t : Bool). cond t TooLong (last_frame (byte ∷ bytes) (block_len wants (byte ∷ bytes))) ∷ []) (lt-ltb LINE_LIMIT (length (byte ∷ bytes)) much)

    over_last_at_end : (t : Bool) → nat_le INPUT_LIMIT (count + length line) ≡ t → frames_to_end wants count (InLine []) line ≡ TooLong ∷ []
    over_last_at_end true reached =
        ap (frames_to_end wants count (InLine [])) (sym (append-nil line)) ∙ over_to_end count (InLine []) line [] (over_within count [] line one low (leb-true INPUT_LIMIT (count + length line) reached))
    over_last_at_end false reached =
        frames_to_end-made wants count (InLine []) line (still (InLine line)) (part_made wants count [] line one is (leb-false INPUT_LIMIT (count + length line) reached)) ∙ at_end line long

  behind_or_within : (held : Held) (line rest more : List ℕ) → has_line_feed line ≡ false → held.given < INPUT_LIMIT → ReachesLimit held.given line rest → frames_to_end wants held.given (InLine []) (line ++ (rest ++ more)) ≡ TooLong ∷ []
  behind_or_within held line rest more one low (inl high) = over_to_end held.given (InLine []) line (rest ++ more) (over_within held.given [] line one low high)
  behind_or_within held line [] more one low (inr (some, high)) = absurd (omega (arith, some))
  behind_or_within held line (byte ∷ rest) more one low (inr (some, high)) =
      ap (frames_to_end wants held.given (InLine [])) (sym (append_assoc line (byte ∷ rest) more))
      ∙ over_to_end held.given (InLine []) (line ++ byte ∷ rest) more (over_behind held.given [] line byte rest one low high)

  -- What a reader that answers `TooLong` for a line holds: whatever the source gives after it, and
  -- nothing where it has ended.
  pub frames_to_end-too_long : (held : Held) (more : List ℕ) → held.given < INPUT_LIMIT → (held.ended ≡ true → more ≡ []) → IsLongLine held ⊎ IsLongInput held → frames_to_end wants held.given (InLine []) (held.bytes ++ more) ≡ TooLong ∷ []
  frames_to_end-too_long held more low none (inl long) = long_cases long.long where
    long_cases : (is_too_long long.line ≡ true) ⊎ ((LINE_LIMIT < length long.line) × (held.ended ≡ true) × (long.rest ≡ [])) → frames_to_end wants held.given (InLine []) (held.bytes ++ more) ≡ TooLong ∷ []
    long_cases (inl is) =
        ap (λ (l : List ℕ). frames_to_end wants held.given (InLine []) (l ++ more)) long.whole
        ∙ (ap (frames_to_end wants held.given (InLine [])) (append_assoc long.line long.rest more)
        ∙ over_to_end held.given (InLine []) long.line (long.rest ++ more) (over_line held.given [] long.line long.one refl is))
    long_cases (inr (much, ended, last)) =
        ap₂ (λ (l m : List ℕ). frames_to_end wants held.given (InLine []) (l ++ m)) (long.whole ∙ (ap (λ (r : List ℕ). long.line ++ r) last ∙ append-nil long.line)) (none ended)
        ∙ (ap (frames_to_end wants held.given (InLine [])) (append-nil long.line)
        ∙ over_last held.given (is_too_long long.line) long.line long.one low refl much)
  frames_to_end-too_long held more low none (inr long) =
      ap (λ (l : List ℕ). frames_to_end wants held.given (InLine []) (l ++ more)) long.whole
      ∙ (ap (frames_to_end wants held.given (InLine [])) (append_assoc long.line long.rest more)
      ∙ behind_or_within held long.line long.rest more long.one low long.long)
