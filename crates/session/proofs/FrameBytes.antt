-- A frame takes a byte, or the line that was given back.
use Rattle.std.proofs.Common.{◌≡◌, ℕ, ◌+◌, ◌-◌, ◌^◌, ◌<◌, ◌⊎◌, List, [], ◌∷◌, Option, None, Some, inl, inr, refl, sym, ◌∙◌, arith}
use Rattle.base_io.specs.Held.{Held}
use Rattle.base_io.specs.Frames.{Frame}
use Rattle.base_io.specs.Reader.{Passes, Moves}
use Rattle.base_io.proofs.Frames.{parts_of}
use Rattle.session.specs.Beginning.{beginning_of}
use Rattle.session.specs.Framing.{IsFrame, IsLastFrame, IsPartOfFrame}
use Rattle.session.proofs.Beginnings.{onward-none, close-none}

-- how often a line may be answered without a byte
abbrev pub waits : Option (List ℕ) → ℕ
waits None = 0
waits (Some line) = 1

no_bytes : {frame : Frame} → [] ≡ frame ∷ [] → ⊥
no_bytes h = cc

-- a frame takes a byte, or the line that was given back
module _ (wants : List ℕ → Option ℕ) (line block : List ℕ) (old new : Held) (left left' : Option (List ℕ)) where
  pub takes_byte : (given : List ℕ) → old.waiting ≡ None → Passes old new left left' given → IsFrame wants line block old given ⊎ IsLastFrame wants line block old given new → old.given < new.given
  takes_byte [] none passes (inl frame) = absurd (no_bytes (sym (parts_of (onward-none wants (beginning_of old) [] none)).1 ∙ (parts_of frame.one).1))
  takes_byte [] none passes (inr frame) = absurd (no_bytes (sym (close-none wants (beginning_of old) [] none) ∙ frame.one))
  takes_byte (byte ∷ bytes) none passes frame = omega (arith, passes.count)

  fewer : (waiting : Option (List ℕ)) → old.waiting ≡ waiting → (given : List ℕ) → Passes old new left left' given → IsFrame wants line block old given ⊎ IsLastFrame wants line block old given new → 2 ^ 40 - new.given + 0 < 2 ^ 40 - old.given + waits waiting
  fewer None is given passes frame = omega (arith, takes_byte given is passes frame, passes.below)
  fewer (Some back) is given passes frame = omega (arith, passes.count, passes.below)

  pub goes_down : (given : List ℕ) → Moves (IsPartOfFrame wants) old new left left' given → IsFrame wants line block old given ⊎ IsLastFrame wants line block old given new → 2 ^ 40 - new.given + waits new.waiting < 2 ^ 40 - old.given + waits old.waiting
  goes_down given moves frame = rw moves.passes.waiting (fewer old.waiting refl given moves.passes frame)
