-- What bytes make behind a beginning, and then more of them.
use Rattle.std.proofs.Common.{◌≡◌, ℕ, ◌+◌, List, [], ◌++◌, Option, None, Some, length, ap, sym, ◌∙◌, append_assoc}
use Rattle.base_io.specs.Frames.{Frame, Made, InLine, still, behind, ended_line, made_from, frames_at_end, frames_to_end}
use Rattle.base_io.proofs.Frames.{made_from-append, frames_to_end-append}
use Rattle.session.specs.Beginning.{Beginning, begun, made_onward, frames_to_close}

made_of : List Frame → (rest : Made) → Made
made_of frames rest = record { frames = frames; place = rest.place }

-- frames before frames before what is made
pub behind-assoc : (xs ys : List Frame) (made : Made) → behind xs (behind ys made) ≡ behind (xs ++ ys) made
unfolding made_of
behind-assoc xs ys made = ap (λ (fs : List Frame). made_of fs made) (sym (append_assoc xs ys made.frames))

module _ (wants : List ℕ → Option ℕ) (beginning : Beginning) where
  pub onward-append : (xs ys : List ℕ) (made : Made) → made_onward wants beginning xs ≡ made
      → made_onward wants beginning (xs ++ ys) ≡ behind made.frames (made_from wants (beginning.count + length xs) made.place ys)
  onward-append xs ys made is =
      let start = begun wants beginning in
      let first = made_from wants beginning.count start.place xs in
      ap (behind start.frames) (made_from-append wants beginning.count start.place xs ys)
      ∙ (behind-assoc start.frames first.frames (made_from wants (beginning.count + length xs) first.place ys)
      ∙ ap (λ (m : Made). behind m.frames (made_from wants (beginning.count + length xs) m.place ys)) is)

  pub close-append : (xs ys : List ℕ) (made : Made) → made_onward wants beginning xs ≡ made
      → frames_to_close wants beginning (xs ++ ys) ≡ made.frames ++ frames_to_end wants (beginning.count + length xs) made.place ys
  close-append xs ys made is =
      let start = begun wants beginning in
      let first = made_from wants beginning.count start.place xs in
      ap (λ (fs : List Frame). start.frames ++ fs) (frames_to_end-append wants beginning.count start.place xs ys)
      ∙ (sym (append_assoc start.frames first.frames (frames_to_end wants (beginning.count + length xs) first.place ys))
      ∙ ap (λ (m : Made). m.frames ++ frames_to_end wants (beginning.count + length xs) m.place ys) is)

  -- these bytes, and the input's end behind them
  pub close-made : (bytes : List ℕ) (made : Made) → made_onward wants beginning bytes ≡ made → frames_to_close wants beginning bytes ≡ made.frames ++ frames_at_end wants made.place
  close-made bytes made is =
      let start = begun wants beginning in
      let first = made_from wants beginning.count start.place bytes in
      sym (append_assoc start.frames first.frames (frames_at_end wants first.place)) ∙ ap (λ (m : Made). m.frames ++ frames_at_end wants m.place) is

-- where no line waits, a line begins
pub onward-none : (wants : List ℕ → Option ℕ) (beginning : Beginning) (bytes : List ℕ) → beginning.waiting ≡ None → made_onward wants beginning bytes ≡ made_from wants beginning.count (InLine []) bytes
onward-none wants beginning bytes none =
    ap (λ (w : Option (List ℕ)). let b : Beginning = record { count = beginning.count; waiting = w } in made_onward wants b bytes) none

pub close-none : (wants : List ℕ → Option ℕ) (beginning : Beginning) (bytes : List ℕ) → beginning.waiting ≡ None → frames_to_close wants beginning bytes ≡ frames_to_end wants beginning.count (InLine []) bytes
close-none wants beginning bytes none =
    ap (λ (w : Option (List ℕ)). let b : Beginning = record { count = beginning.count; waiting = w } in frames_to_close wants b bytes) none

-- a line that was given back is one that has ended
pub onward-given_back : (wants : List ℕ → Option ℕ) (beginning : Beginning) (line : List ℕ) → beginning.waiting ≡ Some line → made_onward wants beginning [] ≡ behind (ended_line wants line).frames (still (ended_line wants line).place)
onward-given_back wants beginning line is =
    ap (λ (w : Option (List ℕ)). let b : Beginning = record { count = beginning.count; waiting = w } in made_onward wants b []) is
