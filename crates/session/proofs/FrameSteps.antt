-- The next frame by a line and a block.
use Rattle.std.proofs.Common.{◌≡◌, ℕ, ◌+◌, ◌-◌, ◌<◌, ◌⊎◌, List, [], ◌∷◌, ◌++◌, true, Option, None, Some, Result, Ok, Err, inl, inr, length, refl, ap, ap₂, sym, subst, ◌∙◌, arith, append_assoc, add-zero, zero, suc}
use Rattle.std.specs.Prelude.{IfSome}
use Rattle.std.proofs.lemmas.Bool.{false≢true}
use Rattle.std.proofs.lemmas.List.{append-nil}
use Rattle.base_names.specs.declared.memory.NoMemory.{NoMemory}
use Rattle.base_names.proofs.Outside.{Reads-none}
use Rattle.base_io.specs.declared.limits.TheConstants.{INPUT_LIMIT}
use Rattle.base_io.specs.declared.piece.Piece.{Piece}
use Rattle.base_io.specs.declared.piece.Piece.TheVariants.{Line, End as PieceEnd, TooLong as PieceLong, ReadFault as PieceFault}
use Rattle.base_io.specs.Held.{Held}
use Rattle.base_io.specs.Reader.{Passes, Needed, Moves, IsPartOfLine, IsPartOfBlock, GivesLine, GivesBlock}
use Rattle.base_io.specs.Frames.{Frame, Made, Whole, Cut, InLine, InBlock, still, behind, last_frame, block_len, ended_line, frames_at_end, made_from, frames_to_end}
use Rattle.base_io.proofs.Passing.{Passes-more, Needed-none}
use Rattle.base_io.proofs.Frames.{parts_of, behind-still, part_made, last_line_from}
use Rattle.base_io.proofs.LongFrames.{frames_to_end-too_long}
use Rattle.base_io.proofs.BlockFrames.{line_made, asked_made, asked_part_made, long_cases}
use Rattle.session.specs.Beginning.{beginning_of, made_onward, frames_onward, frames_to_close}
use Rattle.base_io.specs.Frames as frames
use Rattle.session.specs.Framing.{IsFrame, IsLastFrame, IsPartOfFrame, ReadsFrame}
use Rattle.session.specs.declared.frame.NextFrame.TheVariants.{Whole as Read, Cut as Ended, End, TooLong, ReadFault}
use Rattle.session.proofs.Beginnings.{onward-append, close-append, close-made, onward-none, close-none, onward-given_back}

-- the bytes of a last line, which no line feed ends
pub record IsLast (wants : List ℕ → Option ℕ) (line : List ℕ) (old mid : Held) (given : List ℕ) : Type 0 where
  pub frames : frames_to_close wants (beginning_of old) given ≡ last_frame line (block_len wants line) ∷ []
  pub ended : mid.ended ≡ true
  pub last : mid.bytes ≡ []

-- what a call for a line did that gave this one, read now or given back before
pub record TakesLine (wants : List ℕ → Option ℕ) (line : List ℕ) (old mid : Held) (left between : Option (List ℕ)) (given : List ℕ) : Type 0 where
  pub moves : Moves (IsPartOfFrame wants) old mid left between given
  pub made : (made_onward wants (beginning_of old) given ≡ ended_line wants line) ⊎ IsLast wants line old mid given

module _ (wants : List ℕ → Option ℕ) where
  -- a part of a line is a part of a frame
  needed_line : (old new : Held) (given : List ℕ) → old.waiting ≡ None → Needed IsPartOfLine old new given → Needed (IsPartOfFrame wants) old new given
  needed_line old new given none a = record {
    earlier = a.earlier;
    last = a.last;
    whole = a.whole;
    short = a.short;
    part = elim a.part [
      | inl held ↦ inl held
      | inr part ↦ inr (record {
        none = (parts_of (onward-none wants (beginning_of old) a.earlier none ∙ part_made wants old.given [] a.earlier part.one part.short part.below)).1;
      })
    ];
  }

  moves_line : (old new : Held) (left left' : Option (List ℕ)) (given : List ℕ) → old.waiting ≡ None → Moves IsPartOfLine old new left left' given → Moves (IsPartOfFrame wants) old new left left' given
  moves_line old new left left' given none a = record { passes = a.passes; needed = needed_line old new given none a.needed }

  -- a line that was read
  takes_read : (line : List ℕ) (old mid : Held) (left between : Option (List ℕ)) → old.waiting ≡ None → GivesLine (Ok (Line line)) old mid left between → (given : List ℕ) × TakesLine wants line old mid left between given
  takes_read line old mid left between none (given, a, inl ended, short) = (
    given,
    record {
      moves = moves_line old mid left between given none a;
      made = inl (onward-none wants (beginning_of old) given none ∙ line_made wants old.given line given ended short (omega (arith, a.passes.count, a.passes.below)));
    },
  )
  takes_read line old mid left between none (given, a, inr last, short) = (
    given,
    record {
      moves = moves_line old mid left between given none a;
      made = inr (record {
        frames = close-none wants (beginning_of old) given none
            ∙ (ap (frames_to_end wants old.given (InLine [])) last.whole
            ∙ last_line_from wants old.given line last.one last.some short (omega (arith, a.passes.count, a.passes.below, ap length last.whole)));
        ended = last.ended;
        last = last.last;
      });
    },
  )

  -- a line that was given back
  takes_back : (line : List ℕ) (old mid : Held) (left between : Option (List ℕ)) → old.waiting ≡ Some line → mid ≡ record old { waiting = None } → between ≡ left → mid.given < INPUT_LIMIT → (given : List ℕ) × TakesLine wants line old mid left between given
  takes_back line old mid left between waits is same below =
      let from : Option (List ℕ) → Type 0 = λ b. (given : List ℕ) × TakesLine wants line old mid left b given in
      subst from (sym same) (
        [],
        record {
          moves = record {
            passes = record {
              moved = [];
              read = Reads-none left;
              kept = append-nil old.bytes ∙ ap (λ (h : Held). h.bytes) (sym is);
              count = ap (λ (h : Held). h.given) is ∙ sym (add-zero old.given);
              below = below;
              waiting = ap (λ (h : Held). h.waiting) is;
              once = λ ended. (ap (λ (h : Held). h.ended) is ∙ ended, refl);
              at_end = λ at ended. at (sym (ap (λ (h : Held). h.ended) is) ∙ ended);
            };
            needed = Needed-none (IsPartOfFrame wants) old mid [] (ap (λ (h : Held). h.bytes) (sym is));
          };
          made = inl (onward-given_back wants (beginning_of old) line waits ∙ behind-still (ended_line wants line));
        },
      )

  -- what a call for a line did, by its answer
  abbrev pub LineSays : Result Piece NoMemory → (old new : Held) (left left' : Option (List ℕ)) → Type 0
  LineSays (Ok (Line line)) old new left left' = new.given < INPUT_LIMIT → (given : List ℕ) × TakesLine wants line old new left left' given
  LineSays (Ok PieceEnd) old new left left' = (old.waiting ≡ None) × GivesLine (Ok PieceEnd) old new left left'
  LineSays (Ok PieceLong) old new left left' = (old.waiting ≡ None) × GivesLine (Ok PieceLong) old new left left'
  LineSays (Ok PieceFault) old new left left' = (old.waiting ≡ None) × GivesLine (Ok PieceFault) old new left left'
  LineSays (Err e) old new left left' = (old.waiting ≡ None) × GivesLine (Err e) old new left left'

  read_says : (result : Result Piece NoMemory) (old new : Held) (left left' : Option (List ℕ)) → old.waiting ≡ None → GivesLine result old new left left' → LineSays result old new left left'
  read_says (Ok (Line line)) old new left left' none gives = λ below. takes_read line old new left left' none gives
  read_says (Ok PieceEnd) old new left left' none gives = (none, gives)
  read_says (Ok PieceLong) old new left left' none gives = (none, gives)
  read_says (Ok PieceFault) old new left left' none gives = (none, gives)
  read_says (Err e) old new left left' none gives = (none, gives)

  waiting_says : (waiting : Option (List ℕ)) (result : Result Piece NoMemory) (old new : Held) (left left' : Option (List ℕ)) → old.waiting ≡ waiting
      → IfSome waiting (λ line. (result ≡ Ok (Line line)) × (new ≡ record old { waiting = None }) × (left' ≡ left)) → (old.waiting ≡ None → GivesLine result old new left left')
      → LineSays result old new left left'
  waiting_says None result old new left left' is again gives = read_says result old new left left' is (gives is)
  waiting_says (Some line) result old new left left' is again gives =
      subst (λ (r : Result Piece NoMemory). LineSays r old new left left') (sym again.0) (λ below. takes_back line old new left left' is again.1 again.2 below)

  pub line_says : (result : Result Piece NoMemory) (old new : Held) (left left' : Option (List ℕ))
      → IfSome old.waiting (λ line. (result ≡ Ok (Line line)) × (new ≡ record old { waiting = None }) × (left' ≡ left)) → (old.waiting ≡ None → GivesLine result old new left left')
      → LineSays result old new left left'
  line_says result old new left left' again gives = waiting_says old.waiting result old new left left' refl again gives

  -- what a call for a frame answers where its call for a line gave none
  pub end_without_line : (old new : Held) (left left' : Option (List ℕ)) → LineSays (Ok PieceEnd) old new left left' → ReadsFrame wants (Ok End) old new left left'
  end_without_line old new left left' (none, (a, ended, nothing)) = (
    [],
    moves_line old new left left' [] none a,
    record { none = close-none wants (beginning_of old) new.bytes none ∙ ap (frames_to_end wants old.given (InLine [])) nothing; ended = ended },
  )

  pub long_without_line : (old new : Held) (left left' : Option (List ℕ)) → LineSays (Ok PieceLong) old new left left' → ReadsFrame wants (Ok TooLong) old new left left'
  long_without_line old new left left' (none, (a, long)) =
      let same : new.given ≡ old.given = a.passes.count ∙ add-zero old.given in (
        [],
        moves_line old new left left' [] none a,
        record {
          long = λ more end. close-none wants (beginning_of old) (new.bytes ++ more) none
              ∙ (ap (λ (n : ℕ). frames_to_end wants n (InLine []) (new.bytes ++ more)) (sym same) ∙ frames_to_end-too_long wants new more a.passes.below end long);
        },
      )

  pub fault_without_line : (old new : Held) (left left' : Option (List ℕ)) → LineSays (Ok PieceFault) old new left left' → ReadsFrame wants (Ok ReadFault) old new left left'
  fault_without_line old new left left' (none, (a, going, part)) = (
    [],
    moves_line old new left left' [] none a,
    going,
    record { none = (parts_of (onward-none wants (beginning_of old) new.bytes none ∙ part_made wants old.given [] new.bytes part.one part.short (omega (arith, part.below, a.passes.count)))).1 },
  )

  pub no_memory_without_line : (old new : Held) (left left' : Option (List ℕ)) (e : NoMemory) → LineSays (Err e) old new left left' → ReadsFrame wants (Err e) old new left left'
  no_memory_without_line old new left left' e (none, a) = ([], moves_line old new left left' [] none a)

-- after a last line a block passes over nothing
nothing_more : (mid new : Held) (left left' : Option (List ℕ)) (given : List ℕ) → mid.ended ≡ true → mid.bytes ≡ [] → Passes mid new left left' given → (given ≡ []) × (new.bytes ≡ [])
nothing_more mid new left left' given ended last b =
    let kept : [] ≡ given ++ new.bytes = sym (ap₂ (λ (x y : List ℕ). x ++ y) last (b.once ended).1) ∙ b.kept in
    nothing_cases given new.bytes kept where
      nothing_cases : (xs ys : List ℕ) → [] ≡ xs ++ ys → (xs ≡ []) × (ys ≡ [])
      nothing_cases [] ys is = (refl, sym is)
      nothing_cases (x ∷ xs) ys is = absurd (cc (is))

last_whole : (size : ℕ) (line block : List ℕ) → length block ≡ size → block ≡ [] → last_frame line size ≡ Whole line block
last_whole zero line block is none = ap (Whole line) (sym none)
last_whole (suc size) line block is none = absurd (omega (arith, is, ap length none))

last_cut : (size : ℕ) (line : List ℕ) → 0 < size → last_frame line size ≡ Cut line []
last_cut zero line some = absurd (omega arith)
last_cut (suc size) line some = refl

-- A line was taken, and then the call for its block was made.
module _ (wants : List ℕ → Option ℕ) (old mid new : Held) (left between left' : Option (List ℕ)) (line given : List ℕ) (size : ℕ) (is : size ≡ block_len wants line) (t : TakesLine wants line old mid left between given) where
  held_before : (block : List ℕ) → mid.bytes ≡ block ++ new.bytes → Needed (IsPartOfFrame wants) old new (given ++ block)
  held_before block held = record {
    earlier = t.moves.needed.earlier;
    last = t.moves.needed.last;
    whole = t.moves.needed.whole ∙ (ap (λ (l : List ℕ). given ++ l) held ∙ sym (append_assoc given block new.bytes));
    short = t.moves.needed.short;
    part = t.moves.needed.part;
  }

  -- so much of the block
  part_onward : (bytes : List ℕ) → made_onward wants (beginning_of old) given ≡ ended_line wants line → length bytes < size → old.given + length given + length bytes < INPUT_LIMIT
      → made_onward wants (beginning_of old) (given ++ bytes) ≡ still (InBlock line bytes (block_len wants line - length bytes))
  part_onward bytes made few low =
      onward-append wants (beginning_of old) given bytes (ended_line wants line) made
      ∙ asked_part_made wants (old.given + length given) line bytes (block_len wants line) (omega (arith, few, is)) low

  needed_part : (block : List ℕ) (b : Needed (IsPartOfBlock size) mid new block) → IsPartOfBlock size (record mid { bytes = b.earlier }) → made_onward wants (beginning_of old) given ≡ ended_line wants line → Needed (IsPartOfFrame wants) old new (given ++ block)
  needed_part block b part made = record {
    earlier = given ++ b.earlier;
    last = b.last;
    whole = append_assoc given b.earlier b.last ∙ (ap (λ (l : List ℕ). given ++ l) b.whole ∙ sym (append_assoc given block new.bytes));
    short = b.short;
    part = inr (record { none = (parts_of (part_onward b.earlier made part.short (omega (arith, part.below, t.moves.passes.count)))).1 });
  }

  needed_block : (block : List ℕ) → Moves (IsPartOfBlock size) mid new between left' block → Needed (IsPartOfFrame wants) old new (given ++ block)
  needed_block block b = elim b.needed.part [
    | inl held ↦ held_before block (sym (append-nil mid.bytes) ∙ (ap₂ (λ (x y : List ℕ). x ++ y) (sym held.0) (sym held.1) ∙ b.needed.whole))
    | inr part ↦ needed_cases part t.made
  ] where
    needed_cases : IsPartOfBlock size (record mid { bytes = b.needed.earlier }) → (made_onward wants (beginning_of old) given ≡ ended_line wants line) ⊎ IsLast wants line old mid given → Needed (IsPartOfFrame wants) old new (given ++ block)
    needed_cases part (inl made) = needed_part block b.needed part made
    needed_cases part (inr last) =
        let none = nothing_more mid new between left' block last.ended last.last b.passes in
        held_before block (last.last ∙ sym (ap₂ (λ (x y : List ℕ). x ++ y) none.0 none.1))

  moves_block : (block : List ℕ) → Moves (IsPartOfBlock size) mid new between left' block → Moves (IsPartOfFrame wants) old new left left' (given ++ block)
  moves_block block b = record {
    passes = Passes-more old mid new left between left' given block t.moves.passes b.passes;
    needed = needed_block block b;
  }

  no_more : (given ++ []) ++ new.bytes ≡ given ++ new.bytes
  no_more = ap (λ (x : List ℕ). x ++ new.bytes) (append-nil given)

  pub frame_of_block : (block : List ℕ) → GivesBlock size (Ok (Line block)) mid new between left' → ReadsFrame wants (Ok (Read line block)) old new left left'
  frame_of_block block (b, whole) = (given ++ block, moves_block block b, frame_cases t.made) where
    frame_cases : (made_onward wants (beginning_of old) given ≡ ended_line wants line) ⊎ IsLast wants line old mid given → IsFrame wants line block old (given ++ block) ⊎ IsLastFrame wants line block old (given ++ block) new
    frame_cases (inl made) = inl (record {
      one = onward-append wants (beginning_of old) given block (ended_line wants line) made
          ∙ asked_made wants (old.given + length given) line block (block_len wants line) (whole ∙ is) (omega (arith, t.moves.passes.count, b.passes.count, b.passes.below));
    })
    frame_cases (inr last) =
        let none = nothing_more mid new between left' block last.ended last.last b.passes in
        inr (record {
          one = ap (frames_to_close wants (beginning_of old)) (ap (λ (l : List ℕ). given ++ l) none.0 ∙ append-nil given)
              ∙ (last.frames ∙ ap (λ (f : Frame). f ∷ []) (last_whole (block_len wants line) line block (whole ∙ is) none.0));
          ended = (b.passes.once last.ended).0;
          last = none.1;
        })

  pub end_of_block : GivesBlock size (Ok PieceEnd) mid new between left' → ReadsFrame wants (Ok Ended) old new left left'
  end_of_block (b, at_end, part) = (given ++ [], moves_block [] b, let cut = end_cases t.made in record { line = cut.0; part = cut.1; one = cut.2; ended = at_end }) where
    end_cases : (made_onward wants (beginning_of old) given ≡ ended_line wants line) ⊎ IsLast wants line old mid given → (line part : List ℕ) × (frames_to_close wants (beginning_of old) ((given ++ []) ++ new.bytes) ≡ Cut line part ∷ [])
    end_cases (inl made) =
        let in_block = still (InBlock line new.bytes (block_len wants line - length new.bytes)) in (
          line,
          new.bytes,
          ap (frames_to_close wants (beginning_of old)) no_more
              ∙ close-made wants (beginning_of old) (given ++ new.bytes) in_block (part_onward new.bytes made part.short (omega (arith, part.below, t.moves.passes.count, b.passes.count))),
        )
    end_cases (inr last) =
        let none = nothing_more mid new between left' [] last.ended last.last b.passes in (
          line,
          [],
          ap (frames_to_close wants (beginning_of old)) (ap₂ (λ (x y : List ℕ). x ++ y) (append-nil given) none.1 ∙ append-nil given)
              ∙ (last.frames ∙ ap (λ (f : Frame). f ∷ []) (last_cut (block_len wants line) line (omega (arith, part.short, is)))),
        )

  pub long_of_block : GivesBlock size (Ok PieceLong) mid new between left' → ReadsFrame wants (Ok TooLong) old new left left'
  long_of_block (b, long) = (given ++ [], moves_block [] b, record { long = λ more end. long_by t.made more }) where
    here : new.given ≡ old.given + length given
    here = omega (arith, t.moves.passes.count, b.passes.count)

    long_by : (made_onward wants (beginning_of old) given ≡ ended_line wants line) ⊎ IsLast wants line old mid given → (more : List ℕ) → frames_to_close wants (beginning_of old) ((given ++ []) ++ (new.bytes ++ more)) ≡ frames.TooLong ∷ []
    long_by (inl made) more =
        ap (λ (x : List ℕ). frames_to_close wants (beginning_of old) (x ++ (new.bytes ++ more))) (append-nil given)
        ∙ (close-append wants (beginning_of old) given (new.bytes ++ more) (ended_line wants line) made
        ∙ (ap (λ (n : ℕ). (ended_line wants line).frames ++ frames_to_end wants n (ended_line wants line).place (new.bytes ++ more)) (sym here)
        ∙ long_cases wants new line more (block_len wants line) b.passes.below (record { here = long.here; within = omega (arith, long.within, is) })))
    long_by (inr last) more =
        let none = nothing_more mid new between left' [] last.ended last.last b.passes in
        absurd (omega (arith, long.here, b.passes.below, ap length none.1))

  pub fault_of_block : GivesBlock size (Ok PieceFault) mid new between left' → ReadsFrame wants (Ok ReadFault) old new left left'
  fault_of_block (b, going, part) = (given ++ [], moves_block [] b, going, record { none = fault_cases t.made }) where
    fault_cases : (made_onward wants (beginning_of old) given ≡ ended_line wants line) ⊎ IsLast wants line old mid given → frames_onward wants (beginning_of old) ((given ++ []) ++ new.bytes) ≡ []
    fault_cases (inl made) =
        ap (frames_onward wants (beginning_of old)) no_more
        ∙ (parts_of (part_onward new.bytes made part.short (omega (arith, part.below, t.moves.passes.count, b.passes.count)))).1
    fault_cases (inr last) = absurd (false≢true (sym going ∙ (b.passes.once last.ended).0))

  pub no_memory_of_block : (e : NoMemory) → GivesBlock size (Err e) mid new between left' → ReadsFrame wants (Err e) old new left left'
  no_memory_of_block e b = (given ++ [], moves_block [] b)
