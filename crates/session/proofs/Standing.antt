-- The loop of a dialogue: what holds between two lines, and what each way out of it says of the whole.
use Rattle.std.proofs.Common.{◌≡◌, ℕ, true, false, List, [], ◌∷◌, ◌++◌, Bool, length, length-append, Option, ◌⊎◌, inl, inr, refl, sym, ap, ap₂, ◌∙◌, subst, arith, append_assoc}
use Rattle.std.proofs.lemmas.List.{append-nil}
use Rattle.std.proofs.lemmas.Bool.{false≢true, cases_Bool}
use Rattle.base_names.specs.Outside.{Reads, Writes, IsAtEnd}
use Rattle.base_names.specs.Prefix.{IsPrefix}
use Rattle.base_names.proofs.Outside.{Reads-none, Reads-more, Writes-none, Writes-more, IsAtEnd-at}
use Rattle.base_io.specs.Frames.{Frame, Whole, Cut, InLine, made_from, frames_to_end}
use Rattle.base_io.proofs.Frames.{parts_of}
use Rattle.base_io.specs.Held.{Held}
use Rattle.base_io.specs.Reader.{Passes, Needed, Moves}
use Rattle.session.specs.Beginning.{Beginning, beginning_of, frames_onward, frames_to_close}
use Rattle.session.specs.Dialogue.{Told, told_nothing, told_both, IsFront, Course, Going, Over, Long, Said, Dialogue, is_going, is_over, is_long, says_nothing, behind, said, said_to, said_so_far}
use Rattle.session.specs.Framing.{IsFrame, IsLastFrame, IsPartOfFrame, IsNoFrame, IsEnd, IsCut, IsTooLong}
use Rattle.session.specs.Talk.{Talked, Answered}
use Rattle.session.specs.Writing.{Writing, MayFollow, IsNeeded, writing_by}
use Rattle.session.specs.declared.talking.End.TheVariants.{Bye, Closed, ReadFault, WriteFault, TooLong, NoMemory}
use Rattle.session.proofs.Beginnings.{onward-append, close-append, onward-none, close-none}
use Rattle.session.proofs.Dialogues.{told_both-nothing, IsFront-more, behind-more, behind-nothing, said-over}

nil≢cons : {frame : Frame} → [] ≡ frame ∷ [] → ⊥
nil≢cons h = cc

-- what a call for the next frame leaves may still come
possible : (old new : Held) (left left' : Option (List ℕ)) (given rest : List ℕ) → Passes old new left left' given → (new.ended ≡ true → rest ≡ new.bytes) → old.ended ≡ true → given ++ rest ≡ old.bytes
possible old new left left' given rest passes same ended =
    let once = passes.once ended in
    ap (λ (bytes : List ℕ). given ++ bytes) (same once.0) ∙ (sym passes.kept ∙ (ap (λ (bytes : List ℕ). old.bytes ++ bytes) once.1 ∙ append-nil old.bytes))

-- a source that has not said its end now had not said it before
still_going : (old new : Held) (left left' : Option (List ℕ)) (more : List ℕ) → Passes old new left left' more → new.ended ≡ false → old.ended ≡ false
still_going old new left left' more passes going = elim (cases_Bool old.ended) [
  | inl ended ↦ absurd (false≢true (sym going ∙ (passes.once ended).0))
  | inr other ↦ other
]

-- the frames of what was given and what may still come
module _ (wants : List ℕ → Option ℕ) (line block : List ℕ) (old new : Held) (left left' : Option (List ℕ)) (more : List ℕ) (passes : Passes old new left left' more) where
  next_frames : (rest : List ℕ) → IsFrame wants line block old more ⊎ IsLastFrame wants line block old more new → (new.ended ≡ true → rest ≡ new.bytes)
      → frames_to_close wants (beginning_of old) (more ++ rest) ≡ Whole line block ∷ frames_to_close wants (beginning_of new) rest
  next_frames rest (inl frame) same =
      close-append wants (beginning_of old) more rest (record { frames = Whole line block ∷ []; place = InLine [] }) frame.one
      ∙ ap (λ (fs : List Frame). Whole line block ∷ fs)
      (ap (λ (n : ℕ). frames_to_end wants n (InLine []) rest) (sym passes.count) ∙ sym (close-none wants (beginning_of new) rest passes.waiting))
  next_frames rest (inr frame) same =
      let none : rest ≡ [] = same frame.ended ∙ frame.last in
      ap (frames_to_close wants (beginning_of old)) (ap (λ (l : List ℕ). more ++ l) none ∙ append-nil more)
      ∙ (frame.one ∙ ap (λ (fs : List Frame). Whole line block ∷ fs) (sym (close-none wants (beginning_of new) rest passes.waiting ∙ ap (frames_to_end wants new.given (InLine [])) none)))

  next_onward : (rest : List ℕ) → IsFrame wants line block old more ⊎ IsLastFrame wants line block old more new → new.ended ≡ false
      → frames_onward wants (beginning_of old) (more ++ rest) ≡ Whole line block ∷ frames_onward wants (beginning_of new) rest
  next_onward rest (inr frame) going = absurd (false≢true (sym going ∙ frame.ended))
  next_onward rest (inl frame) going =
      (parts_of (onward-append wants (beginning_of old) more rest (record { frames = Whole line block ∷ []; place = InLine [] }) frame.one)).1
      ∙ ap (λ (fs : List Frame). Whole line block ∷ fs)
      (ap (λ (n : ℕ). (made_from wants n (InLine []) rest).frames) (sym passes.count) ∙ sym (parts_of (onward-none wants (beginning_of new) rest passes.waiting)).1)

-- Where a dialogue stands between two lines: for each input that may still come, all that it tells is what was told,
-- and then what it tells of the rest.
pub record Follows {Session Deed : Type 0} (dialogue : Dialogue Session Deed) (beginning : Beginning) (first now : Session) (given : List ℕ) (told : Told Deed) (held : Held) : Type 0 where
  pub whole : (rest : List ℕ) → (held.ended ≡ true → rest ≡ held.bytes) → said_to dialogue beginning first (given ++ rest) ≡ behind told (said dialogue (Going now) (frames_to_close dialogue.wants (beginning_of held) rest))
  pub so_far : (rest : List ℕ) → held.ended ≡ false → said_so_far dialogue beginning first (given ++ rest) ≡ behind told (said dialogue (Going now) (frames_onward dialogue.wants (beginning_of held) rest))

-- `reader` is what the reader was before the first line, and `held` what it is now.
pub record Stands {Session Deed : Type 0} (dialogue : Dialogue Session Deed) (first now : Session) (reader : Held) (told : Told Deed) (left left' contents contents' : Option (List ℕ)) (held : Held) : Type 0 where
  pub given : List ℕ
  pub taken : List ℕ
  pub read : Reads left left' taken
  pub seen : reader.bytes ++ taken ≡ given ++ held.bytes
  pub wrote : Writes contents contents' told.text
  pub at_end : held.ended ≡ true → IsAtEnd left'
  pub follows : Follows dialogue (beginning_of reader) first now given told held
  pub needed : (taken ≡ []) ⊎ IsNeeded (writing_by dialogue (beginning_of reader) first) (given ++ held.bytes) told

-- what is needed stays so when more is told
IsNeeded-more : {Deed : Type 0} (writing : Writing Deed) (taken : List ℕ) (told more : Told Deed) → IsNeeded writing taken told → IsNeeded writing taken (told_both told more)
IsNeeded-more writing taken told more needed = record {
  before = needed.before;
  last = needed.last;
  whole = needed.whole;
  short = needed.short;
  going = needed.going;
  answered = IsFront-more (writing.so_far needed.before) told more needed.answered;
}

-- a call that read nothing took nothing
same_taken : (given more held held' : List ℕ) → held ≡ more ++ held' → given ++ held ≡ (given ++ more) ++ held'
same_taken given more held held' is = ap (λ (l : List ℕ). given ++ l) is ∙ sym (append_assoc given more held')

-- what may still come where a call has ended
rest_held : (held : Held) (left : Option (List ℕ)) (rest : List ℕ) → (held.ended ≡ true → IsAtEnd left) → MayFollow left rest → held.ended ≡ true → rest ≡ []
rest_held held left rest at_end (inl none) ended = none
rest_held held left rest at_end (inr is) ended = IsAtEnd-at left rest (at_end ended) is

module _ {Session Deed : Type 0} (dialogue : Dialogue Session Deed) (first now : Session) where
  pub Stands-start : (reader : Held) (left contents : Option (List ℕ)) → (reader.ended ≡ true → IsAtEnd left) → Stands dialogue first first reader told_nothing left left contents contents reader
  Stands-start reader left contents at_end = record {
    given = [];
    taken = [];
    read = Reads-none left;
    seen = append-nil reader.bytes;
    wrote = Writes-none contents;
    at_end = at_end;
    follows = record { whole = λ rest same. refl; so_far = λ rest going. refl };
    needed = inl refl;
  }

  module _ (beginning : Beginning) (given : List ℕ) (told : Told Deed) (old new : Held) (left left' : Option (List ℕ)) (more : List ℕ) (follows : Follows dialogue beginning first now given told old) (passes : Passes old new left left' more) where
    -- after one more call no read was made too early or too much
    needed_part : (taken moved : List ℕ) → Needed (IsPartOfFrame dialogue.wants) old new more → old.ended ≡ false → passes.moved ≡ moved
        → (taken ≡ []) ⊎ IsNeeded (writing_by dialogue beginning first) (given ++ old.bytes) told
        → (taken ++ moved ≡ []) ⊎ IsNeeded (writing_by dialogue beginning first) ((given ++ more) ++ new.bytes) told
    needed_part taken moved needed going moves before = elim needed.part [
      | inl same ↦
          let held : old.bytes ≡ more ++ new.bytes = sym (append-nil old.bytes) ∙ (ap₂ (λ (x y : List ℕ). x ++ y) (sym same.0) (sym same.1) ∙ needed.whole) in
          still_needed taken moved held moves before
      | inr part ↦
          let so : said_so_far dialogue beginning first (given ++ needed.earlier) ≡ record { told = told; course = Going now } =
          follows.so_far needed.earlier going ∙ (ap (λ (fs : List Frame). behind told (said dialogue (Going now) fs)) part.none ∙ behind-nothing told (Going now)) in
          inr (record {
            before = given ++ needed.earlier;
            last = needed.last;
            whole = append_assoc given more new.bytes ∙ (ap (λ (l : List ℕ). given ++ l) (sym needed.whole) ∙ sym (append_assoc given needed.earlier needed.last));
            short = needed.short;
            going = ap (λ (s : Said Session Deed). is_going s.course) so;
            answered = (told_nothing, told_both-nothing (said_so_far dialogue beginning first (given ++ needed.earlier)).told ∙ ap (λ (s : Said Session Deed). s.told) so);
          })
    ] where
      nothing_moved : (moved : List ℕ) → old.bytes ≡ old.bytes ++ moved → moved ≡ []
      nothing_moved [] is = refl
      nothing_moved (x ∷ xs) is = absurd (omega (arith, ap length is, length-append old.bytes (x ∷ xs)))

      still_needed : (taken moved : List ℕ) → old.bytes ≡ more ++ new.bytes → passes.moved ≡ moved → (taken ≡ []) ⊎ IsNeeded (writing_by dialogue beginning first) (given ++ old.bytes) told
          → (taken ++ moved ≡ []) ⊎ IsNeeded (writing_by dialogue beginning first) ((given ++ more) ++ new.bytes) told
      still_needed taken moved held moves (inl none) = inl (ap₂ (λ (x y : List ℕ). x ++ y) none (nothing_moved moved (held ∙ (sym passes.kept ∙ ap (λ (l : List ℕ). old.bytes ++ l) moves))))
      still_needed taken moved held moves (inr needed) = inr (subst (λ (l : List ℕ). IsNeeded (writing_by dialogue beginning first) l told) (same_taken given more old.bytes new.bytes held) needed)

    needed_ended : (taken : List ℕ) → old.ended ≡ true
        → (taken ≡ []) ⊎ IsNeeded (writing_by dialogue beginning first) (given ++ old.bytes) told
        → (taken ++ passes.moved ≡ []) ⊎ IsNeeded (writing_by dialogue beginning first) ((given ++ more) ++ new.bytes) told
    needed_ended taken ended (inl none) = inl (ap₂ (λ (x y : List ℕ). x ++ y) none (passes.once ended).1)
    needed_ended taken ended (inr needed) =
        inr (subst (λ (l : List ℕ). IsNeeded (writing_by dialogue beginning first) l told)
        (same_taken given more old.bytes new.bytes (sym (append-nil old.bytes) ∙ (ap (λ (l : List ℕ). old.bytes ++ l) (sym (passes.once ended).1) ∙ passes.kept)))
        needed)

    needed_on : (taken : List ℕ) → Needed (IsPartOfFrame dialogue.wants) old new more
        → (taken ≡ []) ⊎ IsNeeded (writing_by dialogue beginning first) (given ++ old.bytes) told
        → (taken ++ passes.moved ≡ []) ⊎ IsNeeded (writing_by dialogue beginning first) ((given ++ more) ++ new.bytes) told
    needed_on taken needed before = elim (cases_Bool old.ended) [
      | inl ended ↦ needed_ended taken ended before
      | inr going ↦ needed_part taken passes.moved needed going refl before
    ]

    module _ (line block : List ℕ) (frame : IsFrame dialogue.wants line block old more ⊎ IsLastFrame dialogue.wants line block old more new) where
      -- all that is told, where a line was answered
      said_whole : (rest : List ℕ) → (new.ended ≡ true → rest ≡ new.bytes)
          → said_to dialogue beginning first ((given ++ more) ++ rest) ≡ behind (told_both told (dialogue.answer now line block).told) (said dialogue (dialogue.answer now line block).course (frames_to_close dialogue.wants (beginning_of new) rest))
      said_whole rest same =
          let next = dialogue.answer now line block in
          ap (said_to dialogue beginning first) (append_assoc given more rest)
          ∙ (follows.whole (more ++ rest) (possible old new left left' more rest passes same)
          ∙ (ap (λ (fs : List Frame). behind told (said dialogue (Going now) fs)) (next_frames dialogue.wants line block old new left left' more passes rest frame same)
          ∙ behind-more told next.told (said dialogue next.course (frames_to_close dialogue.wants (beginning_of new) rest))))

      -- and what is told so far
      said_part : (rest : List ℕ) → new.ended ≡ false
          → said_so_far dialogue beginning first ((given ++ more) ++ rest) ≡ behind (told_both told (dialogue.answer now line block).told) (said dialogue (dialogue.answer now line block).course (frames_onward dialogue.wants (beginning_of new) rest))
      said_part rest going =
          let next = dialogue.answer now line block in
          ap (said_so_far dialogue beginning first) (append_assoc given more rest)
          ∙ (follows.so_far (more ++ rest) (still_going old new left left' more passes going)
          ∙ (ap (λ (fs : List Frame). behind told (said dialogue (Going now) fs)) (next_onward dialogue.wants line block old new left left' more passes rest frame going)
          ∙ behind-more told next.told (said dialogue next.course (frames_onward dialogue.wants (beginning_of new) rest))))

-- One call for a frame was made, behind which this is so.
module _ {Session Deed : Type 0} (dialogue : Dialogue Session Deed) (first now : Session) (reader old new : Held) (told : Told Deed) (left between left' contents middle : Option (List ℕ)) (more : List ℕ) (stands : Stands dialogue first now reader told left between contents middle old) (moves : Moves (IsPartOfFrame dialogue.wants) old new between left' more) where
  -- all that was taken from the source, and what was held before it
  taken : List ℕ
  taken = stands.taken ++ moves.passes.moved

  was_read : Reads left left' taken
  unfolding taken
  was_read = Reads-more left between left' stands.taken moves.passes.moved stands.read moves.passes.read

  was_seen : reader.bytes ++ taken ≡ (stands.given ++ more) ++ new.bytes
  unfolding taken
  was_seen =
      sym (append_assoc reader.bytes stands.taken moves.passes.moved)
      ∙ (ap (λ (l : List ℕ). l ++ moves.passes.moved) stands.seen
      ∙ (append_assoc stands.given old.bytes moves.passes.moved
      ∙ (ap (λ (l : List ℕ). stands.given ++ l) moves.passes.kept ∙ sym (append_assoc stands.given more new.bytes))))

  given_needed : (taken ≡ []) ⊎ IsNeeded (writing_by dialogue (beginning_of reader) first) ((stands.given ++ more) ++ new.bytes) told
  unfolding taken
  given_needed = needed_on dialogue first now (beginning_of reader) stands.given told old new between left' more stands.follows moves.passes stands.taken moves.needed stands.needed

  was_needed : (next : Told Deed) → (taken ≡ []) ⊎ IsNeeded (writing_by dialogue (beginning_of reader) first) ((stands.given ++ more) ++ new.bytes) (told_both told next)
  was_needed next = elim given_needed [
    | inl none ↦ inl none
    | inr needed ↦ inr (IsNeeded-more (writing_by dialogue (beginning_of reader) first) ((stands.given ++ more) ++ new.bytes) told next needed)
  ]

  seen_needed : (all : Told Deed) → (taken ≡ []) ⊎ IsNeeded (writing_by dialogue (beginning_of reader) first) ((stands.given ++ more) ++ new.bytes) all → (taken ≡ []) ⊎ IsNeeded (writing_by dialogue (beginning_of reader) first) (reader.bytes ++ taken) all
  seen_needed all needed = subst (λ (l : List ℕ). (taken ≡ []) ⊎ IsNeeded (writing_by dialogue (beginning_of reader) first) l all) (sym was_seen) needed

  -- and what may still come
  seen-rest : (rest : List ℕ) → (reader.bytes ++ taken) ++ rest ≡ (stands.given ++ more) ++ (new.bytes ++ rest)
  seen-rest rest = ap (λ (l : List ℕ). l ++ rest) was_seen ∙ append_assoc (stands.given ++ more) new.bytes rest

  no_rest : (rest : List ℕ) → MayFollow left' rest → new.ended ≡ true → rest ≡ []
  no_rest rest may = rest_held new left' rest (moves.passes.at_end stands.at_end) may

  same_rest : (rest : List ℕ) → MayFollow left' rest → new.ended ≡ true → new.bytes ++ rest ≡ new.bytes
  same_rest rest may ended = ap (λ (l : List ℕ). new.bytes ++ l) (no_rest rest may ended) ∙ append-nil new.bytes

  said-rest : (rest : List ℕ) → MayFollow left' rest → said_to dialogue (beginning_of reader) first ((reader.bytes ++ taken) ++ rest) ≡ behind told (said dialogue (Going now) (frames_to_close dialogue.wants (beginning_of old) (more ++ (new.bytes ++ rest))))
  said-rest rest may =
      ap (said_to dialogue (beginning_of reader) first) (seen-rest rest ∙ append_assoc stands.given more (new.bytes ++ rest))
      ∙ stands.follows.whole (more ++ (new.bytes ++ rest)) (possible old new between left' more (new.bytes ++ rest) moves.passes (same_rest rest may))

  told_at : (rest : List ℕ) (course : Course Session) (over long : Bool) → is_over course ≡ over → is_long course ≡ long
      → said_to dialogue (beginning_of reader) first ((reader.bytes ++ taken) ++ rest) ≡ behind told (says_nothing course)
      → Answered (writing_by dialogue (beginning_of reader) first) (reader.bytes ++ taken) told rest over long
  told_at rest course over long is_over_is is_long_is is =
      let all = is ∙ behind-nothing told course in
      record {
        whole = sym (ap (λ (s : Said Session Deed). s.told) all);
        is_over = ap (λ (s : Said Session Deed). is_over s.course) all ∙ is_over_is;
        is_too_long = ap (λ (s : Said Session Deed). is_long s.course) all ∙ is_long_is;
      }

  -- where the input ended behind these frames
  ended-rest : (frames : List Frame) (rest : List ℕ) → new.ended ≡ true → frames_to_close dialogue.wants (beginning_of old) (more ++ new.bytes) ≡ frames → MayFollow left' rest
      → said_to dialogue (beginning_of reader) first ((reader.bytes ++ taken) ++ rest) ≡ behind told (said dialogue (Going now) frames)
  ended-rest frames rest ended are may =
      said-rest rest may
      ∙ (ap (λ (bytes : List ℕ). behind told (said dialogue (Going now) (frames_to_close dialogue.wants (beginning_of old) (more ++ bytes)))) (same_rest rest may ended)
      ∙ ap (λ (fs : List Frame). behind told (said dialogue (Going now) fs)) are)

  closed_by : (frames : List Frame) → new.ended ≡ true → frames_to_close dialogue.wants (beginning_of old) (more ++ new.bytes) ≡ frames → said dialogue (Going now) frames ≡ says_nothing (Going now)
      → Talked Closed (writing_by dialogue (beginning_of reader) first) reader.bytes told left left' contents middle
  closed_by frames ended are silent = record {
    taken = taken;
    read = was_read;
    wrote = stands.wrote;
    needed = seen_needed told given_needed;
    says = (
      moves.passes.at_end stands.at_end ended,
      λ rest may. told_at rest (Going now) false false refl refl (ended-rest frames rest ended are may ∙ ap (behind told) silent),
    );
  }

  -- the input ended before another frame
  pub Talked-closed : IsEnd dialogue.wants old more new → Talked Closed (writing_by dialogue (beginning_of reader) first) reader.bytes told left left' contents middle
  Talked-closed end = closed_by [] end.ended end.none refl

  -- the input ended within a block, to which nothing is said
  pub Talked-cut : (cut : IsCut dialogue.wants old more new) → dialogue.cut now cut.line cut.part ≡ says_nothing (Going now)
      → Talked Closed (writing_by dialogue (beginning_of reader) first) reader.bytes told left left' contents middle
  Talked-cut cut silent = closed_by (Cut cut.line cut.part ∷ []) cut.ended cut.one (ap (λ (s : Said Session Deed). behind s.told (said dialogue s.course [])) silent)

  -- the input ended within a block, and with that the dialogue
  pub Talked-cut_over : (cut : IsCut dialogue.wants old more new) (answer : Said Session Deed) → dialogue.cut now cut.line cut.part ≡ answer → answer.course ≡ Over → (contents' : Option (List ℕ)) → Writes middle contents' answer.told.text
      → Talked Bye (writing_by dialogue (beginning_of reader) first) reader.bytes (told_both told answer.told) left left' contents contents'
  Talked-cut_over cut answer is over contents' wrote = record {
    taken = taken;
    read = was_read;
    wrote = Writes-more contents middle contents' told.text answer.told.text stands.wrote wrote;
    needed = seen_needed (told_both told answer.told) (was_needed answer.told);
    says = λ rest may.
        let all : said_to dialogue (beginning_of reader) first ((reader.bytes ++ taken) ++ rest) ≡ record { told = told_both told answer.told; course = Over } =
        ended-rest (Cut cut.line cut.part ∷ []) rest cut.ended cut.one may
        ∙ (ap (λ (s : Said Session Deed). behind told (behind s.told (said dialogue s.course []))) is
        ∙ (ap (behind told) (behind-nothing answer.told answer.course)
        ∙ ap (λ (c : Course Session). let s : Said Session Deed = record { told = told_both told answer.told; course = c } in s) over)) in
        record {
          whole = sym (ap (λ (s : Said Session Deed). s.told) all);
          is_over = ap (λ (s : Said Session Deed). is_over s.course) all;
          is_too_long = ap (λ (s : Said Session Deed). is_long s.course) all;
        };
  }

  -- what comes next is too long
  pub Talked-too_long : IsTooLong dialogue.wants old more new → Talked TooLong (writing_by dialogue (beginning_of reader) first) reader.bytes told left left' contents middle
  Talked-too_long too_long = record {
    taken = taken;
    read = was_read;
    wrote = stands.wrote;
    needed = seen_needed told given_needed;
    says = λ rest may. told_at rest Long false true refl refl (said-rest rest may
        ∙ ap (λ (fs : List Frame). behind told (said dialogue (Going now) fs)) (too_long.long rest (no_rest rest may)));
  }

  -- a read failed before another frame was whole
  pub Talked-read_fault : new.ended ≡ false → IsNoFrame dialogue.wants old more new → Talked ReadFault (writing_by dialogue (beginning_of reader) first) reader.bytes told left left' contents middle
  Talked-read_fault going none = record {
    taken = taken;
    read = was_read;
    wrote = stands.wrote;
    needed = seen_needed told given_needed;
    says = sym (ap (λ (s : Said Session Deed). s.told)
        (ap (said_so_far dialogue (beginning_of reader) first) (was_seen ∙ append_assoc stands.given more new.bytes)
        ∙ (stands.follows.so_far (more ++ new.bytes) (still_going old new between left' more moves.passes going)
        ∙ (ap (λ (fs : List Frame). behind told (said dialogue (Going now) fs)) none.none ∙ behind-nothing told (Going now)))));
  }

  -- no memory for another frame
  pub Talked-no_frame : Talked NoMemory (writing_by dialogue (beginning_of reader) first) reader.bytes told left left' contents middle
  Talked-no_frame = record {
    taken = taken;
    read = was_read;
    wrote = stands.wrote;
    needed = seen_needed told given_needed;
    says = λ rest may. (
      (said dialogue (Going now) (frames_to_close dialogue.wants (beginning_of old) (more ++ (new.bytes ++ rest)))).told,
      sym (ap (λ (s : Said Session Deed). s.told) (said-rest rest may)),
    );
  }

  module _ (line block : List ℕ) (answer : Said Session Deed) (is : dialogue.answer now line block ≡ answer) (frame : IsFrame dialogue.wants line block old more ⊎ IsLastFrame dialogue.wants line block old more new) where
    answered-rest : (rest : List ℕ) → MayFollow left' rest → said_to dialogue (beginning_of reader) first ((reader.bytes ++ taken) ++ rest) ≡ behind (told_both told answer.told) (said dialogue answer.course (frames_to_close dialogue.wants (beginning_of new) (new.bytes ++ rest)))
    answered-rest rest may =
        ap (said_to dialogue (beginning_of reader) first) (seen-rest rest)
        ∙ (said_whole dialogue first now (beginning_of reader) stands.given told old new between left' more stands.follows moves.passes line block frame (new.bytes ++ rest) (same_rest rest may)
        ∙ ap (λ (s : Said Session Deed). behind (told_both told s.told) (said dialogue s.course (frames_to_close dialogue.wants (beginning_of new) (new.bytes ++ rest)))) is)

    -- the line was answered, and the dialogue goes on
    pub Stands-next : (next : Session) (contents' : Option (List ℕ)) → Writes middle contents' answer.told.text → answer.course ≡ Going next → Stands dialogue first next reader (told_both told answer.told) left left' contents contents' new
    Stands-next next contents' wrote goes = record {
      given = stands.given ++ more;
      taken = taken;
      read = was_read;
      seen = was_seen;
      wrote = Writes-more contents middle contents' told.text answer.told.text stands.wrote wrote;
      at_end = moves.passes.at_end stands.at_end;
      follows = record {
        whole = λ rest same.
            said_whole dialogue first now (beginning_of reader) stands.given told old new between left' more stands.follows moves.passes line block frame rest same
            ∙ (ap (λ (s : Said Session Deed). behind (told_both told s.told) (said dialogue s.course (frames_to_close dialogue.wants (beginning_of new) rest))) is
            ∙ ap (λ (c : Course Session). behind (told_both told answer.told) (said dialogue c (frames_to_close dialogue.wants (beginning_of new) rest))) goes);
        so_far = λ rest going.
            said_part dialogue first now (beginning_of reader) stands.given told old new between left' more stands.follows moves.passes line block frame rest going
            ∙ (ap (λ (s : Said Session Deed). behind (told_both told s.told) (said dialogue s.course (frames_onward dialogue.wants (beginning_of new) rest))) is
            ∙ ap (λ (c : Course Session). behind (told_both told answer.told) (said dialogue c (frames_onward dialogue.wants (beginning_of new) rest))) goes);
      };
      needed = was_needed answer.told;
    }

    -- it was the last answer
    pub Talked-over : (contents' : Option (List ℕ)) → Writes middle contents' answer.told.text → answer.course ≡ Over → Talked Bye (writing_by dialogue (beginning_of reader) first) reader.bytes (told_both told answer.told) left left' contents contents'
    Talked-over contents' wrote goes = record {
      taken = taken;
      read = was_read;
      wrote = Writes-more contents middle contents' told.text answer.told.text stands.wrote wrote;
      needed = seen_needed (told_both told answer.told) (was_needed answer.told);
      says = λ rest may.
          let after = frames_to_close dialogue.wants (beginning_of new) (new.bytes ++ rest) in
          let all : said_to dialogue (beginning_of reader) first ((reader.bytes ++ taken) ++ rest) ≡ record { told = told_both told answer.told; course = Over } =
          answered-rest rest may
          ∙ (ap (λ (c : Course Session). behind (told_both told answer.told) (said dialogue c after)) goes
          ∙ (ap (behind (told_both told answer.told)) (said-over dialogue after)
          ∙ behind-nothing (told_both told answer.told) Over)) in
          record {
            whole = sym (ap (λ (s : Said Session Deed). s.told) all);
            is_over = ap (λ (s : Said Session Deed). is_over s.course) all;
            is_too_long = ap (λ (s : Said Session Deed). is_long s.course) all;
          };
    }

    told_front : List ℕ → Told Deed
    told_front front = record { text = front; deeds = answer.told.deeds }

    -- a front of the answer was written, and all was done
    front_of-rest : (front rest : List ℕ) → IsPrefix front answer.told.text → MayFollow left' rest → IsFront (told_both told (told_front front)) ((writing_by dialogue (beginning_of reader) first).whole ((reader.bytes ++ taken) ++ rest))
    unfolding told_front
    front_of-rest front rest (back, whole) may =
        let after = (said dialogue answer.course (frames_to_close dialogue.wants (beginning_of new) (new.bytes ++ rest))).told in
        let more : Told Deed = record { text = back ++ after.text; deeds = after.deeds } in
        let text : (told.text ++ front) ++ (back ++ after.text) ≡ (told.text ++ answer.told.text) ++ after.text =
        sym (append_assoc (told.text ++ front) back after.text)
        ∙ ap (λ (l : List ℕ). l ++ after.text) (append_assoc told.text front back ∙ ap (λ (l : List ℕ). told.text ++ l) whole) in (
          more,
          ap (λ (l : List ℕ). let t : Told Deed = record { text = l; deeds = (told.deeds ++ answer.told.deeds) ++ after.deeds } in t) text
              ∙ sym (ap (λ (s : Said Session Deed). s.told) (answered-rest rest may)),
        )

    pub Talked-write_fault : (contents' : Option (List ℕ)) (front : List ℕ) → IsPrefix front answer.told.text → Writes middle contents' front → Talked WriteFault (writing_by dialogue (beginning_of reader) first) reader.bytes (told_both told (record { text = front; deeds = answer.told.deeds })) left left' contents contents'
    unfolding told_front
    Talked-write_fault contents' front prefix wrote = record {
      taken = taken;
      read = was_read;
      wrote = Writes-more contents middle contents' told.text front stands.wrote wrote;
      needed = seen_needed (told_both told (record { text = front; deeds = answer.told.deeds })) (was_needed (record { text = front; deeds = answer.told.deeds }));
      says = λ rest may. front_of-rest front rest prefix may;
    }

    -- nothing of the answer was written, and all was done
    pub Talked-no_answer : (contents' : Option (List ℕ)) → contents' ≡ middle → Talked NoMemory (writing_by dialogue (beginning_of reader) first) reader.bytes (told_both told (record { text = []; deeds = answer.told.deeds })) left left' contents contents'
    unfolding told_front
    Talked-no_answer contents' same = record {
      taken = taken;
      read = was_read;
      wrote = subst (λ (c : Option (List ℕ)). Writes contents c (told.text ++ [])) (sym same) (Writes-more contents middle middle told.text [] stands.wrote (Writes-none middle));
      needed = seen_needed (told_both told (record { text = []; deeds = answer.told.deeds })) (was_needed (record { text = []; deeds = answer.told.deeds }));
      says = λ rest may. front_of-rest [] rest (answer.told.text, refl) may;
    }
