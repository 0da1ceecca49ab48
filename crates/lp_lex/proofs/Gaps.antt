-- White space and comments, walked over byte by byte.
use Rattle.std.proofs.Common.{◌≡◌, refl, sym, ◌∙◌, ap, ap₂, ℕ, ◌+◌, ◌<◌, ◌≤◌, Bool, true, false, cond, ◌&&◌, not, List, [], ◌∷◌, length, drop, arith, ◌==◌, add-one}
use Rattle.std.specs.List.{slice_index}
use Rattle.std.proofs.lemmas.Bool.{cond-false}
use Rattle.std.proofs.lemmas.List.{drop_all}
use Rattle.std.proofs.lemmas.Bool.Decides.{nat_tests}
use Rattle.std.proofs.Math.Seq.{drop-cons}
use Rattle.lp_defs.specs.declared.token.Place.{Place}
use Rattle.lp_defs.specs.Tokens.{Part, gap, comment, run, is_run, part_after, is_white, line_feed, backslash, behind_byte, behind_bytes, runs_from}
use Rattle.lp_lex.specs.Ahead.{IsWithin, IsGap, end_ahead, runs_ahead}

-- what the byte before belongs to
abbrev pub part_of : Bool → Part
part_of true = comment
part_of false = gap

-- everything from one place to another is white space and comments, and the second place is in a comment or isn't
pub record IsScanned (text : List ℕ) (from place : Place) (in_comment : Bool) : Type 0 where
  pub within : IsWithin text place
  pub forward : from.offset ≤ place.offset
  pub same_runs : runs_from (part_of in_comment) place (drop place.offset text) ≡ runs_ahead text from
  pub same_end : end_ahead text place ≡ end_ahead text from

pub not_begun : (before : Part) (place : Place) (byte : ℕ) (bytes : List ℕ) → is_run (part_after before byte) ≡ false → runs_from before place (byte ∷ bytes) ≡ runs_from (part_after before byte) (behind_byte place byte) bytes
unfolding runs_from
not_begun before place byte bytes h =
    let more = runs_from (part_after before byte) (behind_byte place byte) bytes in
    cond-false _ _ more (ap (λ b. b && not (is_run before)) h)

pub behind_byte-offset : (place : Place) (byte : ℕ) → (behind_byte place byte).offset ≡ place.offset + 1
behind_byte-offset place byte = elim (byte == line_feed) as (λ b. (cond {A = Place} b (record { line = place.line + 1; column = 1; offset = place.offset + 1 }) (record { line = place.line; column = place.column + 1; offset = place.offset + 1 })).offset ≡ place.offset + 1) [ true ↦ refl | false ↦ refl ]

pub within_on : (text : List ℕ) (place : Place) (byte : ℕ) → IsWithin text place → place.offset < length text → IsWithin text (behind_byte place byte)
within_on text place byte w h =
    let P : Bool → Type 0 = λ b. IsWithin text (cond {A = Place} b (record { line = place.line + 1; column = 1; offset = place.offset + 1 }) (record { line = place.line; column = place.column + 1; offset = place.offset + 1 })) in
    let line = w.line in
    let column = w.column in
    let short = w.short in
    elim (byte == line_feed) as P [
      | true ↦ record { in_text = omega arith; short = short; line = omega arith; column = omega arith }
      | false ↦ record { in_text = omega arith; short = short; line = omega arith; column = omega arith }
    ]

-- the byte at a place, and what is behind it
pub ahead_of : (text : List ℕ) (place : Place) → place.offset < length text → drop place.offset text ≡ slice_index text place.offset ∷ drop (place.offset + 1) text
ahead_of text place h = rw add-one (drop-cons text place.offset 0 h)

pub scanned_on : (text : List ℕ) (from place : Place) (before after : Bool) → IsScanned text from place before → place.offset < length text → part_after (part_of before) (slice_index text place.offset) ≡ part_of after → IsScanned text from (behind_byte place (slice_index text place.offset)) after
unfolding behind_bytes
scanned_on text from place before after s h e =
    let byte = slice_index text place.offset in
    let next = behind_byte place byte in
    let rest : drop next.offset text ≡ drop (place.offset + 1) text = ap (λ n. drop n text) (behind_byte-offset place byte) in
    let behind = behind_byte-offset place byte in
    let so_far = s.forward in
    let forward : from.offset ≤ next.offset = omega arith in
    let none : is_run (part_after (part_of before) byte) ≡ false = ap is_run e ∙ no_run after in
    record {
      within = within_on text place byte s.within h;
      forward = forward;
      same_runs =
          ap₂ (λ (p : Part) (bs : List ℕ). runs_from p next bs) (sym e) rest
          ∙ (sym (not_begun (part_of before) place byte (drop (place.offset + 1) text) none)
          ∙ (ap (runs_from (part_of before) place) (sym (ahead_of text place h)) ∙ s.same_runs));
      same_end = ap (behind_bytes next) rest ∙ (ap (behind_bytes place) (sym (ahead_of text place h)) ∙ s.same_end);
    }
  where
    no_run : (b : Bool) → is_run (part_of b) ≡ false
    no_run true = refl
    no_run false = refl

-- one byte of each sort
pub comment_goes_on : (byte : ℕ) (before after : Bool) → before ≡ true → after ≡ not (byte == line_feed) → part_after (part_of before) byte ≡ part_of after
comment_goes_on byte before after b a = ap (λ p. part_after (part_of p) byte) b ∙ (by_end (byte == line_feed) ∙ ap part_of (sym a))
  where
    by_end : (e : Bool) → cond e gap comment ≡ part_of (not e)
    by_end true = refl
    by_end false = refl

pub comment_begins : (byte : ℕ) (before after : Bool) → before ≡ false → byte ≡ backslash → after ≡ true → part_after (part_of before) byte ≡ part_of after
comment_begins byte before after b e a = ap₂ (λ (p : Bool) (x : ℕ). part_after (part_of p) x) b e ∙ ap part_of (sym a)

pub white_goes_on : (byte : ℕ) (before after : Bool) → before ≡ false → (byte ≡ backslash → ⊥) → is_white byte ≡ true → after ≡ before → part_after (part_of before) byte ≡ part_of after
white_goes_on byte before after b other w a =
    let not_begun : (byte == backslash) ≡ false = grind (arith, nat_tests, other) in
    ap (λ p. part_after (part_of p) byte) b ∙ (ap₂ (λ (s t : Bool). cond s comment (cond t gap run)) not_begun w ∙ ap part_of (sym (a ∙ b)))

-- at the end of the text nothing is left to begin a run
pub IsGap-at_end : (text : List ℕ) (from place : Place) (in_comment : Bool) → IsScanned text from place in_comment → length text ≤ place.offset → IsGap text from place
unfolding runs_from
IsGap-at_end text from place in_comment s h =
    let none : drop place.offset text ≡ [] = drop_all place.offset text h in
    record {
      within = s.within;
      forward = s.forward;
      same_runs = ap (runs_from gap place) none ∙ (sym (nothing in_comment) ∙ (ap (runs_from (part_of in_comment) place) (sym none) ∙ s.same_runs));
      same_end = s.same_end;
    }
  where
    nothing : (b : Bool) → runs_from (part_of b) place [] ≡ []
    nothing true = refl
    nothing false = refl

-- one byte nearer to the end
pub end_on : (text : List ℕ) (place : Place) → place.offset < length text → end_ahead text (behind_byte place (slice_index text place.offset)) ≡ end_ahead text place
unfolding behind_bytes
end_on text place h =
    let next = behind_byte place (slice_index text place.offset) in
    ap (λ n. behind_bytes next (drop n text)) (behind_byte-offset place (slice_index text place.offset)) ∙ ap (behind_bytes place) (sym (ahead_of text place h))

pub end_reached : (text : List ℕ) (place : Place) → length text ≤ place.offset → end_ahead text place ≡ place
unfolding behind_bytes
end_reached text place h = ap (behind_bytes place) (drop_all place.offset text h)
