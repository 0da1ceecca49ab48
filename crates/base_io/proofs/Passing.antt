-- Calls of a reader one after another, and one read of its source.
use Rattle.std.proofs.Common.{◌≡◌, ℕ, ◌+◌, ◌<◌, ◌≤◌, List, [], ◌++◌, Bool, true, false, Option, None, Ok, inl, inr, length, take, refl, ap, ap₂, sym, ◌∙◌, arith, append_assoc, add-zero, length-append}
use Rattle.std.proofs.lemmas.List.{append-nil, take_at}
use Rattle.base_names.specs.Outside.{Reads}
use Rattle.base_names.proofs.Outside.{Reads-none, Reads-more}
use Rattle.base_io.specs.declared.limits.TheConstants.{INPUT_LIMIT}
use Rattle.base_io.specs.declared.source.Got.TheVariants.{Bytes}
use Rattle.base_io.specs.Buffered.{Fills}
use Rattle.base_io.specs.Held.{Held}
use Rattle.base_io.specs.Lines.{has_line_feed, is_too_long}
use Rattle.base_io.specs.Reader.{Passes, Needed, Moves, IsPartOfLine}

-- no call
pub Passes-none : (held : Held) (left : Option (List ℕ)) → held.given < INPUT_LIMIT → held.waiting ≡ None → Passes held held left left []
Passes-none held left below none = record {
  moved = [];
  read = Reads-none left;
  kept = append-nil held.bytes;
  count = sym (add-zero held.given);
  below = below;
  waiting = none;
  once = λ ended. (ended, refl);
  at_end = λ at ended. at ended;
}

-- one call after another
pub Passes-more : (old mid new : Held) (left between left' : Option (List ℕ)) (first then : List ℕ) → Passes old mid left between first → Passes mid new between left' then → Passes old new left left' (first ++ then)
Passes-more old mid new left between left' first then a b = record {
  moved = a.moved ++ b.moved;
  read = Reads-more left between left' a.moved b.moved a.read b.read;
  kept =
      sym (append_assoc old.bytes a.moved b.moved)
      ∙ (ap (λ (l : List ℕ). l ++ b.moved) a.kept
      ∙ (append_assoc first mid.bytes b.moved
      ∙ (ap (λ (l : List ℕ). first ++ l) b.kept
      ∙ sym (append_assoc first then new.bytes))));
  count = omega (arith, a.count, b.count, length-append first then);
  below = b.below;
  waiting = b.waiting;
  once = λ ended.
      let middle = a.once ended in
      let last = b.once middle.0 in
      (last.0, ap (λ (l : List ℕ). l ++ b.moved) middle.1 ∙ last.1);
  at_end = λ at ended. b.at_end (a.at_end at) ended;
}

-- a read that gave some bytes, or none at the end of the source
pub Passes-read : (old now : Held) (bytes : List ℕ) (ended : Bool) (left between left' : Option (List ℕ)) (n : ℕ) → Passes old now left between [] → now.ended ≡ false → Fills (Ok (Bytes n)) now.bytes bytes between left' → (ended ≡ true → n ≡ 0) → Passes old (record now { bytes = bytes; ended = ended }) left left' []
Passes-read old now bytes ended left between left' n a going (moved, read, held, len, short, end) none =
    Passes-more old now (record now { bytes = bytes; ended = ended }) left between left' [] [] a (record {
      moved = moved;
      read = read;
      kept = sym held;
      count = sym (add-zero now.given);
      below = a.below;
      waiting = a.waiting;
      once = λ was. absurd (cc (was, going));
      at_end = λ _ is. end (none is);
    })

-- a read that gave nothing and isn't the end
pub Passes-still : (old now : Held) (bytes : List ℕ) (left between left' : Option (List ℕ)) → Passes old now left between [] → now.ended ≡ false → Reads between left' [] → bytes ≡ now.bytes → Passes old (record now { bytes = bytes }) left left' []
Passes-still old now bytes left between left' a going read held =
    Passes-more old now (record now { bytes = bytes }) left between left' [] [] a (record {
      moved = [];
      read = read;
      kept = append-nil now.bytes ∙ sym held;
      count = sym (add-zero now.given);
      below = a.below;
      waiting = a.waiting;
      once = λ was. absurd (cc (was, going));
      at_end = λ _ is. absurd (cc (is, going));
    })

-- no read was needed where what was held served
pub Needed-none : (IsPart : Held → Type 0) (old new : Held) (given : List ℕ) → old.bytes ≡ given ++ new.bytes → Needed IsPart old new given
Needed-none IsPart old new given is = record {
  earlier = old.bytes;
  last = [];
  whole = append-nil old.bytes ∙ is;
  short = omega arith;
  part = inl (refl, refl);
}

-- the same of one that changed in nothing but what it holds, or not even in that
pub Needed-still : (IsPart : Held → Type 0) (old now : Held) (bytes : List ℕ) → Needed IsPart old now [] → bytes ≡ now.bytes → Needed IsPart old (record now { bytes = bytes }) []
Needed-still IsPart old now bytes a held = record { earlier = a.earlier; last = a.last; whole = a.whole ∙ sym held; short = a.short; part = a.part }

-- a read that was needed
pub Needed-read : (IsPart : Held → Type 0) (old new : Held) (held : List ℕ) (left left' : Option (List ℕ)) (n : ℕ) → IsPart (record old { bytes = held }) → Fills (Ok (Bytes n)) held new.bytes left left' → Needed IsPart old new []
Needed-read IsPart old new held left left' n part (moved, read, is, len, short, end) = record {
  earlier = held;
  last = moved;
  whole = sym is;
  short = omega (arith, len, short);
  part = inr part;
}

-- a call for a line, or a part of one, after a call that gave nothing
Needed-after : (old mid new : Held) (given : List ℕ) → mid.given ≡ old.given → Needed IsPartOfLine old mid [] → Needed IsPartOfLine mid new given → Needed IsPartOfLine old new given
Needed-after old mid new given same a b = elim b.part [
  | inl held ↦ record {
    earlier = a.earlier;
    last = a.last;
    whole = a.whole ∙ (sym (append-nil mid.bytes) ∙ (ap₂ (λ (x y : List ℕ). x ++ y) (sym held.0) (sym held.1) ∙ b.whole));
    short = a.short;
    part = a.part;
  }
  | inr part ↦ record {
    earlier = b.earlier;
    last = b.last;
    whole = b.whole;
    short = b.short;
    part = inr (record { one = part.one; short = part.short; below = omega (arith, part.below, same) });
  }
]

pub Moves-after : (old mid new : Held) (left between left' : Option (List ℕ)) (given : List ℕ) → Moves IsPartOfLine old mid left between [] → Moves IsPartOfLine mid new between left' given → Moves IsPartOfLine old new left left' given
Moves-after old mid new left between left' given a b = record {
  passes = Passes-more old mid new left between left' [] given a.passes b.passes;
  needed = Needed-after old mid new given (a.passes.count ∙ add-zero old.given) a.needed b.needed;
}

pub Moves-still : (IsPart : Held → Type 0) (old now : Held) (bytes : List ℕ) (left between left' : Option (List ℕ)) → Moves IsPart old now left between [] → now.ended ≡ false → Reads between left' [] → bytes ≡ now.bytes → Moves IsPart old (record now { bytes = bytes }) left left' []
Moves-still IsPart old now bytes left between left' a going read held = record {
  passes = Passes-still old now bytes left between left' a.passes going read held;
  needed = Needed-still IsPart old now bytes a.needed held;
}

-- a read that gave some bytes, or none at the end of the source
pub Moves-read : (IsPart : Held → Type 0) (old now : Held) (bytes : List ℕ) (ended : Bool) (left between left' : Option (List ℕ)) (n : ℕ) → Moves IsPart old now left between [] → now.ended ≡ false → IsPart (record old { bytes = now.bytes }) → Fills (Ok (Bytes n)) now.bytes bytes between left' → (ended ≡ true → n ≡ 0) → Moves IsPart old (record now { bytes = bytes; ended = ended }) left left' []
Moves-read IsPart old now bytes ended left between left' n a going part fills none = record {
  passes = Passes-read old now bytes ended left between left' n a.passes going fills none;
  needed = Needed-read IsPart old (record now { bytes = bytes; ended = ended }) now.bytes between left' n part fills;
}

-- a read after a search that found no line feed
pub search_goes_on : (old : Held) (whole held bytes : List ℕ) (was ended : Bool) (given : ℕ) (waiting : Option (List ℕ)) (left between left' : Option (List ℕ)) (n : ℕ) → held ≡ whole
    → Moves IsPartOfLine old (record { bytes = whole; ended = was; given = given; waiting = waiting }) left between [] → was ≡ false → Fills (Ok (Bytes n)) whole bytes between left' → (ended ≡ true → n ≡ 0) → has_line_feed whole ≡ false → is_too_long held ≡ false → given + length held < INPUT_LIMIT
    → Moves IsPartOfLine old (record { bytes = bytes; ended = ended; given = given; waiting = waiting }) left left' [] × (length held ≤ length bytes) × (has_line_feed (take (length held) bytes) ≡ false)
search_goes_on old whole held bytes was ended given waiting left between left' n same a going (moved, read, is, len, short, end) none feed few below = (
  Moves-read IsPartOfLine old (record { bytes = whole; ended = was; given = given; waiting = waiting }) bytes ended left between left' n a going
      (record { one = feed; short = ap is_too_long (sym same) ∙ few; below = omega (arith, below, ap length same, a.passes.count) })
      (moved, read, is, len, short, end) none,
  omega (arith, ap length same, ap length is, length-append whole moved),
  ap (λ (l : List ℕ). has_line_feed (take (length held) l)) is ∙ (ap has_line_feed (take_at whole moved (length held) (ap length (sym same))) ∙ feed),
)
