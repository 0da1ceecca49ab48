-- What a reader gives of what it holds.
use Rattle.std.proofs.Common.{◌≡◌, ℕ, ◌+◌, ◌-◌, ◌<◌, ◌≤◌, suc, List, [], ◌∷◌, ◌++◌, Bool, true, false, ◌==◌, cond, Option, None, Result, Ok, Err, inl, inr, length, take, drop, refl, ap, sym, ◌∙◌, arith, append_assoc, length-append}
use Rattle.std.specs.Prelude.{IfOk, OnErr, slice_index}
use Rattle.std.proofs.lemmas.List.{append-nil, take_at, take_all, take-take, length-take-le, take-append-drop, drop_all}
use Rattle.base_names.specs.declared.memory.NoMemory.{NoMemory}
use Rattle.base_names.proofs.Outside.{Reads-none}
use Rattle.base_io.specs.declared.limits.TheConstants.{LINE_LIMIT, INPUT_LIMIT}
use Rattle.base_io.specs.declared.piece.Piece.{Piece}
use Rattle.base_io.specs.declared.piece.Piece.TheVariants.{Line, End, TooLong, ReadFault}
use Rattle.base_io.specs.Held.{Held}
use Rattle.base_io.specs.Lines.{without_return, IsEndAt}
use Rattle.base_io.specs.Reader.{Passes, Moves, IsEndedLine, IsPartOfLine, GivesLine}
use Rattle.base_io.proofs.Passing.{Passes-none, Needed-none, Moves-after}

-- a call after one that gave nothing
pub GivesLine-after : (result : Result Piece NoMemory) (old mid new : Held) (left left' : Option (List ℕ)) → Moves IsPartOfLine old mid left left' [] → GivesLine result mid new left' left' → GivesLine result old new left left'
GivesLine-after (Ok (Line line)) old mid new left left' a (given, b, is, short) = (given, Moves-after old mid new left left' left' given a b, is, short)
GivesLine-after (Ok End) old mid new left left' a (b, ended, none) = (Moves-after old mid new left left' left' [] a b, ended, none)
GivesLine-after (Ok TooLong) old mid new left left' a (b, long) = (Moves-after old mid new left left' left' [] a b, long)
GivesLine-after (Ok ReadFault) old mid new left left' a (b, going, part) = (Moves-after old mid new left left' left' [] a b, going, part)
GivesLine-after (Err e) old mid new left left' a b = Moves-after old mid new left left' left' [] a b

-- the first bytes are passed over
pub Passes-front : (old : Held) (left : Option (List ℕ)) (n : ℕ) → old.waiting ≡ None → n ≤ length old.bytes → old.given + n < INPUT_LIMIT → Passes old (record old { bytes = drop n old.bytes; given = old.given + n }) left left (take n old.bytes)
Passes-front old left n none high below = record {
  moved = [];
  read = Reads-none left;
  kept = append-nil old.bytes ∙ sym (take-append-drop n old.bytes);
  count = ap (λ (k : ℕ). old.given + k) (sym (length-take-le n old.bytes high));
  below = below;
  waiting = none;
  once = λ ended. (ended, refl);
  at_end = λ at ended. at ended;
}

-- and nothing was read for them
pub Moves-front : (IsPart : Held → Type 0) (old : Held) (left : Option (List ℕ)) (n : ℕ) → old.waiting ≡ None → n ≤ length old.bytes → old.given + n < INPUT_LIMIT → Moves IsPart old (record old { bytes = drop n old.bytes; given = old.given + n }) left left (take n old.bytes)
Moves-front IsPart old left n none high below = record {
  passes = Passes-front old left n none high below;
  needed = Needed-none IsPart old (record old { bytes = drop n old.bytes; given = old.given + n }) (take n old.bytes) (sym (take-append-drop n old.bytes));
}

pub Moves-none : (IsPart : Held → Type 0) (held : Held) (left : Option (List ℕ)) → held.given < INPUT_LIMIT → held.waiting ≡ None → Moves IsPart held held left left []
Moves-none IsPart held left below none = record { passes = Passes-none held left below none; needed = Needed-none IsPart held held [] refl }

-- a line without its carriage return is a front of it
pub take-without_return : (line : List ℕ) → take (length (without_return line)) line ≡ without_return line
take-without_return [] = refl
take-without_return (byte ∷ []) = of_one (byte == 13) where
  of_one : (test : Bool) → take (length (cond test [] (byte ∷ []))) (byte ∷ []) ≡ cond test [] (byte ∷ [])
  of_one true = refl
  of_one false = refl
take-without_return (byte ∷ next ∷ bytes) = ap (λ (l : List ℕ). byte ∷ l) (take-without_return (next ∷ bytes))

pub length-without_return : (line : List ℕ) → (length (without_return line) ≤ length line) × (length line ≤ length (without_return line) + 1)
length-without_return [] = (omega arith, omega arith)
length-without_return (byte ∷ []) = of_one (byte == 13) where
  of_one : (test : Bool) → (length (cond test [] (byte ∷ [])) ≤ 1) × (1 ≤ length (cond test [] (byte ∷ [])) + 1)
  of_one true = (omega arith, omega arith)
  of_one false = (omega arith, omega arith)
length-without_return (byte ∷ next ∷ bytes) = let rest = length-without_return (next ∷ bytes) in (omega (arith, rest.0), omega (arith, rest.1))

-- it is the line without its last byte, where that is a carriage return
pub trimmed : (line : List ℕ) → cond (slice_index line (length line - 1) == 13) (take (length line - 1) line) line ≡ without_return line
trimmed [] = refl
trimmed (byte ∷ []) = refl
trimmed (byte ∷ next ∷ bytes) =
    let n = length (next ∷ bytes) - 1 in
    let place : length (byte ∷ next ∷ bytes) - 1 ≡ suc n = omega arith in
    ap (λ (k : ℕ). cond (slice_index (byte ∷ next ∷ bytes) k == 13) (take k (byte ∷ next ∷ bytes)) (byte ∷ next ∷ bytes)) place
    ∙ (later n (slice_index (next ∷ bytes) n == 13) ∙ ap (λ (l : List ℕ). byte ∷ l) (trimmed (next ∷ bytes))) where
      later : (n : ℕ) (test : Bool) → cond test (byte ∷ take n (next ∷ bytes)) (byte ∷ next ∷ bytes) ≡ byte ∷ cond test (take n (next ∷ bytes)) (next ∷ bytes)
      later n true = refl
      later n false = refl

ended_line_is : (place len : ℕ) (bytes : List ℕ) → IsEndAt place bytes → len ≡ length (without_return (take place bytes)) → IsEndedLine (take len bytes) (take (place + 1) bytes)
ended_line_is place len bytes there is =
    let size : length (take place bytes) ≡ place = length-take-le place bytes (omega (arith, there.below)) in
    let less : len ≤ place = omega (arith, is, (length-without_return (take place bytes)).0, size) in
    record {
      body = take place bytes;
      whole =
          ap (take (place + 1)) (there.cut ∙ sym (append_assoc (take place bytes) (10 ∷ []) (drop (place + 1) bytes)))
          ∙ take_at (take place bytes ++ 10 ∷ []) (drop (place + 1) bytes) (place + 1) (omega (arith, length-append (take place bytes) (10 ∷ []), size));
      one = there.first;
      line_is = sym (take-take len place bytes less) ∙ (ap (λ (n : ℕ). take n (take place bytes)) is ∙ take-without_return (take place bytes));
    }

-- the line that a line feed at this place ends is given
pub gives_ended_line : (result : Result Piece NoMemory) (old new : Held) (left : Option (List ℕ)) (place len : ℕ) → old.waiting ≡ None → old.given < INPUT_LIMIT → IsEndAt place old.bytes → len ≡ length (without_return (take place old.bytes)) → len ≤ LINE_LIMIT → old.given + (place + 1) < INPUT_LIMIT
    → IfOk result (λ piece. (piece ≡ Line (take len old.bytes)) × (new ≡ record old { bytes = drop (place + 1) old.bytes; given = old.given + (place + 1) }))
    → OnErr result (new ≡ old)
    → GivesLine result old new left left
gives_ended_line (Ok piece) old new left place len none now there is short below (piece_is, new_is) err =
    let size : length (take len old.bytes) ≡ len =
    length-take-le len old.bytes (omega (arith, is, (length-without_return (take place old.bytes)).0, length-take-le place old.bytes (omega (arith, there.below)), there.below)) in
    rw (piece_is, new_is) (
      take (place + 1) old.bytes,
      Moves-front IsPartOfLine old left (place + 1) none (omega (arith, there.below)) below,
      inl (ended_line_is place len old.bytes there is),
      rw size short,
    )
gives_ended_line (Err e) old new left place len none now there is short below ok same = rw same (Moves-none IsPartOfLine old left now none)

-- what is held is given, as the last line
pub gives_last_line : (result : Result Piece NoMemory) (old new : Held) (left : Option (List ℕ)) (len : ℕ) → old.waiting ≡ None → old.ended ≡ true → IsPartOfLine old → len ≡ length old.bytes → 0 < len → len ≤ LINE_LIMIT
    → IfOk result (λ piece. (piece ≡ Line (take len old.bytes)) × (new ≡ record old { bytes = drop len old.bytes; given = old.given + len }))
    → OnErr result (new ≡ old)
    → GivesLine result old new left left
gives_last_line (Ok piece) old new left len none ended part is some short (piece_is, new_is) err =
    let whole : take len old.bytes ≡ old.bytes = take_all len old.bytes (omega (arith, is)) in
    rw (piece_is, new_is) (
      take len old.bytes,
      Moves-front IsPartOfLine old left len none (omega (arith, is)) (omega (arith, is, part.below)),
      inr (record {
        whole = refl;
        one = rw whole part.one;
        some = rw whole (omega (arith, is, some));
        ended = ended;
        last = drop_all len old.bytes (omega (arith, is));
      }),
      rw whole (omega (arith, is, short)),
    )
gives_last_line (Err e) old new left len none ended part is some short ok same = rw same (Moves-none IsPartOfLine old left (omega (arith, part.below)) none)
