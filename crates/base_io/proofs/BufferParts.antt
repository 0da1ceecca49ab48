-- What is held in a buffer, as a part of its bytes.
use Rattle.std.proofs.Common.{◌≡◌, ℕ, ◌+◌, ◌-◌, ◌≤◌, List, [], ◌++◌, length, take, drop, ap, sym, ◌∙◌, arith, length-append, length-drop}
use Rattle.std.specs.Prelude.{slice_range}
use Rattle.std.proofs.Math.Seq.{take-append-add}
use Rattle.std.proofs.lemmas.List.{append-nil, take_at, drop-drop, drop-append-le, drop_all, length-take-le}
use Rattle.std.proofs.lemmas.Slice.{between_is}
use borrow.Rule.Slice.PartMut.{post_of}

-- the part from a later start on
pub skip_range : (bytes : List ℕ) (start n end : ℕ) → slice_range bytes (start + n) end ≡ drop n (slice_range bytes start end)
skip_range bytes start n end =
    between_is bytes (start + n) end ∙ (sym (drop-drop n start (take end bytes)) ∙ ap (drop n) (sym (between_is bytes start end)))

-- the part with some bytes behind it
pub append_range : (written bytes new : List ℕ) (start end n : ℕ) → start ≤ end → end ≤ length bytes → n ≤ length new → written ≡ take end bytes ++ new → slice_range written start (end + n) ≡ slice_range bytes start end ++ take n new
append_range written bytes new start end n low high some is =
    let front : length (take end bytes) ≡ end = length-take-le end bytes high in
    let more : take (end + n) (take end bytes ++ new) ≡ take end bytes ++ take n new =
    rw front at (take-append-add (take end bytes) new n) in
    let skip : drop start (take end bytes ++ take n new) ≡ drop start (take end bytes) ++ take n new =
    drop-append-le start (take end bytes) (take n new) (rw front low) in
    between_is written start (end + n) ∙ (ap (λ (l : List ℕ). drop start (take (end + n) l)) is ∙ (ap (drop start) more ∙ (skip ∙ ap (λ (l : List ℕ). l ++ take n new) (sym (between_is bytes start end)))))

-- the bytes after a write to all from a place on
pub written_is : (bytes old new : List ℕ) (end len : ℕ) → old ≡ bytes → len ≡ length bytes → end ≤ length bytes → length new ≡ length bytes - end →
    take len ((take end old ++ (new ++ post_of end (length old - end) old)) ++ drop (length (take end old ++ (new ++ post_of end (length old - end) old))) bytes) ≡ take end bytes ++ new
written_is bytes old new end len same all high some =
    let none : post_of end (length old - end) old ≡ [] = drop_all (length old - end) (drop end old) (omega (arith, length-drop end old)) in
    let whole : take end old ++ (new ++ post_of end (length old - end) old) ≡ take end bytes ++ new =
    ap (λ (l : List ℕ). take end old ++ (new ++ l)) none ∙ (ap (λ (l : List ℕ). take end old ++ l) (append-nil new) ∙ ap (λ (l : List ℕ). take end l ++ new) same) in
    let size : length (take end old ++ (new ++ post_of end (length old - end) old)) ≡ len =
    ap length whole ∙ (length-append (take end bytes) new ∙ omega (arith, length-take-le end bytes high, some, all, high)) in
    take_at (take end old ++ (new ++ post_of end (length old - end) old)) (drop (length (take end old ++ (new ++ post_of end (length old - end) old))) bytes) len size ∙ whole

-- the same part, of bytes that changed behind it
pub keep_range : (written bytes new : List ℕ) (start end : ℕ) → end ≤ length bytes → written ≡ take end bytes ++ new → slice_range written start end ≡ slice_range bytes start end
keep_range written bytes new start end high is =
    between_is written start end ∙ (ap (λ (l : List ℕ). drop start (take end l)) is ∙ (ap (drop start) (take_at (take end bytes) new end (length-take-le end bytes high)) ∙ sym (between_is bytes start end)))
