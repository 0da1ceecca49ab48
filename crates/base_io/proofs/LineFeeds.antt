-- The place of the first line feed.
use Rattle.std.proofs.Common.{◌≡◌, ℕ, ◌+◌, ◌-◌, ◌≤◌, suc, List, [], ◌∷◌, ◌++◌, Bool, true, false, ◌==◌, ◌||◌, Option, Some, None, cond, length, take, drop, refl, ap, ap₂, sym, ◌∙◌, arith, add-one, add_assoc, append_assoc, length-drop}
use Rattle.std.proofs.Math.Seq.{take-add}
use Rattle.std.proofs.lemmas.List.{take_rest, drop-drop, take-append-drop}
use Rattle.std.proofs.lemmas.List.Folds.{list_any-append}
use Rattle.std.specs.Prelude.{IfSome, IfNone, MatchOption}
use Rattle.std.specs.List.{position, position_from}
use Rattle.std.proofs.lemmas.Bool.{eqb-true}
use Rattle.std.proofs.lemmas.Iterator.Adapters.{position_from-zero}
use Rattle.base_io.specs.Lines.{has_line_feed, IsEndAt}

-- behind a byte that is none
IsEndAt-cons : (byte place : ℕ) (bytes : List ℕ) → (byte == 10) ≡ false → IsEndAt place bytes → IsEndAt (suc place) (byte ∷ bytes)
IsEndAt-cons byte place bytes not there = record {
  below = omega (arith, there.below);
  cut = rw (add-one (suc place)) (ap (λ (l : List ℕ). byte ∷ l) (rw (add-one place) at there.cut));
  first = rw not there.first;
}

-- what a search from the first byte on says, where the places are counted from i on
abbrev Found : Option ℕ → ℕ → List ℕ → Type 0
Found found i bytes = MatchOption found (has_line_feed bytes ≡ false) (λ place. (k : ℕ) × (place ≡ i + k) × IsEndAt k bytes)

found_later : (found : Option ℕ) (i byte : ℕ) (bytes : List ℕ) → (byte == 10) ≡ false → Found found (i + 1) bytes → MatchOption found (has_line_feed bytes ≡ false) (λ place. (k : ℕ) × (place ≡ i + k) × IsEndAt k (byte ∷ bytes))
found_later None i byte bytes not none = none
found_later (Some place) i byte bytes not (k, is, there) = (suc k, omega (arith, is), IsEndAt-cons byte k bytes not there)

found_step : (test : Bool) (i byte : ℕ) (bytes : List ℕ) (found : Option ℕ) → (byte == 10) ≡ test → Found found (i + 1) bytes → MatchOption (cond test (Some i) found) ((test || has_line_feed bytes) ≡ false) (λ place. (k : ℕ) × (place ≡ i + k) × IsEndAt k (byte ∷ bytes))
found_step true i byte bytes found is later =
    (0, omega arith, record { below = omega arith; cut = ap (λ (b : ℕ). b ∷ bytes) (eqb-true byte 10 is); first = refl })
found_step false i byte bytes found is later = found_later found i byte bytes is later

found_from : (i : ℕ) (bytes : List ℕ) → Found (position_from (λ byte. byte == 10) i bytes) i bytes
found_from i [] = refl
found_from i (byte ∷ bytes) = found_step (byte == 10) i byte bytes (position_from (λ b. b == 10) (i + 1) bytes) refl (found_from (i + 1) bytes)

end_found : (found : Option ℕ) (bytes : List ℕ) → Found found 0 bytes → IfSome found (λ place. IsEndAt place bytes) × IfNone found (has_line_feed bytes ≡ false)
end_found None bytes none = (tt, none)
end_found (Some place) bytes (k, is, there) =
    let here : place ≡ k = omega (arith, is) in
    (rw here there, tt)

-- a search for a line feed
pub place_found : (found : Option ℕ) (bytes : List ℕ) → found ≡ position (λ byte. byte == 10) bytes → IfSome found (λ place. IsEndAt place bytes) × IfNone found (has_line_feed bytes ≡ false)
place_found found bytes is =
    let same : found ≡ position_from (λ byte. byte == 10) 0 bytes = is ∙ position_from-zero (λ byte. byte == 10) bytes in
    end_found found bytes (rw same (found_from 0 bytes))

has_line_feed-append : (xs ys : List ℕ) → has_line_feed xs ≡ false → has_line_feed ys ≡ false → has_line_feed (xs ++ ys) ≡ false
has_line_feed-append xs ys a b = list_any-append (λ byte. byte == 10) xs ys ∙ ap₂ (λ (p q : Bool). p || q) a b

-- a search in what follows the bytes that were scanned already
pub none_found : (scanned : ℕ) (held whole : List ℕ) (found : Option ℕ) → held ≡ whole → has_line_feed (take scanned whole) ≡ false → found ≡ position (λ byte. byte == 10) (take (length held - scanned) (drop scanned held)) → found ≡ None → has_line_feed whole ≡ false
none_found scanned held whole found same before is none =
    let here : found ≡ position (λ byte. byte == 10) (drop scanned whole) =
    is ∙ (ap (position (λ byte. byte == 10)) (take_rest held scanned) ∙ ap (λ (l : List ℕ). position (λ byte. byte == 10) (drop scanned l)) same) in
    let rest : has_line_feed (drop scanned whole) ≡ false = (place_found None (drop scanned whole) (sym none ∙ here)).1 in
    ap has_line_feed (sym (take-append-drop scanned whole)) ∙ has_line_feed-append (take scanned whole) (drop scanned whole) before rest

IsEndAt-later : (scanned place : ℕ) (whole : List ℕ) → scanned ≤ length whole → has_line_feed (take scanned whole) ≡ false → IsEndAt place (drop scanned whole) → IsEndAt (scanned + place) whole
IsEndAt-later scanned place whole high before there =
    let front : take (scanned + place) whole ≡ take scanned whole ++ take place (drop scanned whole) = take-add scanned place whole in
    let back : drop (scanned + place + 1) whole ≡ drop (place + 1) (drop scanned whole) =
    ap (λ (n : ℕ). drop n whole) (add_assoc scanned place 1) ∙ sym (drop-drop (place + 1) scanned whole) in
    record {
      below = omega (arith, there.below, length-drop scanned whole, high);
      cut =
          sym (take-append-drop scanned whole)
          ∙ (ap (λ (l : List ℕ). take scanned whole ++ l) there.cut
          ∙ (sym (append_assoc (take scanned whole) (take place (drop scanned whole)) (10 ∷ drop (place + 1) (drop scanned whole)))
          ∙ ap₂ (λ (a b : List ℕ). a ++ 10 ∷ b) (sym front) (sym back)));
      first = ap has_line_feed front ∙ has_line_feed-append (take scanned whole) (take place (drop scanned whole)) before there.first;
    }

pub some_found : (scanned place : ℕ) (held whole : List ℕ) (found : Option ℕ) → held ≡ whole → scanned ≤ length whole → has_line_feed (take scanned whole) ≡ false → found ≡ position (λ byte. byte == 10) (take (length held - scanned) (drop scanned held)) → found ≡ Some place → IsEndAt (scanned + place) whole
some_found scanned place held whole found same high before is some =
    let here : found ≡ position (λ byte. byte == 10) (drop scanned whole) =
    is ∙ (ap (position (λ byte. byte == 10)) (take_rest held scanned) ∙ ap (λ (l : List ℕ). position (λ byte. byte == 10) (drop scanned l)) same) in
    IsEndAt-later scanned place whole high before ((place_found (Some place) (drop scanned whole) (sym some ∙ here)).0)
