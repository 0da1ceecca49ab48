-- The dense representation at the end of phase one.
use Rattle.std.proofs.Common.{◌≡◌, ◌∙◌, refl, sym, ap, subst, ℕ, suc, ◌+◌, ◌-◌, ◌==◌, ◌<◌, ◌≤◌, Bool, true, false, true≢false, cond, not, nat_lt, List, length, map, get_or, Some, None, arith}
use Rattle.std.specs.Prelude.{Contains, IsSome, is_some, position, remove}
use Rattle.std.specs.List.{position_or_len}
use Rattle.std.proofs.lemmas.Bool.Decides.{nat_tests}
use Rattle.std.proofs.lemmas.List.Edits.{length-remove}
use Rattle.std.proofs.lemmas.List.Sums.{prefix_len_passes}
use Rattle.frac128.specs.Fraction.{Fraction}
use Rattle.dictionary.specs.declared.dense.Dict.TheInside.{Inside}
use Rattle.dictionary.specs.Cells.{rows_of}
use Rattle.dictionary.specs.Dense.{dictionary_of, width_of}
use Rattle.dictionary.specs.Dictionary.{Dictionary, end_phase_one}
use Rattle.dictionary.proofs.Opened.{same_dictionary}

-- the artificial variable has a place
pub place_within : (xs : List ℕ) → Contains xs 0 → position_or_len (λ index. index == 0) xs < length xs
place_within xs (k, within, here) =
    let passes : k < position_or_len (λ index. index == 0) xs → not (get_or xs k 0 == 0) ≡ true = prefix_len_passes (λ index. not (index == 0)) xs k 0 in
    let stops : k < position_or_len (λ index. index == 0) xs → 1 ≤ 0 = λ before. absurd (true≢false (sym (subst (λ n. not (n == 0) ≡ true) here (passes before)))) in
    grind (arith, stops, within)

place_by_test : (within : Bool) (n i : ℕ) → cond within (Some n) None ≡ Some i → (i ≡ n) × (within ≡ true)
place_by_test true n i h = (cc, refl)
place_by_test false n i h = absurd (cc)

pub place_is : (xs : List ℕ) (i : ℕ) → position (λ index. index == 0) xs ≡ Some i → i ≡ position_or_len (λ index. index == 0) xs
place_is xs i h = (place_by_test (nat_lt (position_or_len (λ index. index == 0) xs) (length xs)) (position_or_len (λ index. index == 0) xs) i h).0

pub place_there : (xs : List ℕ) → Contains xs 0 → IsSome (position (λ index. index == 0) xs)
place_there xs h =
    let within : position_or_len (λ index. index == 0) xs < length xs = place_within xs h in
    let test : nat_lt (position_or_len (λ index. index == 0) xs) (length xs) ≡ true = grind (arith, nat_tests) in
    ap (λ (t : Bool). is_some (cond t (Some (position_or_len (λ index. index == 0) xs)) None)) test

pub ended : (d : Inside) (place : ℕ) (nonbasic : List ℕ) (cells objective : List Fraction)
    → place ≡ position_or_len (λ index. index == 0) d.nonbasic.items → place < length d.nonbasic.items
    → nonbasic ≡ remove d.nonbasic.items place → objective ≡ remove d.objective.items (place + 1)
    → rows_of (width_of d - 1) (length d.basic.items) cells ≡ map (λ row. remove row (place + 1)) (rows_of (width_of d) (length d.basic.items) d.cells.items)
    → let made : Dictionary = record { basic = d.basic.items; nonbasic = nonbasic; rows = rows_of (suc (length nonbasic)) (length d.basic.items) cells; objective = objective; auxiliary = None } in made ≡ end_phase_one (dictionary_of d)
unfolding end_phase_one
ended d place nonbasic cells objective at within n o r =
    let next : place + 1 ≡ suc (position_or_len (λ index. index == 0) d.nonbasic.items) = omega arith in
    let back : suc (position_or_len (λ index. index == 0) d.nonbasic.items) - 1 ≡ place = omega arith in
    let shorter : length (remove d.nonbasic.items place) + 1 ≡ length d.nonbasic.items = length-remove d.nonbasic.items place within in
    let width : suc (length nonbasic) ≡ width_of d - 1 = omega (arith, ap length n) in
    same_dictionary _ _ _ _ _ _ _ _ _ _ refl (n ∙ ap (remove d.nonbasic.items) (sym back))
    (ap (λ w. rows_of w (length d.basic.items) cells) width ∙ r ∙ ap (λ i. map (λ row. remove row i) (rows_of (width_of d) (length d.basic.items) d.cells.items)) next)
    (o ∙ ap (remove d.objective.items) next) refl
